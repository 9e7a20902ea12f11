use Rattle.std.proofs.Common.{ℕ, ◌<◌, get_or}
use Rattle.std.specs.Prelude.{IsSome}
use Rattle.vs_rank.specs.declared.Key.{Key}
use Rattle.vs_graph.specs.Edits.{overwritten}
use Rattle.vs_link.proofs.tests.are_live.Given as goal

-- those before this one are members
abbrev pub invariant-loop-key : goal.invariant-loop-key
invariant-loop-key g l = (k : ℕ) (d : Key) → k < l.key-index → IsSome (overwritten l.edit (g.N.Nodes.at l.base) (get_or l.keys k d).id)
