use Rattle.std.proofs.Common.{◌≡◌, ◌==◌, take, length}
use Rattle.std.specs.Prelude.{filter}
use Rattle.vs_graph.specs.Edits.{overwritten}
use Rattle.vs_graph.specs.Good.{links_at}
use Rattle.vs_unlink.proofs.orphans.alone_of.Given as goal

-- those before this one that have no link
abbrev pub invariant-loop-id : goal.invariant-loop-id
invariant-loop-id g l = l.alone ≡ filter (λ y. length (links_at (overwritten l.edit (g.N.Nodes.at l.base)) l.layer y) == 0) (take l.id-index l.ids)
