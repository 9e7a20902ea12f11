use Rattle.vs_graph.specs.Edits.{overwritten}
use Rattle.vs_insert.specs.Height.{IsHighestBelow}
use Rattle.vs_insert.proofs.highest.highest_but.Given as goal

-- the best of those before this one
abbrev pub invariant-loop-id : goal.invariant-loop-id
invariant-loop-id g l = IsHighestBelow (overwritten l.edit (g.N.Nodes.at l.base)) l.but l.id l.best
