use Rattle.vs_graph.specs.Edits.{overwritten}
use Rattle.vs_unlink.specs.Unlinked.{IsOutBelow}
use Rattle.vs_unlink.proofs.removal.unlink_below.Given as goal

-- x is out of the layers before this one
abbrev pub invariant-loop-layer : goal.invariant-loop-layer
invariant-loop-layer g l = IsOutBelow (overwritten l.fn.edit (g.N.Nodes.at l.base)) (overwritten l.edit (g.N.Nodes.at l.base)) l.x l.layer
