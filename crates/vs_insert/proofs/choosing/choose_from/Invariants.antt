use Rattle.vs_insert.proofs.Choices.{AreChosenDownTo}
use Rattle.vs_insert.proofs.choosing.choose_from.Given as goal

-- the lists of the layers from this one on are chosen
abbrev pub invariant-loop-layer : goal.invariant-loop-layer
invariant-loop-layer g l = AreChosenDownTo (g.N.Nodes.at l.graph.nodes) l.graph.entry l.graph.m l.graph.dim l.start l.count l.ef l.query l.layer l.here l.lists.items

abbrev pub decreases-loop-layer : goal.decreases-loop-layer
decreases-loop-layer g l = l.layer
