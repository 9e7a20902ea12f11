use Rattle.vs_graph.specs.Edits.{overwritten}
use Rattle.vs_graph.specs.Good.{layers_at}
use Rattle.vs_link.specs.Linked.{AreChosen}
use Rattle.vs_graph_fixtures.proofs.picking.pick.Given as goal

abbrev pub invariant-loop-id : goal.invariant-loop-id
invariant-loop-id g l = AreChosen (layers_at (overwritten l.edit (g.N.Nodes.at l.base))) 0 l.m l.x l.chosen
