use Rattle.std.proofs.Common.{arith}
use Rattle.vs_graph.specs.NodeMap.{nodes_of}
use Rattle.vs_graph.specs.Edits.{overwritten}
use Rattle.vs_link.proofs.Drafts.{one_chosen}
use Rattle.vs_link.proofs.tests.Draft.link_by.Goals as goal

pub link_layer-requires-clause-chosen : goal.link_layer-requires-clause-chosen
link_layer-requires-clause-chosen g c =
    one_chosen (overwritten c.self.inside.edit (nodes_of c.self.inside.base)) 4 64 c.args.x c.args.y c.self.invariant.0 (omega arith)
    (c.may_link.ensures.other c.if-not-may_link.false) (c.may_link.ensures.apart c.if-not-may_link.false)
