use Rattle.vs_graph.specs.Edits.{overwritten}
use Rattle.vs_insert.proofs.Entries.{beside_live, beside_stands}
use Rattle.vs_insert.proofs.removing.has_another.Goals as goal

pub live_node-requires : goal.live_node-requires
live_node-requires g c = beside_live (overwritten c.args.edit.now (g.N.Nodes.at c.args.base.now)) c.args.y c.in-Some.z c.in-Some.ensures

pub returns-clause-yes : goal.returns-clause-yes
returns-clause-yes g c h =
    beside_stands (overwritten c.args.edit.now (g.N.Nodes.at c.args.base.now)) c.args.layer c.args.y c.in-Some.z c.live_node.result.now c.in-Some.ensures c.live_node.ensures.value c.if-live_node-layer.false
