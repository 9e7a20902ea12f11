use Rattle.vs_graph.specs.Edits.{overwritten}
use Rattle.vs_unlink.proofs.Layers.{out_none, out_more}
use Rattle.vs_unlink.proofs.removal.unlink_below.Goals as goal

pub loop-layer-init : goal.loop-layer-init
loop-layer-init g c = out_none (overwritten c.args.edit.now (g.N.Nodes.at c.args.base.now)) c.args.x

pub loop-layer-preserved : goal.loop-layer-preserved
loop-layer-preserved g c =
    let base = g.N.Nodes.at c.args.base.now in
    out_more (overwritten c.args.edit.now base) (overwritten c.loop-layer.edit base) (overwritten c.unlink_layer.new.edit base) c.args.x c.loop-layer.layer c.loop-layer.invariant c.in_ok-unlink_layer.ensures.links
    c.in_ok-unlink_layer.ensures.good
