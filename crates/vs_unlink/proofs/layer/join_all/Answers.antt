use Rattle.std.proofs.Common.{arith}
use Rattle.vs_graph.specs.Edits.{overwritten}
use Rattle.vs_graph.proofs.Relinking.{stands_now}
use Rattle.vs_unlink.proofs.Taking.{joined_more}
use Rattle.vs_unlink.proofs.layer.join_all.Goals as goal

pub add_link-requires : goal.add_link-requires
add_link-requires g c =
    let base = g.N.Nodes.at c.args.base.now in
    stands_now (overwritten c.args.edit.now base) (overwritten c.loop-pair.edit base) c.args.layer _ _ c.loop-pair.invariant (c.requires c.loop-pair.pair-index (record { one = 0; other = 0 }) (omega arith)).1

pub add_link-requires-in-loop-pair : goal.add_link-requires-in-loop-pair
add_link-requires-in-loop-pair g c =
    let base = g.N.Nodes.at c.args.base.now in
    stands_now (overwritten c.loop-pair.edit base) (overwritten c.add_link.new.edit base) c.args.layer _ _ c.in_ok-add_link.ensures.links
    (stands_now (overwritten c.args.edit.now base) (overwritten c.loop-pair.edit base) c.args.layer _ _ c.loop-pair.invariant (c.requires c.loop-pair.pair-index (record { one = 0; other = 0 }) (omega arith)).0)

pub loop-pair-preserved : goal.loop-pair-preserved
loop-pair-preserved g c =
    let base = g.N.Nodes.at c.args.base.now in
    joined_more (overwritten c.args.edit.now base) (overwritten c.loop-pair.edit base) (overwritten c.add_link.new.edit base) (overwritten c.add_link-in-loop-pair.new.edit base) c.args.layer c.args.added.now c.loop-pair.pair-index
    (record { one = 0; other = 0 }) (omega arith) c.loop-pair.invariant c.in_ok-add_link.ensures.links c.in_ok-add_link-2.ensures.links
