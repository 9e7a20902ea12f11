use Rattle.std.proofs.Common.{◌≡◌, suc, ◌-◌, arith}
use Rattle.vs_insert.proofs.Choices.{chosen_first, chosen_next, chosen_last}
use Rattle.vs_insert.proofs.choosing.choose_from.Goals as goal

pub loop-layer-init : goal.loop-layer-init
loop-layer-init g c =
    let s = c.args.graph.now in
    chosen_first (g.N.Nodes.at s.nodes) s.entry s.m s.dim c.args.start c.args.count c.args.ef c.args.query.now c.new-lists.result.items c.new-lists.ensures.items c.requires.stands

pub loop-layer-preserved : goal.loop-layer-preserved
loop-layer-preserved g c =
    let s = c.args.graph.now in
    let n = c.loop-layer.layer - 1 in
    let is : c.loop-layer.layer ≡ suc n = omega (arith, c.loop-layer-test.true) in
    chosen_next (g.N.Nodes.at s.nodes) s.entry s.m s.dim c.args.start c.args.count c.args.ef c.args.query.now c.requires.good c.requires.fits c.loop-layer.layer n c.loop-layer.here c.in_ok-list.next c.loop-layer.lists.items c.push.new.self.items
    c.in_ok-list.list is c.in_ok-push.ensures.items c.loop-layer.invariant c.in_ok-list.ensures

pub returns : goal.returns
returns g c =
    let s = c.args.graph.now in
    chosen_last (g.N.Nodes.at s.nodes) s.entry s.m s.dim c.args.start c.args.count c.args.ef c.args.query.now c.loop-layer.layer c.loop-layer.here c.loop-layer.lists.items (omega (arith, c.loop-layer-test.false)) c.loop-layer.invariant
