use Rattle.std.proofs.Common.{◌≡◌, [], get_or, sym, ap, ◌∙◌, subst}
use Rattle.std.specs.Prelude.{Contains}
use Rattle.std.specs.Option.{option_map_or}
use Rattle.std.proofs.lemmas.Option.{slice_get-get_or, get_or_from_slice_get}
use Rattle.vs_graph.specs.Good.{links_at, links_of}
use Rattle.vs_set.proofs.Nearness.{live_stander}
use Rattle.vs_set.proofs.finding.keys_around.Goals as goal

pub node_at-near-requires : goal.node_at-near-requires
node_at-near-requires g c =
    let at = g.N.Nodes.at c.args.graph.now.nodes in
    let layer = c.args.layer in
    let around = c.links-around.result.now in
    let i = c.loop-other.other-index in
    let other = get_or around i 0 in
    let same : links_at at layer c.args.id ≡ around = ap (λ o. option_map_or (λ node. links_of node layer) o []) c.node_at-node.ensures.node ∙ sym c.links-around.ensures in
    live_stander layer (at other)
    (c.nodes-nodes.ensures.good.links.stand layer c.args.id other
    (subst (λ l. Contains l other) (sym same) (i, c.loop-other-test.true, get_or_from_slice_get around i other other (slice_get-get_or around i 0 c.loop-other-test.true))))
