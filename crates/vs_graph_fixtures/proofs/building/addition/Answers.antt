use Rattle.std.proofs.Common.{◌≡◌, ap, subst, sym}
use Rattle.std.specs.Prelude.{Some, unwrap_or}
use Rattle.vs_graph.specs.Edits.{overwritten}
use Rattle.vs_graph.specs.Good.{AreLinksGood, IsGood}
use Rattle.vs_graph.specs.Newcomer.{IsNewcomer}
use Rattle.vs_graph_fixtures.proofs.Adding.{mid_good, changes_base, good_with}
use Rattle.vs_graph_fixtures.proofs.building.addition.Goals as goal

pub pick-requires : goal.pick-requires
pick-requires g c = (
  c.args.graph.now.dim,
  mid_good c.new-edit.result c.put_newcomer.new.edit (g.N.Nodes.at c.nodes-nodes.result.now) (g.N.Nodes.at c.args.graph.now.nodes) c.args.graph.now.m c.m-m.result c.args.graph.now.dim c.args.node
      (ap g.N.Nodes.at c.nodes-nodes.ensures.nodes) c.m-m.ensures.m c.new-edit.ensures c.nodes-nodes.ensures.good.links c.requires.fits c.in_ok-put_newcomer.ensures.good,
)

pub link_layer-requires-clause-good : goal.link_layer-requires-clause-good
link_layer-requires-clause-good g c = (
  c.args.graph.now.dim,
  c.nodes-nodes.ensures.good.dim_high,
  mid_good c.new-edit.result c.put_newcomer.new.edit (g.N.Nodes.at c.nodes-nodes.result.now) (g.N.Nodes.at c.args.graph.now.nodes) c.args.graph.now.m c.m-m.result c.args.graph.now.dim c.args.node
      (ap g.N.Nodes.at c.nodes-nodes.ensures.nodes) c.m-m.ensures.m c.new-edit.ensures c.nodes-nodes.ensures.good.links c.requires.fits c.in_ok-put_newcomer.ensures.good,
)

pub returns : goal.returns
returns g c =
    let base = g.N.Nodes.at c.nodes-nodes.result.now in
    let at = g.N.Nodes.at c.args.graph.now.nodes in
    let same : base ≡ at = ap g.N.Nodes.at c.nodes-nodes.ensures.nodes in
    let seen = c.args.graph.now in
    let mid = overwritten c.put_newcomer.new.edit base in
    let new = overwritten c.link_layer.new.edit base in
    let good : IsGood base seen.entry seen.m seen.dim = subst (λ f. IsGood f seen.entry seen.m seen.dim) (sym same) c.nodes-nodes.ensures.good in
    let newcomer : IsNewcomer base c.args.id c.args.node = subst (λ f. IsNewcomer f c.args.id c.args.node) (sym same) c.requires.newcomer in
    let before = mid_good c.new-edit.result c.put_newcomer.new.edit base at seen.m c.m-m.result seen.dim c.args.node same c.m-m.ensures.m c.new-edit.ensures c.nodes-nodes.ensures.good.links c.requires.fits c.in_ok-put_newcomer.ensures.good in
    let links : AreLinksGood new seen.m seen.dim = subst (λ k. AreLinksGood new k seen.dim) c.m-m.ensures.m (c.in_ok-link_layer.ensures.good seen.dim before) in
    let ends = c.in_ok-link_layer.ensures in
    let all : IsGood new (Some (unwrap_or seen.entry c.args.id)) seen.m seen.dim =
    good_with base mid new seen.entry seen.m seen.dim c.args.id c.args.node _ good newcomer c.requires.plain
    (changes_base c.new-edit.result base mid c.args.id c.args.node c.new-edit.ensures c.in_ok-put_newcomer.ensures.put) links ends.links ends.kept ends.own in
    subst (λ f. IsGood (overwritten c.link_layer.new.edit f) (Some (unwrap_or seen.entry c.args.id)) seen.m seen.dim) same all
