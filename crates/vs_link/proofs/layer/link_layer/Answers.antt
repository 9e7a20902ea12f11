use Rattle.std.proofs.Common.{sym, subst}
use Rattle.std.proofs.lemmas.Result.{on_ok_weaker}
use Rattle.vs_graph.specs.Edits.{overwritten}
use Rattle.vs_graph.specs.Good.{links_at, most_links, layers_at}
use Rattle.vs_graph.specs.GoodTable.{IsGoodTable}
use Rattle.vs_graph.proofs.Goods.{alike_from, table_from}
use Rattle.vs_link.proofs.Wholes.{kept_whole, own_whole, good_whole, most_same}
use Rattle.vs_link.proofs.Bynames.{named_whole}
use Rattle.vs_link.proofs.layer.link_layer.Goals as goal

pub link_at-requires-clause-alike : goal.link_at-requires-clause-alike
link_at-requires-clause-alike g c = alike_from (overwritten c.args.edit.now (g.N.Nodes.at c.args.base.now)) c.args.m c.requires.good.0 c.requires.good.1 c.requires.good.2

pub link_at-requires-clause-good : goal.link_at-requires-clause-good
link_at-requires-clause-good g c =
    let at = overwritten c.args.edit.now (g.N.Nodes.at c.args.base.now) in
    subst (λ most. IsGoodTable (layers_at at) c.args.layer most (links_at at c.args.layer)) (sym c.most_of-most.ensures) (table_from at c.args.m c.requires.good.0 c.args.layer c.requires.good.2)

pub returns-clause-links : goal.returns-clause-links
returns-clause-links g c =
    let base = g.N.Nodes.at c.args.base.now in
    let at = overwritten c.args.edit.now base in
    on_ok_weaker c.link_at.result (most_same at (overwritten c.link_at.new.edit base) c.args.layer c.args.x c.args.chosen.now c.args.fallback c.most_of-most.result (most_links c.args.m c.args.layer) c.most_of-most.ensures) c.link_at.ensures.links

pub returns-clause-good : goal.returns-clause-good
returns-clause-good g c =
    let base = g.N.Nodes.at c.args.base.now in
    let at = overwritten c.args.edit.now base in
    on_ok_weaker c.link_at.result
    (λ r dim good. good_whole at (overwritten c.link_at.new.edit base) c.args.m dim c.args.layer c.args.x c.args.chosen.now c.args.fallback good c.requires.low c.requires.x_stands c.requires.free c.requires.chosen c.requires.fallback
    (most_same at (overwritten c.link_at.new.edit base) c.args.layer c.args.x c.args.chosen.now c.args.fallback c.most_of-most.result (most_links c.args.m c.args.layer) c.most_of-most.ensures r)) c.link_at.ensures.links

pub returns-clause-kept : goal.returns-clause-kept
returns-clause-kept g c =
    let base = g.N.Nodes.at c.args.base.now in
    let at = overwritten c.args.edit.now base in
    on_ok_weaker c.link_at.result
    (λ r. kept_whole at (overwritten c.link_at.new.edit base) c.args.m c.requires.good.0 c.args.layer c.args.x c.args.chosen.now c.args.fallback c.requires.good.2 c.requires.low c.requires.x_stands c.requires.free c.requires.chosen c.requires.fallback
    (most_same at (overwritten c.link_at.new.edit base) c.args.layer c.args.x c.args.chosen.now c.args.fallback c.most_of-most.result (most_links c.args.m c.args.layer) c.most_of-most.ensures r)) c.link_at.ensures.links

pub returns-clause-own : goal.returns-clause-own
returns-clause-own g c =
    let base = g.N.Nodes.at c.args.base.now in
    let at = overwritten c.args.edit.now base in
    on_ok_weaker c.link_at.result
    (λ r. own_whole at (overwritten c.link_at.new.edit base) c.args.m c.requires.good.0 c.args.layer c.args.x c.args.chosen.now c.args.fallback c.requires.good.2 c.requires.low c.requires.x_stands c.requires.free c.requires.chosen c.requires.fallback
    (most_same at (overwritten c.link_at.new.edit base) c.args.layer c.args.x c.args.chosen.now c.args.fallback c.most_of-most.result (most_links c.args.m c.args.layer) c.most_of-most.ensures r)) c.link_at.ensures.links

pub returns-clause-named : goal.returns-clause-named
returns-clause-named g c =
    let base = g.N.Nodes.at c.args.base.now in
    let at = overwritten c.args.edit.now base in
    on_ok_weaker c.link_at.result
    (λ r dim ids good are. named_whole at (overwritten c.link_at.new.edit base) c.args.m dim c.args.layer c.args.x c.args.chosen.now c.args.fallback good c.requires.low c.requires.x_stands c.requires.free c.requires.chosen c.requires.fallback
    (most_same at (overwritten c.link_at.new.edit base) c.args.layer c.args.x c.args.chosen.now c.args.fallback c.most_of-most.result (most_links c.args.m c.args.layer) c.most_of-most.ensures r) ids are) c.link_at.ensures.links
