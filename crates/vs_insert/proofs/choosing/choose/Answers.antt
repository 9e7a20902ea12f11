use Rattle.std.proofs.Common.{◌≡◌, sym, ap, ◌∙◌, subst, length, ◌<◌}
use Rattle.vs_graph.specs.Edits.{overwritten}
use Rattle.vs_graph.specs.Good.{body_at}
use Rattle.vs_graph.proofs.Renaming.{no_change}
use Rattle.vs_link.specs.Selected.{selected}
use Rattle.vs_insert.specs.Choosing.{everyone}
use Rattle.vs_insert.specs.Drafts.{ids_of}
use Rattle.vs_insert.proofs.Found.{found_stand, found_some}
use Rattle.vs_insert.proofs.Choices.{choices_are, selects_named, links_over, keys_live, chosen_live, nearest_stands, bodies_over, NearestIs}
use Rattle.vs_insert.proofs.choosing.choose.Goals as goal

pub select-requires-clause-good : goal.select-requires-clause-good
select-requires-clause-good g c =
    let base = g.N.Nodes.at c.nodes-nodes.result.now in
    let same : base ≡ g.N.Nodes.at c.args.graph.now.nodes = ap g.N.Nodes.at c.nodes-nodes.ensures.nodes in (
      c.args.graph.now.dim,
      c.nodes-nodes.ensures.good.dim_high,
      links_over (overwritten c.new-edit.result base) (g.N.Nodes.at c.args.graph.now.nodes) c.m.result c.args.graph.now.m c.args.graph.now.dim (no_change c.new-edit.result base c.new-edit.ensures ∙ same) c.m.ensures.m
          c.nodes-nodes.ensures.good.links,
    )

pub select-requires-clause-live : goal.select-requires-clause-live
select-requires-clause-live g c =
    let base = g.N.Nodes.at c.nodes-nodes.result.now in
    let at = g.N.Nodes.at c.args.graph.now.nodes in
    let same : base ≡ at = ap g.N.Nodes.at c.nodes-nodes.ensures.nodes in
    let s = c.in_ok-search.search in
    keys_live (overwritten c.new-edit.result base) at c.args.layer c.as_slice-found.result.now s.found (no_change c.new-edit.result base c.new-edit.ensures ∙ same) c.as_slice-found.ensures
    (found_stand at c.args.layer c.args.from c.args.ef c.args.query.now s.tried s.expanded s.found (c.in_ok-search.ensures.beam everyone c.requires.everyone))

pub with_bodies-requires : goal.with_bodies-requires
with_bodies-requires g c =
    let base = g.N.Nodes.at c.nodes-nodes.result.now in
    let at = g.N.Nodes.at c.args.graph.now.nodes in
    let same : base ≡ at = ap g.N.Nodes.at c.nodes-nodes.ensures.nodes in
    let s = c.in_ok-search.search in
    chosen_live base at c.args.layer c.m.result (body_at (overwritten c.new-edit.result base)) c.as_slice-found.result.now s.found c.as_slice.result.now same c.as_slice-found.ensures (c.as_slice.ensures ∙ c.in_ok-ids.ensures.chosen)
    (found_stand at c.args.layer c.args.from c.args.ef c.args.query.now s.tried s.expanded s.found (c.in_ok-search.ensures.beam everyone c.requires.everyone))

pub nearest-requires : goal.nearest-requires
nearest-requires g c =
    let at = g.N.Nodes.at c.args.graph.now.nodes in
    let s = c.in_ok-search.search in
    subst (λ l. 0 < length l) (sym c.as_slice-found.ensures) (found_some at c.args.layer c.args.from c.args.ef c.args.query.now s.tried s.expanded s.found (c.in_ok-search.ensures.beam everyone c.requires.everyone) c.requires.wide)

pub returns : goal.returns
returns g c =
    let base = g.N.Nodes.at c.nodes-nodes.result.now in
    let at = g.N.Nodes.at c.args.graph.now.nodes in
    let same : base ≡ at = ap g.N.Nodes.at c.nodes-nodes.ensures.nodes in
    let over = no_change c.new-edit.result base c.new-edit.ensures ∙ same in
    let s = c.in_ok-search.search in
    let m = c.args.graph.now.m in
    let beam = c.in_ok-search.ensures.beam everyone c.requires.everyone in
    let ids : ids_of c.in_ok-list.list ≡ c.in_ok-ids.ids = c.in_ok-list.ensures.ids ∙ c.as_slice.ensures in
    let bodies = body_at (overwritten c.new-edit.result base) in
    let made : c.in_ok-ids.ids ≡ selected bodies m s.found = c.in_ok-ids.ensures.chosen ∙ ap (λ k. selected bodies k c.as_slice-found.result.now) c.m.ensures.m ∙ ap (selected bodies m) c.as_slice-found.ensures in
    let nearest = subst (λ l. NearestIs l c.nearest.result) c.as_slice-found.ensures c.nearest.ensures in
    record {
      tried = s.tried;
      expanded = s.expanded;
      found = s.found;
      beam = beam;
      choices = choices_are at m c.args.layer c.args.from c.args.ef c.args.query.now s.tried s.expanded s.found bodies c.in_ok-list.list c.in_ok-ids.ids beam made ids (bodies_over base at c.in_ok-list.list same c.in_ok-list.ensures.bodies);
      named = selects_named (overwritten c.new-edit.result base) at c.m.result m c.as_slice-found.result.now s.found c.in_ok-ids.ids (ids_of c.in_ok-list.list) over c.m.ensures.m c.as_slice-found.ensures (sym ids) c.in_ok-ids.ensures.named;
      nearest = nearest;
      stands = nearest_stands at c.args.layer c.nearest.result s.found nearest (found_stand at c.args.layer c.args.from c.args.ef c.args.query.now s.tried s.expanded s.found beam);
    }
