use Rattle.std.proofs.Common.{◌≡◌, ◌<◌, sym, ap, ◌∙◌, subst, length, arith}
use Rattle.std.specs.Prelude.{Some}
use Rattle.std.proofs.lemmas.Result.{IfOk-weaker}
use Rattle.vs_graph.specs.Edits.{overwritten}
use Rattle.vs_graph.specs.Good.{body_at, layers_at}
use Rattle.vs_graph.specs.Bodies.{words_at}
use Rattle.vs_graph.proofs.Renaming.{no_change}
use Rattle.vs_graph.proofs.Relinking.{words_there}
use Rattle.vs_link.specs.Linked.{AreChosen}
use Rattle.vs_link.specs.Selected.{selected}
use Rattle.vs_beam.specs.Beam.{IsBeam}
use Rattle.vs_insert.specs.Choosing.{everyone}
use Rattle.vs_insert.specs.Rejoined.{IsStart, others_of}
use Rattle.vs_insert.proofs.Choices.{links_over}
use Rattle.vs_unlink.proofs.Remaining.{stood}
use Rattle.vs_insert.proofs.Orphans.{start_may, left_live, live_over, another_live, choice_may, some_left, selected_some}
use Rattle.vs_insert.proofs.relinking.choice_for.Goals as goal

pub beam-requires-clause-stands : goal.beam-requires-clause-stands
beam-requires-clause-stands g c =
    let base = g.N.Nodes.at c.nodes-nodes.result.now in
    let at = g.N.Nodes.at c.args.graph.now.nodes in
    let same : base ≡ at = ap g.N.Nodes.at c.nodes-nodes.ensures.nodes in
    let now = overwritten c.args.edit.now at in
    let y = c.args.orphan.id in
    let start = c.start_of-start.result in
    let is : IsStart now c.args.entry y start = subst (λ f. IsStart (overwritten c.args.edit.now f) c.args.entry y start) same
    (c.start_of-start.ensures c.requires.can.another.0 c.requires.can.another.1 (another_live base at c.args.edit.now c.args.orphan.layer y same c.requires.can.another)) in
    stood at now c.requires.can.without.0 c.requires.can.without.1 c.args.orphan.layer start (start_may now c.args.entry c.args.orphan.layer y start is c.requires.can.top c.requires.can.stands c.requires.can.another).1

pub select-requires-clause-good : goal.select-requires-clause-good
select-requires-clause-good g c =
    let base = g.N.Nodes.at c.nodes-nodes.result.now in
    let s = c.args.graph.now in
    let same : base ≡ g.N.Nodes.at s.nodes = ap g.N.Nodes.at c.nodes-nodes.ensures.nodes in (
      s.dim,
      c.nodes-nodes.ensures.good.dim_high,
      links_over (overwritten c.new-unchanged.result base) (g.N.Nodes.at s.nodes) c.m.result s.m s.dim (no_change c.new-unchanged.result base c.new-unchanged.ensures ∙ same) c.m.ensures.m c.nodes-nodes.ensures.good.links,
    )

pub select-requires-clause-live : goal.select-requires-clause-live
select-requires-clause-live g c =
    let base = g.N.Nodes.at c.nodes-nodes.result.now in
    let s = c.args.graph.now in
    let at = g.N.Nodes.at s.nodes in
    let same : base ≡ at = ap g.N.Nodes.at c.nodes-nodes.ensures.nodes in
    let now = overwritten c.args.edit.now at in
    let y = c.args.orphan.id in
    let layer = c.args.orphan.layer in
    let start = c.start_of-start.result in
    let f = c.in_ok-search.search in
    let is : IsStart now c.args.entry y start = subst (λ f. IsStart (overwritten c.args.edit.now f) c.args.entry y start) same
    (c.start_of-start.ensures c.requires.can.another.0 c.requires.can.another.1 (another_live base at c.args.edit.now layer y same c.requires.can.another)) in
    let may = start_may now c.args.entry layer y start is c.requires.can.top c.requires.can.stands c.requires.can.another in
    let beam : IsBeam at layer start c.bits-query.result.now 200 0 everyone f.tried f.expanded f.found = subst (λ n. IsBeam at layer start c.bits-query.result.now n 0 everyone f.tried f.expanded f.found) c.requires.wide
    (c.in_ok-search.ensures.beam everyone c.requires.everyone) in
    let left : c.as_slice-2.result.now ≡ others_of now y f.found =
    c.as_slice-2.ensures ∙ c.in_ok-left.ensures ∙ ap (λ a. others_of (overwritten c.args.edit.now a) y c.as_slice.result.now) same ∙ ap (others_of now y) c.as_slice.ensures in
    live_over (overwritten c.new-unchanged.result base) at c.as_slice-2.result.now (others_of now y f.found) (no_change c.new-unchanged.result base c.new-unchanged.ensures ∙ same) left
    (left_live at now c.requires.can.without.0 y layer start s.m s.dim c.bits-query.result.now f.tried f.expanded f.found c.requires.can.without.1 c.requires.can.links beam may.0 may.1)

pub returns : goal.returns
returns g c =
    let base = g.N.Nodes.at c.nodes-nodes.result.now in
    let s = c.args.graph.now in
    let at = g.N.Nodes.at s.nodes in
    let same : base ≡ at = ap g.N.Nodes.at c.nodes-nodes.ensures.nodes in
    let over = no_change c.new-unchanged.result base c.new-unchanged.ensures ∙ same in
    let now = overwritten c.args.edit.now at in
    let y = c.args.orphan.id in
    let layer = c.args.orphan.layer in
    let start = c.start_of-start.result in
    let f = c.in_ok-search.search in
    let is : IsStart now c.args.entry y start = subst (λ f. IsStart (overwritten c.args.edit.now f) c.args.entry y start) same
    (c.start_of-start.ensures c.requires.can.another.0 c.requires.can.another.1 (another_live base at c.args.edit.now layer y same c.requires.can.another)) in
    let may = start_may now c.args.entry layer y start is c.requires.can.top c.requires.can.stands c.requires.can.another in
    let was : now y ≡ Some c.live_node.result.now = subst (λ a. overwritten c.args.edit.now a y ≡ Some c.live_node.result.now) same c.live_node.ensures.value in
    let query : c.bits-query.result.now ≡ words_at (body_at now) y = c.bits-query.ensures ∙ sym (words_there now y c.live_node.result.now was) in
    let q = words_at (body_at now) y in
    let beam : IsBeam at layer start q 200 0 everyone f.tried f.expanded f.found = subst (λ n. IsBeam at layer start q n 0 everyone f.tried f.expanded f.found) c.requires.wide
    (subst (λ w. IsBeam at layer start w c.args.ef 0 everyone f.tried f.expanded f.found) query (c.in_ok-search.ensures.beam everyone c.requires.everyone)) in
    let left : c.as_slice-2.result.now ≡ others_of now y f.found =
    c.as_slice-2.ensures ∙ c.in_ok-left.ensures ∙ ap (λ a. others_of (overwritten c.args.edit.now a) y c.as_slice.result.now) same ∙ ap (others_of now y) c.as_slice.ensures in
    let x = c.requires.can.without.0 in
    let gone = c.requires.can.without.1 in
    IfOk-weaker c.select.result (λ chosen. chosen ≡ selected (body_at (overwritten c.new-unchanged.result base)) c.m.result c.as_slice-2.result.now) _
    (λ chosen made.
    let are : chosen ≡ selected (body_at at) s.m (others_of now y f.found) =
    made ∙ ap (λ a. selected (body_at a) c.m.result c.as_slice-2.result.now) over ∙ ap (λ k. selected (body_at at) k c.as_slice-2.result.now) c.m.ensures.m ∙ ap (selected (body_at at) s.m) left in
    record {
      start = start;
      starts = is;
      tried = f.tried;
      expanded = f.expanded;
      found = f.found;
      beam = beam;
      are = are;
      may = subst (λ l. AreChosen (layers_at now) layer s.m y l) (sym are) (choice_may at now x y layer start s.m s.dim q f.tried f.expanded f.found gone c.requires.can.links beam may.0 may.1 (body_at at));
      some = subst (λ l. 0 < length l) (sym are) (selected_some (body_at at) s.m (others_of now y f.found) (omega (arith, c.nodes-nodes.ensures.good.m_low)) (some_left at now x y layer start s.m s.dim q f.tried f.expanded f.found gone c.requires.can.links beam may.0 may.1));
    })
    c.select.ensures.chosen
