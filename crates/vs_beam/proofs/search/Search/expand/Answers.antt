use Rattle.std.proofs.Common.{◌≡◌, ℕ, ◌<◌, [], length, get_or, take, drop, take_all, refl, sym, ◌∙◌, subst, arith, below_more}
use Rattle.std.specs.Prelude.{Contains}
use Rattle.std.proofs.lemmas.List.{drop_all}
use Rattle.std.proofs.lemmas.List.Elements.{All-nil}
use Rattle.std.proofs.lemmas.Result.{on_ok_weaker}
use Rattle.vs_graph.specs.Good.{IsLinked, StandsAt}
use Rattle.vs_beam.specs.Beam.{HasWords, IsSpent}
use Rattle.vs_beam.proofs.Steps.{at_index}
use Rattle.vs_beam.proofs.Visits.{some_and, same_trans, link_at, link_was_at, search_visited, found_visited, tried_more, tried_there, room_before, live_visited, long_visited, marks_visited}
use Rattle.vs_beam.proofs.search.Search.expand.Goals as goal

pub visit-requires : goal.visit-requires
visit-requires g c =
    let fits = c.requires.fits _ (some_and _ _ (c.requires.stand c.args.id _ (link_at _ _ c.loop-next.next-index c.links-next-items.ensures.links c.loop-next-test.true))) in
    omega (arith, fits, c.loop-next.invariant.limit)

pub loop-next-preserved : goal.loop-next-preserved
loop-next-preserved g c =
    let i = c.loop-next.invariant in
    let v = c.in_ok-visit.ensures.visited in
    let at = g.N.Nodes.at c.args.nodes.now in
    let s = c.loop-next.self in
    let new = c.visit.new.self in
    let next = get_or c.links-next-items.result.now c.loop-next.next-index 0 in
    let link = link_at _ _ c.loop-next.next-index c.links-next-items.ensures.links c.loop-next-test.true in
    let stands : StandsAt at c.args.layer next = c.requires.stand c.args.id _ link in
    let fits = c.requires.fits _ (some_and _ _ stands) in
    let within_marks : next < length c.loop-next.slot.marked = omega (arith, fits, i.limit) in
    let linked : (v : ℕ) × Contains s.expanded v × IsLinked at c.args.layer v next = (c.args.id, subst (λ l. Contains l c.args.id) (sym i.expanded) c.requires.one, link) in
    let long = long_visited s new c.loop-next.slot c.visit.new.slot next v in
    let marks = marks_visited s new c.loop-next.slot c.visit.new.slot next v within_marks in
    record {
      items = i.items;
      start = i.start;
      search = search_visited at c.args.layer c.args.query.now s new c.loop-next.slot c.visit.new.slot next _ i.search v i.within within_marks stands linked;
      found = λ passes answers. found_visited at c.args.layer c.args.query.now passes s new c.loop-next.slot c.visit.new.slot next _ (i.found passes answers) v i.within;
      same = same_trans _ _ _ i.same v.same;
      expanded = v.expanded ∙ i.expanded;
      frontier = v.frontier ∙ i.frontier;
      more = λ w has. tried_more s new c.loop-next.slot c.visit.new.slot next v w (i.more w has);
      within = omega (arith, i.within, long.0);
      short = omega (arith, i.short, long.1);
      live = live_visited at c.args.query.now s new c.loop-next.slot c.visit.new.slot next _ v i.within (c.requires.live _ (some_and _ _ stands)) i.live;
      there = λ room. below_more (λ k. Contains new.tried (get_or c.links-next-items.result.now k 0)) c.loop-next.next-index
          (λ k below. tried_more s new c.loop-next.slot c.visit.new.slot next v _ (i.there (room_before s new c.loop-next.slot c.visit.new.slot next v room) k below))
          (tried_there at c.args.layer c.args.query.now s new c.loop-next.slot c.visit.new.slot next _ i.search v room);
      limit = c.visit.ensures.limit ∙ i.limit;
      left = omega (arith, marks, i.left);
      told = i.told;
    }

pub loop-next-init : goal.loop-next-init
loop-next-init g c =
    let tried = c.args.self.now.tried in
    let start = c.len-start.ensures in
    let whole : take c.len-start.result tried ≡ tried = take_all c.len-start.result tried (omega (arith, start)) in
    let none : drop c.len-start.result tried ≡ [] = drop_all c.len-start.result tried (omega (arith, start)) in
    record {
      items = c.links-next-items.ensures.links;
      start = start;
      search = rw start c.requires.search;
      found = λ passes answers. rw whole (c.requires.found passes answers);
      same = record { from = refl; effort = refl; most = refl };
      expanded = refl;
      frontier = refl;
      more = λ w has. has;
      within = omega (arith, start);
      short = omega (arith, start);
      live = rw none (All-nil (HasWords (g.N.Nodes.at c.args.nodes.now) (length c.args.query.now)));
      there = λ room k below. absurd (omega (arith, below));
      limit = refl;
      left = refl;
      told = omega (arith, c.links-next-items.ensures.told);
    }

pub returns-clause-found : goal.returns-clause-found
returns-clause-found g c =
    on_ok_weaker c.offer_from.result (λ offered. λ passes answers. offered c.args.layer passes answers (c.loop-next.invariant.found passes answers)) c.offer_from.ensures.found

pub returns-clause-expanded : goal.returns-clause-expanded
returns-clause-expanded g c =
    let i = c.loop-next.invariant in
    let kept = c.offer_from.ensures.kept in
    on_ok_weaker c.offer_from.result (λ offered. record {
      same = same_trans _ _ _ i.same kept.same;
      expanded = kept.expanded ∙ i.expanded;
      more = λ w has. rw kept.tried (i.more w has);
      whole = λ room w link.
          let room_then : IsSpent c.loop-next.self.effort c.loop-next.self.tried → ⊥ = λ spent. room (rw (kept.same.effort, kept.tried) spent) in
          let at_items = link_was_at _ _ w c.links-next-items.ensures.links link in
          rw kept.tried (subst (λ x. Contains c.loop-next.self.tried x) (at_index c.links-next-items.result.now w at_items) (i.there room_then at_items.0 (omega (arith, at_items.1, c.loop-next-test.false))));
    })
    c.offer_from.ensures.found
