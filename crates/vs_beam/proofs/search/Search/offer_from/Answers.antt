use Rattle.std.proofs.Common.{◌≡◌, ◌+◌, ◌-◌, ◌<◌, length, drop, get_or, sym, ap, ◌∙◌, subst, arith, take_all}
use Rattle.std.proofs.lemmas.List.{get_or-drop, length-drop}
use Rattle.vs_beam.specs.Beam.{HasWords}
use Rattle.vs_beam.proofs.Visits.{frontier_grown, kept_trans, search_weighed, found_weighed}
use Rattle.vs_beam.proofs.search.Search.offer_from.Goals as goal

pub offer-requires-clause-live : goal.offer-requires-clause-live
offer-requires-clause-live g c =
    let i = c.loop-place.invariant in
    let at = c.loop-place.place - c.args.start in
    let sum : c.args.start + at ≡ c.loop-place.place = omega (arith, i.from) in
    let same : c.as_slice.result.now ≡ c.args.self.now.tried = c.as_slice.ensures ∙ i.kept.tried in
    let long = length-drop c.args.start c.args.self.now.tried in
    let is : get_or (drop c.args.start c.args.self.now.tried) at 0 ≡ get_or c.as_slice.result.now c.loop-place.place 0 = get_or-drop c.args.start c.args.self.now.tried at 0 ∙ (λ t. get_or (sym same t) (sum t) 0) in
    subst (HasWords (g.N.Nodes.at c.args.nodes.now) (length c.args.query.now)) is
    (c.requires.live at 0 (omega (arith, long, i.from, c.loop-place-test.true, c.len-place-end.ensures)))

pub loop-place-preserved : goal.loop-place-preserved
loop-place-preserved g c =
    let i = c.loop-place.invariant in
    let o = c.offer.ensures in
    let at = g.N.Nodes.at c.args.nodes.now in
    let id = get_or c.as_slice.result.now c.loop-place.place 0 in
    let is : get_or c.loop-place.self.tried c.loop-place.place 0 ≡ id = ap (λ l. get_or l c.loop-place.place 0) (sym c.as_slice.ensures) in
    let long = ap length i.kept.tried in
    let below : c.loop-place.place < length c.loop-place.self.tried = omega (arith, long, c.loop-place-test.true, c.len-place-end.ensures) in
    let more = ap length o.weighed.kept.tried in
    let grown = frontier_grown at c.args.query.now c.loop-place.self c.offer.new.self id o.weighed in
    record {
      kept = kept_trans _ _ _ i.kept o.weighed.kept;
      search = λ layer marks was. search_weighed at layer c.args.query.now c.loop-place.self c.offer.new.self marks id c.loop-place.place (i.search layer marks was) o.weighed below is;
      found = λ layer passes answers was. found_weighed at layer c.args.query.now passes c.loop-place.self c.offer.new.self id c.loop-place.place (i.found layer passes answers was) o.weighed (o.offered passes answers) below is;
      from = omega (arith, i.from);
      frontier_room = omega (arith, i.frontier_room, o.frontier_room, more);
      best_room = omega (arith, i.best_room, o.best_room, more);
      frontier = omega (arith, i.frontier, grown);
      told = omega (arith, i.told, o.told);
    }

pub returns-clause-found : goal.returns-clause-found
returns-clause-found g c = λ layer passes answers was.
    let i = c.loop-place.invariant in
    let long = ap length i.kept.tried in
    rw (take_all c.loop-place.place c.loop-place.self.tried (omega (arith, long, c.loop-place-test.false, c.len-place-end.ensures))) at (i.found layer passes answers was)
