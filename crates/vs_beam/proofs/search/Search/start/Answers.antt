use Rattle.std.proofs.Common.{◌≡◌, ◌<◌, [], ◌∷◌, ◌++◌, sym, ap, ◌∙◌, subst, refl}
use Rattle.vs_beam.specs.declared.search.Search.{Search}
use Rattle.vs_beam.proofs.Visits.{search_started, found_started}
use Rattle.vs_beam.proofs.search.Search.start.Goals as goal

pub returns-clause-search : goal.returns-clause-search
returns-clause-search g c =
    let tried : c.push.new.self ≡ c.args.from ∷ [] = c.in_ok-push.ensures.ok ∙ ap (λ l. l ++ c.args.from ∷ []) c.new.ensures in
    c.in_ok-offer_from.ensures.search c.args.layer c.mark.new.self
    (search_started (g.N.Nodes.at c.args.nodes.now) c.args.layer c.args.query.now _ c.args.slot.now c.mark.new.self c.args.from
    refl tried c.new-2.ensures c.new-4.ensures c.mark.ensures.marked c.requires.fits c.requires.empty c.requires.stands)

pub returns-clause-found : goal.returns-clause-found
returns-clause-found g c = λ passes answers.
    let s : Search = record { from = c.args.from; effort = c.args.effort; tried = c.push.new.self; expanded = c.new-2.result; best = c.new-3.result; frontier = c.new-4.result } in
    c.in_ok-offer_from.ensures.found c.args.layer passes answers
    (found_started (g.N.Nodes.at c.args.nodes.now) c.args.layer c.args.query.now passes s c.args.from
    refl c.new-2.ensures c.new-3.ensures.keys (subst (λ n. 0 < n) (sym c.new-3.ensures.most) c.requires.wide))
