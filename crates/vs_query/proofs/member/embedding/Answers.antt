use Rattle.std.proofs.Common.{◌≡◌, sym, ap, ◌∙◌, subst, IsSomeAnd, slice_get}
use Rattle.std.specs.Prelude.{option_map, unwrap_or}
use Rattle.vs_defs.specs.Request as request
use Rattle.vs_defs.specs.Store.{Member, Set}
use Rattle.vs_query.proofs.Places.{found_nowhere, weaker_there, answer_there}
use Rattle.vs_query.proofs.member.embedding.Goals as goal

abbrev shown : Member → request.Answer
shown y = request.Signs y.bits

pub returns-in_default : goal.returns-in_default
returns-in_default g c =
    let members = c.args.set.now.contents.members in
    ap (λ o. unwrap_or (option_map shown o) request.NullList) (sym (found_nowhere c.args.name.now members (sym c.place_of.ensures ∙ c.in_default.is)))

pub returns : goal.returns
returns g c =
    let members = c.args.set.now.contents.members in
    let place = c.in-Some.place in
    let signs = c.in_ok-signs.signs in
    answer_there request.NullList (request.Signs signs) shown c.args.name.now members place (sym c.in-Some.ensures)
    (weaker_there (slice_get members place) (λ y. signs ≡ y.bits) (λ y. request.Signs signs ≡ shown y) (λ y e. ap request.Signs e)
    (subst (λ (s : Set). IsSomeAnd (slice_get s.contents.members place) (λ y. signs ≡ y.bits)) c.in_ok-snap.ensures c.in_ok-signs.ensures))
