use Rattle.std.proofs.Common.{◌≡◌, Some, None, sym, ap, ◌∙◌, subst, IsSomeAnd, slice_get}
use Rattle.std.specs.Prelude.{option_map, unwrap_or}
use Rattle.vs_defs.specs.PlainAnswer.{bulk_or_null}
use Rattle.vs_defs.specs.Request as request
use Rattle.vs_defs.specs.Store.{Member, Set}
use Rattle.vs_query.proofs.Places.{found_nowhere, weaker_there, answer_there}
use Rattle.vs_query.proofs.member.attribute.Goals as goal

abbrev shown : Member → request.Answer
shown y = bulk_or_null y.attr

pub returns-in_default : goal.returns-in_default
returns-in_default g c =
    let members = c.args.set.now.contents.members in
    ap (λ o. unwrap_or (option_map shown o) request.NullText) (sym (found_nowhere c.args.name.now members (sym c.place_of.ensures ∙ c.in_default.is)))

pub returns-in-None : goal.returns-in-None
returns-in-None g c =
    let members = c.args.set.now.contents.members in
    let place = c.in-Some.place in
    answer_there request.NullText request.NullText shown c.args.name.now members place (sym c.in-Some.ensures)
    (weaker_there (slice_get members place) (λ y. None ≡ y.attr) (λ y. request.NullText ≡ shown y) (λ y e. ap bulk_or_null e)
    (subst (λ (s : Set). IsSomeAnd (slice_get s.contents.members place) (λ y. None ≡ y.attr)) c.in_ok-snap.ensures c.in-None.ensures))

pub returns : goal.returns
returns g c =
    let members = c.args.set.now.contents.members in
    let place = c.in-Some.place in
    let text = c.in_ok-from_slice-in-Some-attr.field-0 in
    answer_there request.NullText (request.Bulk text) shown c.args.name.now members place (sym c.in-Some.ensures)
    (weaker_there (slice_get members place) (λ y. Some c.in-Some-attr.text.now ≡ y.attr) (λ y. request.Bulk text ≡ shown y) (λ y e. ap request.Bulk c.in_ok-from_slice-in-Some-attr.ensures ∙ ap bulk_or_null e)
    (subst (λ (s : Set). IsSomeAnd (slice_get s.contents.members place) (λ y. Some c.in-Some-attr.text.now ≡ y.attr)) c.in_ok-snap.ensures c.in-Some-attr.ensures))
