use Rattle.std.proofs.Common.{◌≡◌, ◌++◌, ◌∷◌, [], ℕ, List, length, ap, sym, ◌∙◌, subst, arith}
use Rattle.std.proofs.lemmas.List.{length-map, length_push, map_push}
use Rattle.vs_defs.specs.Bytes.{Bytes}
use Rattle.vs_page.specs.Changes.{items_of}
use Rattle.vs_order.specs.declared.order.Listed.{Listed}
use Rattle.vs_order.specs.Entries.{ids_of, is_taken}
use Rattle.vs_order.specs.Listed.{ArePlaces, entries_of}
use Rattle.vs_order.proofs.Places.{IsPlacedAt, with_last}
use Rattle.vs_order.proofs.order.Order.with_last.Goals as goal

pub invariant_of-result : goal.invariant_of-result
invariant_of-result c =
    let s = c.self.inside in
    let old : List Listed = s.members in
    let x : Listed = record { id = c.args.id; name = c.in_ok-try_clone.field-0 } in
    let made : c.push.new.self ≡ old ++ x ∷ [] = c.in_ok-push.ensures.ok ∙ ap (λ (l : List Listed). l ++ x ∷ []) c.in_ok-members.ensures in
    let ids : ids_of (entries_of (old ++ x ∷ [])) ≡ ids_of (entries_of old) ++ c.args.id ∷ []
    = ap ids_of (map_push (λ (y : Listed). (y.name, y.id)) old x) ∙ map_push (λ (e : Bytes × ℕ). e.1) (entries_of old) (x.name, x.id) in
    let one : length (entries_of old) ≡ length old = length-map old (λ (y : Listed). (y.name, y.id)) in
    let two : length (ids_of (entries_of old)) ≡ length (entries_of old) = length-map (entries_of old) (λ (e : Bytes × ℕ). e.1) in
    let last : c.len-place.result ≡ length (ids_of (entries_of old)) = omega (arith, c.len-place.ensures, ap length c.in_ok-members.ensures, one, two) in
    let placed : IsPlacedAt (items_of s.places) (items_of c.put.new.self) c.args.id c.len-place.result
    = (c.in_ok-put.ensures.there, λ q ne. c.in_ok-put.ensures.others q ne ∙ c.in_ok-places.ensures q) in (
      subst (λ (l : List Listed). ArePlaces (ids_of (entries_of l)) (items_of c.put.new.self)) (sym made)
          (subst (λ l. ArePlaces l (items_of c.put.new.self)) (sym ids)
          (with_last (ids_of (entries_of old)) (items_of s.places) (items_of c.put.new.self) c.args.id c.len-place.result last c.self.invariant.0 (ap (is_taken c.args.id) c.self.view_is ∙ c.requires.free) placed)),
      omega (arith, ap length made, length_push old x, c.requires.few, ap length c.self.view_is, one),
    )
