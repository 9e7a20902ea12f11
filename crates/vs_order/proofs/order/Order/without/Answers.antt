use Rattle.std.proofs.Common.{◌≡◌, ◌<◌, ◌-◌, [], ℕ, List, length, get_or, set, ap, sym, ◌∙◌, subst, arith, length-take-le}
use Rattle.std.specs.Prelude.{swap_remove, slice_get, IsSomeAnd}
use Rattle.std.proofs.lemmas.List.{length-map, length-set}
use Rattle.vs_defs.specs.Bytes.{Bytes}
use Rattle.vs_page.specs.Changes.{items_of}
use Rattle.vs_order.specs.declared.order.Listed.{Listed}
use Rattle.vs_order.specs.Entries.{Entries, ids_of}
use Rattle.vs_order.specs.Listed.{ArePlaces, entries_of}
use Rattle.vs_order.proofs.Places.{IsPlacedAt, without, swap_map, id_here}
use Rattle.vs_order.proofs.order.Order.without.Goals as goal

pub invariant_of-result : goal.invariant_of-result
invariant_of-result c =
    let s = c.self.inside in
    let old : List Listed = s.members in
    let none : Listed = record { id = 0; name = [] } in
    let one : length (entries_of old) ≡ length old = length-map old (λ (y : Listed). (y.name, y.id)) in
    let two : length (ids_of (entries_of old)) ≡ length (entries_of old) = length-map (entries_of old) (λ (e : Bytes × ℕ). e.1) in
    let low : c.args.place < length old = omega (arith, c.requires, ap length c.self.view_is, one) in
    let made : c.swap_remove.new.self ≡ swap_remove old c.args.place none
    = c.in_ok-swap_remove.ensures.ok none ∙ ap (λ (l : List Listed). swap_remove l c.args.place none) c.in_ok-members.ensures in
    let ids : ids_of (entries_of (swap_remove old c.args.place none)) ≡ swap_remove (ids_of (entries_of old)) c.args.place 0
    = ap ids_of (swap_map (λ (y : Listed). (y.name, y.id)) old c.args.place none ([], 0) (omega (arith, low)))
    ∙ swap_map (λ (e : Bytes × ℕ). e.1) (entries_of old) c.args.place ([], 0) 0 (omega (arith, low, one)) in
    let n : ℕ = length (ids_of (entries_of old)) - 1 in
    let last : c.id_at-last.result ≡ get_or (ids_of (entries_of old)) n 0
    = sym (id_here (entries_of old) n c.id_at-last.result 0
    (subst (λ k. IsSomeAnd (slice_get (entries_of old) k) (λ e. c.id_at-last.result ≡ e.1)) (omega (arith, c.len.ensures.value, ap length c.self.view_is, two))
    (subst (λ (l : Entries). IsSomeAnd (slice_get l (c.len.result - 1)) (λ e. c.id_at-last.result ≡ e.1)) (sym c.self.view_is) c.id_at-last.ensures))) in
    let placed : IsPlacedAt (items_of s.places) (items_of c.put.new.self) c.id_at-last.result c.args.place
    = (c.in_ok-put.ensures.there, λ q ne. c.in_ok-put.ensures.others q ne ∙ c.in_ok-places.ensures q) in (
      subst (λ (l : List Listed). ArePlaces (ids_of (entries_of l)) (items_of c.put.new.self)) (sym made)
          (subst (λ l. ArePlaces l (items_of c.put.new.self)) (sym ids)
          (without (ids_of (entries_of old)) (items_of s.places) (items_of c.put.new.self) c.args.place 0 (omega (arith, low, one, two)) c.self.invariant.0
          (subst (λ k. IsPlacedAt (items_of s.places) (items_of c.put.new.self) k c.args.place) last placed))),
      omega (arith, ap length made, length-take-le (length old - 1) (set old c.args.place (get_or old (length old - 1) none)) (omega (arith, length-set old c.args.place (get_or old (length old - 1) none))), c.self.invariant.1),
    )

pub returns : goal.returns
returns c =
    let s = c.self.inside in
    let old : List Listed = s.members in
    let none : Listed = record { id = 0; name = [] } in
    let one : length (entries_of old) ≡ length old = length-map old (λ (y : Listed). (y.name, y.id)) in
    let low : c.args.place < length old = omega (arith, c.requires, ap length c.self.view_is, one) in
    ap entries_of (c.in_ok-swap_remove.ensures.ok none ∙ ap (λ (l : List Listed). swap_remove l c.args.place none) c.in_ok-members.ensures)
    ∙ swap_map (λ (y : Listed). (y.name, y.id)) old c.args.place none ([], 0) (omega (arith, low))
    ∙ ap (λ (l : Entries). swap_remove l c.args.place ([], 0)) c.self.view_is
