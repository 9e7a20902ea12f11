use Rattle.std.proofs.Common.{◌≡◌, ◌<◌, ◌++◌, ◌∷◌, [], ℕ, length, get_or, subst, sym, ap, ◌∙◌, arith}
use Rattle.std.specs.Prelude.{swap_remove}
use Rattle.std.proofs.lemmas.List.{get_or-map, length-map}
use Rattle.std.proofs.lemmas.Option.{none-some, get_or_from_slice_get, slice_get-get_or}
use Rattle.vs_defs.specs.Bytes.{Bytes}
use Rattle.vs_order.specs.Entries.{Entries, ids_of}
use Rattle.vs_order.specs.Ids.{AreSplit}
use Rattle.vs_order.proofs.FreeIds.{removed}
use Rattle.vs_order.proofs.Places.{swap_map}
use Rattle.vs_order.proofs.names.Names.swap_remove.Goals as goal

pub invariant_of-self : goal.invariant_of-self
invariant_of-self c =
    let s = c.self.inside in
    let es = s.map.entries in
    let place = c.args.place in
    let p : Bytes × ℕ = (c.in-Some.field-0-0, c.in-Some.id) in
    let low : place < length es = omega (arith, c.requires, ap (λ x. length x.entries) c.self.view_is) in
    let lower : place < length (ids_of es) = omega (arith, low, length-map es (λ (e : Bytes × ℕ). e.1)) in
    let id : get_or (ids_of es) place 0 ≡ c.in-Some.id
    = get_or-map (λ (e : Bytes × ℕ). e.1) es place p 0 low ∙ ap (λ (e : Bytes × ℕ). e.1) (get_or_from_slice_get es place p p (sym c.in-Some.ensures.entry)) in (
      subst (λ (l : Entries). AreSplit (ids_of l) c.push_reserved.new.self.items s.next) (sym c.in-Some.ensures.entries)
          (subst (λ l. AreSplit l c.push_reserved.new.self.items s.next) (sym (swap_map (λ (e : Bytes × ℕ). e.1) es place p 0 (omega (arith, low))))
          (subst (λ f. AreSplit (swap_remove (ids_of es) place 0) f s.next) (sym c.push_reserved.ensures.items)
          (subst (λ k. AreSplit (swap_remove (ids_of es) place 0) (s.free.items ++ k ∷ []) s.next) id (removed (ids_of es) s.free.items s.next place 0 c.self.invariant.0 lower)))),
      omega (arith, c.push_reserved.ensures.capacity, c.self.invariant.1),
    )

pub returns-in_default : goal.returns-in_default
returns-in_default c =
    let es = c.self.inside.map.entries in
    let p : Bytes × ℕ = ([], 0) in
    let low : c.args.place < length es = omega (arith, c.requires, ap (λ x. length x.entries) c.self.view_is) in
    absurd (none-some (get_or es c.args.place p) (sym c.in_default.is ∙ c.swap_remove_index.ensures.entry ∙ slice_get-get_or es c.args.place p low))
