-- A neighbour that a fold picks, and what follows where it is picked.
use Rattle.std.proofs.Common.{◌≡◌, ◌≢◌, ℕ, ◌<◌, ◌≤◌, Bool, true, false, cond, eqb, ◌&&◌, ◌||◌, List, [], ◌∷◌, ◌++◌, length, get_or, refl, sym, ap, ◌∙◌, subst, arith, inl, inr, ◌⊎◌}
use Rattle.std.specs.Prelude.{nat_eq, nat_lt, filter, fold, Some, None, IsSome}
use Rattle.std.specs.List.{list_any}
use Rattle.std.specs.Ordering.{is_gt, is_lt}
use Rattle.std.specs.declared.option.Option.{Option}
use Rattle.std.proofs.lemmas.Bool.{eqb-true, eq-eqb, ne_eqb, both_ways, or_left, or_right, or_cases, and_parts, ltb-true, le-ltb, cond-false}
use Rattle.std.proofs.lemmas.Option.{cond_some, same_Some, none-some}
use Rattle.std.proofs.Math.Bool.{and-false}
use Rattle.vs_graph.specs.declared.node.Node.{Node}
use Rattle.vs_graph.specs.Bodies.{Bodies, gap, nearness}
use Rattle.vs_link.specs.Picks.{later, earlier, farthest, nearest}
use Rattle.vs_graph.specs.Table.{Table, is_in, joined, displaced}
use Rattle.vs_graph.specs.GoodTable.{IsGoodTable}
use Rattle.vs_graph.specs.Good.{layers_at}
use Rattle.vs_link.specs.Linked.{has_room, displaced_by, giving_way, accepted, forced_near, forced_at}
use Rattle.vs_graph.proofs.Lists.{length_push}
use Rattle.vs_graph.proofs.NodeLaws.{live_from_layers}
use Rattle.vs_laws.proofs.Lists.{in_at}

abbrev pub Picks : (Option ℕ → ℕ → Option ℕ) → Type 0
Picks f = (b : Option ℕ) (z : ℕ) → (f b z ≡ Some z) ⊎ (f b z ≡ b)

picked_step : (b c : Option ℕ) (x w : ℕ) (q : Bool) → (c ≡ Some x) ⊎ (c ≡ b) → (c ≡ Some w) ⊎ (q ≡ true) → (b ≡ Some w) ⊎ ((eqb w x || q) ≡ true)
picked_step b c x w q (inl e) (inl h) = inr (or_left (eqb w x) q (eq-eqb w x (same_Some w x (sym h ∙ e))))
picked_step b c x w q (inr e) (inl h) = inl (sym e ∙ h)
picked_step b c x w q p (inr h) = inr (or_right (eqb w x) q h)

picked_in : (f : Option ℕ → ℕ → Option ℕ) → Picks f → (xs : List ℕ) (b : Option ℕ) (w : ℕ) → fold f b xs ≡ Some w → (b ≡ Some w) ⊎ (list_any (nat_eq w) xs ≡ true)
picked_in f p [] b w h = inl h
picked_in f p (x ∷ xs) b w h = picked_step b (f b x) x w (list_any (nat_eq w) xs) (p b x) (picked_in f p xs (f b x) w h)

from_none : (w : ℕ) (A : Type 0) → (◌≡◌ {A = Option ℕ} None (Some w)) ⊎ A → A
from_none w A (inl e) = absurd (none-some w e)
from_none w A (inr a) = a

either_picked : (z w : ℕ) (b : Bool) → (◌≡◌ {A = Option ℕ} (cond b (Some z) (Some w)) (Some z)) ⊎ (◌≡◌ {A = Option ℕ} (cond b (Some z) (Some w)) (Some w))
either_picked z w true = inl refl
either_picked z w false = inr refl

later_picks : (bodies : Bodies) (y : ℕ) → Picks (later bodies y)
later_picks bodies y None z = inl refl
later_picks bodies y (Some w) z = either_picked z w (is_gt (nearness bodies y z w))

earlier_picks : (bodies : Bodies) (x : ℕ) → Picks (earlier bodies x)
earlier_picks bodies x None z = inl refl
earlier_picks bodies x (Some w) z = either_picked z w (is_lt (nearness bodies x z w))

pub farthest_in : (bodies : Bodies) (y : ℕ) (ids : List ℕ) (w : ℕ) → farthest bodies y ids ≡ Some w → list_any (nat_eq w) ids ≡ true
farthest_in bodies y ids w h = from_none w (list_any (nat_eq w) ids ≡ true) (picked_in (later bodies y) (later_picks bodies y) ids None w h)

pub nearest_in : (bodies : Bodies) (x : ℕ) (ids : List ℕ) (w : ℕ) → nearest bodies x ids ≡ Some w → list_any (nat_eq w) ids ≡ true
nearest_in bodies x ids w h = from_none w (list_any (nat_eq w) ids ≡ true) (picked_in (earlier bodies x) (earlier_picks bodies x) ids None w h)

-- something is picked of a list that has something
kept_some : (z w : ℕ) (b : Bool) → IsSome (cond b (Some z) (Some w))
kept_some z w true = refl
kept_some z w false = refl

later_some : (bodies : Bodies) (y : ℕ) (b : Option ℕ) (z : ℕ) → IsSome (later bodies y b z)
later_some bodies y None z = refl
later_some bodies y (Some w) z = kept_some z w (is_gt (nearness bodies y z w))

fold_some : (f : Option ℕ → ℕ → Option ℕ) → ((b : Option ℕ) (z : ℕ) → IsSome (f b z)) → (xs : List ℕ) (b : Option ℕ) → IsSome b → IsSome (fold f b xs)
fold_some f h [] b s = s
fold_some f h (x ∷ xs) b s = fold_some f h xs (f b x) (h b x)

pub farthest_some : (bodies : Bodies) (y : ℕ) (ids : List ℕ) → 0 < length ids → IsSome (farthest bodies y ids)
farthest_some bodies y [] h = absurd (omega arith)
farthest_some bodies y (x ∷ xs) h = fold_some (later bodies y) (later_some bodies y) xs (Some x) refl

earlier_some : (bodies : Bodies) (x : ℕ) (b : Option ℕ) (z : ℕ) → IsSome (earlier bodies x b z)
earlier_some bodies x None z = refl
earlier_some bodies x (Some w) z = kept_some z w (is_lt (nearness bodies x z w))

pub nearest_some : (bodies : Bodies) (x : ℕ) (ids : List ℕ) → 0 < length ids → IsSome (nearest bodies x ids)
nearest_some bodies x [] h = absurd (omega arith)
nearest_some bodies x (z ∷ zs) h = fold_some (earlier bodies x) (earlier_some bodies x) zs (Some z) refl

-- what passes a filter
filter_step : (p : ℕ → Bool) (z x : ℕ) (rest : List ℕ) (q : Bool) (b : Bool) → p x ≡ b → (list_any (nat_eq z) rest ≡ true → (q ≡ true) × (p z ≡ true))
    → list_any (nat_eq z) (cond b (x ∷ rest) rest) ≡ true → ((eqb z x || q) ≡ true) × (p z ≡ true)
filter_step p z x rest q false e h k = let r = h k in (or_right (eqb z x) q r.0, r.1)
filter_step p z x rest q true e h k = elim (or_cases (eqb z x) (list_any (nat_eq z) rest) k) [
  | inl s ↦ (or_left (eqb z x) q s, ap p (eqb-true z x s) ∙ e)
  | inr s ↦ (let r = h s in (or_right (eqb z x) q r.0, r.1))
]

pub filter_in : (p : ℕ → Bool) (z : ℕ) (xs : List ℕ) → list_any (nat_eq z) (filter p xs) ≡ true → (list_any (nat_eq z) xs ≡ true) × (p z ≡ true)
filter_in p z [] h = absurd (both_ways false refl h)
filter_in p z (x ∷ xs) h = filter_step p z x (filter p xs) (list_any (nat_eq z) xs) (p x) refl (filter_in p z xs) h

in_filter_step : (p : ℕ → Bool) (z x : ℕ) (rest : List ℕ) (q : Bool) (b : Bool) → p x ≡ b → p z ≡ true → (q ≡ true → 0 < length rest) → (eqb z x || q) ≡ true → 0 < length (cond b (x ∷ rest) rest)
in_filter_step p z x rest q true e pz h k = omega arith
in_filter_step p z x rest q false e pz h k = elim (or_cases (eqb z x) q k) [
  | inl s ↦ absurd (both_ways (p x) e (ap p (sym (eqb-true z x s)) ∙ pz))
  | inr s ↦ h s
]

pub in_filter : (p : ℕ → Bool) (z : ℕ) (xs : List ℕ) → list_any (nat_eq z) xs ≡ true → p z ≡ true → 0 < length (filter p xs)
in_filter p z [] h pz = absurd (both_ways false refl h)
in_filter p z (x ∷ xs) h pz = in_filter_step p z x (filter p xs) (list_any (nat_eq z) xs) (p x) refl pz (λ k. in_filter p z xs k pz) h

-- ---- who stands and who is live

pub neighbours_live : (at : ℕ → Option Node) (layer most : ℕ) (t : Table) (y : ℕ) (ids : List ℕ) → IsGoodTable (layers_at at) layer most t → ids ≡ t y → (k d : ℕ) → k < length ids → IsSome (at (get_or ids k d))
neighbours_live at layer most t y ids good e k d h =
    live_from_layers at layer (get_or ids k d) (good.stand y (get_or ids k d) (subst (λ l. list_any (nat_eq (get_or ids k d)) l ≡ true) e (in_at ids k d h)))

-- ---- whom a neighbour's place goes to

pub giving_way_from : (bodies : Bodies) (t : Table) (x y : ℕ) (o : Option ℕ) (w : ℕ) → giving_way bodies t x y o ≡ Some w → (o ≡ Some w) × (1 < length (t w))
giving_way_from bodies t x y None w h = absurd (none-some w h)
giving_way_from bodies t x y (Some v) w h =
    let r = cond_some (nat_lt (gap bodies y x) (gap bodies y v) && nat_lt 1 (length (t v))) v w h in
    (ap Some r.1, subst (λ k. 1 < length (t k)) r.1 (ltb-true 1 (length (t v)) (and_parts (nat_lt (gap bodies y x) (gap bodies y v)) (nat_lt 1 (length (t v))) r.0).1))

pub yielding_in : (bodies : Bodies) (t : Table) (x y w : ℕ) → giving_way bodies t x y (farthest bodies y (t y)) ≡ Some w → is_in t y w ≡ true
yielding_in bodies t x y w h = farthest_in bodies y (t y) w (giving_way_from bodies t x y (farthest bodies y (t y)) w h).0

pub accepted_by_full : (bodies : Bodies) (most : ℕ) (t : Table) (x y w : ℕ) → most ≤ length (t y) → giving_way bodies t x y (farthest bodies y (t y)) ≡ Some w → accepted bodies most x t y ≡ displaced t x y w
accepted_by_full bodies most t x y w full h = cond-false (has_room most t y) (joined t x y) (displaced_by t x y (giving_way bodies t x y (farthest bodies y (t y)))) (le-ltb (length (t y)) most full) ∙ ap (displaced_by t x y) h

pub forced_to_roomy : (bodies : Bodies) (most : ℕ) (t : Table) (x y z : ℕ) → most ≤ length (t y) → nearest bodies x (filter (has_room most t) (t y)) ≡ Some z → forced_at bodies most t x y ≡ joined t x z
forced_to_roomy bodies most t x y z full h =
    cond-false (has_room most t y) (joined t x y) (forced_near bodies t x y (nearest bodies x (filter (has_room most t) (t y)))) (le-ltb (length (t y)) most full) ∙ ap (forced_near bodies t x y) h

-- x isn't linked to y, so no neighbour of y is x
pub neighbour_other : (layers : ℕ → ℕ) (layer most : ℕ) (t : Table) (x y w : ℕ) → IsGoodTable layers layer most t → is_in t x y ≡ false → is_in t y w ≡ true → x ≢ w
neighbour_other layers layer most t x y w good apart h e = both_ways (is_in t y w) (ap (is_in t y) (sym e) ∙ sym (good.back x y) ∙ apart) h

-- a list with one more isn't empty
pub now_linked : (l m : List ℕ) (y : ℕ) (p : Bool) → l ≡ m ++ y ∷ [] → eqb (length l) 0 ≡ (p && false)
now_linked l m y p e = ne_eqb (length l) 0 (λ z. absurd (omega (arith, ap length e, length_push m y))) ∙ sym (and-false p)
