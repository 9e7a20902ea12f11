-- Lists of ids in another order, names in order, and layers from the highest down.
use Rattle.std.proofs.Common.{◌≡◌, ℕ, zero, suc, ◌+◌, ◌<◌, ◌≤◌, Bool, true, false, not, ◌&&◌, ◌||◌, cond, eqb, List, [], ◌∷◌, ◌++◌, length, get_or, map, refl, sym, ap, ◌∙◌, subst, arith, inl, inr}
use Rattle.std.specs.Prelude.{filter, nat_eq, nat_le}
use Rattle.std.specs.List.{list_any, IsDistinct}
use Rattle.std.specs.List.Sorted.{IsPermutation, IsSorted}
use Rattle.std.specs.Ordering.{is_lt}
use Rattle.std.specs.declared.cmp.Ordering.{Ordering}
use Rattle.std.proofs.lemmas.Bool.{both_ways, cases_eq, eqb-true, eqb-false, eq-eqb, or_left, or_cases, cond-true, le-leb}
use Rattle.std.proofs.lemmas.Cmp.{nat_list_cmp_total}
use Rattle.std.proofs.lemmas.List.{get_or-map, length-map}
use Rattle.std.proofs.lemmas.List.Sorted.{IsPermutation-refl, IsPermutation-sym, IsPermutation-trans, IsPermutation-cons, IsPermutation-swap}
use Rattle.std.proofs.lemmas.Map.Keys.{IsDistinct-tail}
use Rattle.std.proofs.lemmas.Map.Lookups.{exact_bytes}
use Rattle.std.proofs.Math.Bool.{and-true, and-false}
use Rattle.vs_defs.specs.Bytes.{Bytes, name_cmp, place_by, sort_by}
use Rattle.vs_defs.specs.Beam.{layers_down}
use Rattle.vs_graph.specs.Table.{without}
use Rattle.vs_graph.proofs.Lists.{has_without, distinct_without, head_absent}
use Rattle.vs_defs.proofs.LayerLaws.{no_layers}
use Rattle.vs_rank.proofs.Sorted.{IsOrder, order_of, ascends_sorted, filter_placed}
use Rattle.vs_unlink.proofs.Detached.{absent}

-- ---- ids

to_front_by : (x y : ℕ) (ys : List ℕ) (b : Bool) → eqb y x ≡ b → IsDistinct nat_eq (y ∷ ys) → (eqb x y || list_any (nat_eq x) ys) ≡ true
    → (list_any (nat_eq x) ys ≡ true → IsPermutation ys (x ∷ without x ys)) → IsPermutation (y ∷ ys) (x ∷ cond (not b) (y ∷ without x ys) (without x ys))
to_front_by x y ys true e d h f =
    let is : y ≡ x = eqb-true y x e in
    let gone : without x ys ≡ ys = absent x ys (subst (λ k. list_any (nat_eq k) ys ≡ false) is (head_absent y ys d)) in
    subst (IsPermutation (y ∷ ys)) (ap (λ k. k ∷ ys) is ∙ ap (λ l. x ∷ l) (sym gone)) (IsPermutation-refl (y ∷ ys))
to_front_by x y ys false e d h f =
    let there : list_any (nat_eq x) ys ≡ true = elim (or_cases (eqb x y) (list_any (nat_eq x) ys) h) [ inl k ↦ absurd (eqb-false y x e (sym (eqb-true x y k))) | inr k ↦ k ] in
    IsPermutation-trans _ _ _ (IsPermutation-cons y ys (x ∷ without x ys) (f there)) (IsPermutation-swap (y ∷ x ∷ without x ys) (x ∷ y ∷ without x ys) 0 1 (omega arith) (omega arith) refl)

to_front : (x : ℕ) (ys : List ℕ) → IsDistinct nat_eq ys → list_any (nat_eq x) ys ≡ true → IsPermutation ys (x ∷ without x ys)
to_front x [] d h = absurd (both_ways false refl h)
to_front x (y ∷ ys) d h = to_front_by x y ys (eqb y x) refl d h (to_front x ys (IsDistinct-tail nat_eq y ys d))

others_by : (x z : ℕ) (xs : List ℕ) (b q : Bool) → eqb z x ≡ b → list_any (nat_eq x) xs ≡ false → (b || list_any (nat_eq z) xs) ≡ q → list_any (nat_eq z) xs ≡ (q && not b)
others_by x z xs true q e none h = ap (λ k. list_any (nat_eq k) xs) (eqb-true z x e) ∙ none ∙ sym (and-false q)
others_by x z xs false q e none h = h ∙ sym (and-true q)

-- two lists of the same ids, each once
pub same_ids : (xs ys : List ℕ) → IsDistinct nat_eq xs → IsDistinct nat_eq ys → ((z : ℕ) → list_any (nat_eq z) xs ≡ list_any (nat_eq z) ys) → IsPermutation xs ys
same_ids [] [] c d h = IsPermutation-refl []
same_ids [] (y ∷ ys) c d h = absurd (both_ways (list_any (nat_eq y) (y ∷ ys)) (sym (h y)) (or_left (eqb y y) (list_any (nat_eq y) ys) (eq-eqb y y refl)))
same_ids (x ∷ xs) ys c d h =
    let there : list_any (nat_eq x) ys ≡ true = sym (h x) ∙ or_left (eqb x x) (list_any (nat_eq x) xs) (eq-eqb x x refl) in
    let rest : IsPermutation xs (without x ys) = same_ids xs (without x ys) (IsDistinct-tail nat_eq x xs c) (distinct_without x ys d)
    (λ z. others_by x z xs (eqb z x) (list_any (nat_eq z) ys) refl (head_absent x xs c) (h z) ∙ sym (has_without x z ys)) in
    IsPermutation-trans _ _ _ (IsPermutation-cons x xs (without x ys) rest) (IsPermutation-sym _ _ (to_front x ys d there))

-- ---- names

pub name_order : IsOrder name_cmp
name_order = order_of name_cmp nat_list_cmp_total exact_bytes

filter_sorted_by : {X : Type 0} (cmp : X → X → Ordering) (x : X) (xs : List X) (b : Bool) → cond b (place_by cmp x (sort_by cmp xs)) (sort_by cmp xs) ≡ sort_by cmp (cond b (x ∷ xs) xs)
filter_sorted_by cmp x xs true = refl
filter_sorted_by cmp x xs false = refl

-- what passes of a list in order is what passes, in order
pub filter_sorted : {X : Type 0} (cmp : X → X → Ordering) (o : IsOrder cmp) (p : X → Bool) (xs : List X) → filter p (sort_by cmp xs) ≡ sort_by cmp (filter p xs)
filter_sorted cmp o p [] = refl
filter_sorted cmp o p (x ∷ xs) =
    filter_placed cmp o p x (sort_by cmp xs) (ascends_sorted cmp o xs) ∙ ap (λ l. cond (p x) (place_by cmp x l) l) (filter_sorted cmp o p xs)
    ∙ filter_sorted_by cmp x (filter p xs) (p x)

pub names_sorted : (name : ℕ → Bytes) (ids : List ℕ) → IsSorted (λ a b. name_cmp (name a) (name b)) ids → IsSorted name_cmp (map name ids)
names_sorted name ids up = λ k d low high.
    let within : k + 1 < length ids = omega (arith, length-map ids name, high) in
    ap (λ a. is_lt (name_cmp a (get_or (map name ids) k d))) (get_or-map name ids (k + 1) 0 d within)
    ∙ ap (λ b. is_lt (name_cmp (name (get_or ids (k + 1) 0)) b)) (get_or-map name ids k 0 d (omega (arith, within))) ∙ up k 0 low within

-- ---- layers

-- one layer more goes last
pub layers_more : (high n : ℕ) → n ≤ high → layers_down high n ≡ layers_down high (n + 1) ++ n ∷ []
layers_more zero n h = let is : 0 ≡ n = omega (arith, h) in subst (λ k. layers_down 0 k ≡ layers_down 0 (k + 1) ++ k ∷ []) is refl
layers_more (suc high) n h =
    elim (cases_eq n (suc high)) [
      | inl is ↦ subst (λ k. layers_down (suc high) k ≡ layers_down (suc high) (k + 1) ++ k ∷ []) (sym is) (
          cond-true (nat_le (suc high) (suc high)) (suc high ∷ layers_down high (suc high)) [] (le-leb (suc high) (suc high) (omega arith))
          ∙ ap (λ l. suc high ∷ l) (no_layers high (suc high) (omega arith)) ∙ ap (λ l. l ++ suc high ∷ []) (sym (no_layers (suc high) (suc high + 1) (omega arith))))
      | inr ne ↦
          cond-true (nat_le n (suc high)) (suc high ∷ layers_down high n) [] (le-leb n (suc high) h) ∙ ap (λ l. suc high ∷ l) (layers_more high n (omega (arith, h, ne)))
          ∙ ap (λ l. l ++ n ∷ []) (sym (cond-true (nat_le (n + 1) (suc high)) (suc high ∷ layers_down high (n + 1)) [] (le-leb (n + 1) (suc high) (omega (arith, h, ne)))))
    ]
