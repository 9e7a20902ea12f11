-- What a beam without a filter found.
use Rattle.std.proofs.Common.{◌≡◌, ℕ, zero, suc, ◌<◌, true, false, List, [], ◌∷◌, length, take, map, refl, sym, ap, ◌∙◌, subst, arith, length-take}
use Rattle.std.specs.Prelude.{Some, nat_eq, filter, slice_get, All}
use Rattle.std.specs.List.{IsDistinct}
use Rattle.std.specs.List.Sorted.{IsPermutation}
use Rattle.std.specs.declared.option.Option.{Option}
use Rattle.std.proofs.lemmas.Bool.Decides.{Decides-eqb}
use Rattle.std.proofs.lemmas.Map.Keys.{IsDistinct-IsPermutation, IsDistinct-head, IsDistinct-tail, IsDistinct-cons}
use Rattle.std.proofs.lemmas.Map.Made.{IsDistinct-from_AllPairs}
use Rattle.std.proofs.lemmas.List.{length-map}
use Rattle.std.proofs.lemmas.List.Elements.{All-map, All-take, All-from_recursion, recursion_from_All}
use Rattle.std.proofs.lemmas.List.Sorted.{All-permutation, IsPermutation-map, length_permutation}
use Rattle.vs_graph.specs.declared.node.Node.{Node}
use Rattle.vs_graph.specs.Good.{StandsAt}
use Rattle.vs_laws.proofs.Tests.{nat_eq_flips}
use Rattle.vs_rank.specs.declared.Key.{Key}
use Rattle.vs_rank.proofs.Keys.{same_sorted}
use Rattle.vs_beam.specs.Beam.{key_at, ranked, IsBeam}
use Rattle.vs_beam.proofs.Steps.{ranked_keys}
use Rattle.vs_insert.specs.Choosing.{everyone}

all_pass : (xs : List Key) → filter (λ (key : Key). true) xs ≡ xs
all_pass [] = refl
all_pass (x ∷ xs) = ap (λ l. x ∷ l) (all_pass xs)

ids_keys : (at : ℕ → Option Node) (query : List ℕ) (tried : List ℕ) → map (λ (key : Key). key.id) (map (key_at at query) tried) ≡ tried
ids_keys at query [] = refl
ids_keys at query (x ∷ xs) = ap (λ l. x ∷ l) (ids_keys at query xs)

take_map_ids : (n : ℕ) (xs : List Key) → map (λ (key : Key). key.id) (take n xs) ≡ take n (map (λ (key : Key). key.id) xs)
take_map_ids zero xs = refl
take_map_ids (suc n) [] = refl
take_map_ids (suc n) (x ∷ xs) = ap (λ l. x.id ∷ l) (take_map_ids n xs)

distinct_take : (n : ℕ) (xs : List ℕ) → IsDistinct nat_eq xs → IsDistinct nat_eq (take n xs)
distinct_take zero [] d = d
distinct_take zero (x ∷ xs) d = distinct_take zero xs (IsDistinct-tail nat_eq x xs d)
distinct_take (suc n) [] d = d
distinct_take (suc n) (x ∷ xs) d =
    IsDistinct-cons nat_eq x (take n xs)
    (recursion_from_All (λ y. nat_eq x y ≡ false) (take n xs) (All-take (λ y. nat_eq x y ≡ false) n xs (All-from_recursion (λ y. nat_eq x y ≡ false) xs (IsDistinct-head nat_eq x xs d))))
    (distinct_take n xs (IsDistinct-tail nat_eq x xs d))

module _ (at : ℕ → Option Node) (layer start ef : ℕ) (query tried expanded : List ℕ) (found : List Key) (beam : IsBeam at layer start query ef 0 everyone tried expanded found) where
  pub found_is : found ≡ take ef (ranked at query tried)
  found_is = beam.best ∙ ap (take ef) (all_pass (ranked at query tried))

  pub ranked_ids : IsPermutation tried (map (λ (key : Key). key.id) (ranked at query tried))
  ranked_ids = subst (λ l. IsPermutation l (map (λ (key : Key). key.id) (ranked at query tried))) (ids_keys at query tried) (IsPermutation-map (λ (key : Key). key.id) (map (key_at at query) tried) (ranked at query tried) (same_sorted (map (key_at at query) tried)))

  -- what holds of those that were tried holds of those that were found
  pub found_all : (P : ℕ → Type 0) → All P tried → All (λ (key : Key). P key.id) found
  found_all P h =
      subst (λ l. All (λ (key : Key). P key.id) l) (sym found_is)
      (All-take (λ (key : Key). P key.id) ef (ranked at query tried)
      (All-permutation (λ (key : Key). P key.id) (map (key_at at query) tried) (ranked at query tried) (same_sorted (map (key_at at query) tried)) (All-map (λ (key : Key). P key.id) (key_at at query) tried h)))

  pub found_stand : All (λ (key : Key). StandsAt at layer key.id) found
  found_stand = found_all (StandsAt at layer) beam.stand

  pub found_keys : All (λ (key : Key). key ≡ key_at at query key.id) found
  found_keys = subst (λ l. All (λ (key : Key). key ≡ key_at at query key.id) l) (sym found_is) (All-take (λ (key : Key). key ≡ key_at at query key.id) ef (ranked at query tried) (ranked_keys at layer query tried))

  pub found_once : IsDistinct nat_eq (map (λ (key : Key). key.id) found)
  found_once =
      subst (λ l. IsDistinct nat_eq (map (λ (key : Key). key.id) l)) (sym found_is)
      (subst (IsDistinct nat_eq) (sym (take_map_ids ef (ranked at query tried)))
      (distinct_take ef (map (λ (key : Key). key.id) (ranked at query tried)) (IsDistinct-IsPermutation nat_eq nat_eq_flips tried (map (λ (key : Key). key.id) (ranked at query tried)) ranked_ids (IsDistinct-from_AllPairs Decides-eqb tried beam.once))))

  pub ranked_long : length (ranked at query tried) ≡ length tried
  ranked_long = sym (length-map (ranked at query tried) (λ (key : Key). key.id)) ∙ length_permutation _ _ ranked_ids

  tried_some : (xs : List ℕ) → slice_get xs 0 ≡ Some start → 0 < length xs
  tried_some [] h = cc
  tried_some (x ∷ xs) h = omega arith

  pub found_some : 0 < ef → 0 < length found
  found_some wide = subst (λ l. 0 < length l) (sym found_is) (omega (arith, length-take ef (ranked at query tried), ranked_long, tried_some tried beam.start_first, wide))
