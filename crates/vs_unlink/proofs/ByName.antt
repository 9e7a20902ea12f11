-- Ids in the order of names.
use Rattle.std.proofs.Common.{◌≡◌, ℕ, ◌+◌, ◌<◌, false, List, [], ◌∷◌, length, get_or, map, refl, sym, ap, ◌∙◌, subst, arith}
use Rattle.std.specs.Prelude.{All}
use Rattle.std.specs.List.Sorted.{IsSortedBy, IsPermutation, IsSorted}
use Rattle.std.specs.Ordering.{nat_cmp, ordering_then, is_lt}
use Rattle.std.specs.Cmp.Lexicographic.{slice_cmp}
use Rattle.std.specs.declared.cmp.Ordering.{Ordering}
use Rattle.std.specs.declared.cmp.Ordering.TheVariants.{Less, Equal, Greater}
use Rattle.std.proofs.lemmas.List.{get_or-map, length-map}
use Rattle.std.proofs.lemmas.List.Sorted.{IsPermutation-map, All-permutation}
use Rattle.vs_graph.specs.Bodies.{Bodies, name_at}
use Rattle.vs_unlink.specs.declared.named.Named.{Named}
use Rattle.vs_unlink.specs.Named.{id_of, IsNamedSo, AreByName}

abbrev pub named_cmp : Named → Named → Ordering
named_cmp x y = ordering_then (slice_cmp nat_cmp x.name.now y.name.now) (nat_cmp x.id y.id)

not_before : (a b : Ordering) → is_lt (ordering_then a b) ≡ false → is_lt a ≡ false
not_before Less b h = h
not_before Equal b h = refl
not_before Greater b h = refl

module _ (bodies : Bodies) where
  by_name : (x y : Named) → IsNamedSo bodies x → IsNamedSo bodies y → is_lt (named_cmp x y) ≡ false → is_lt (slice_cmp nat_cmp (name_at bodies (id_of x)) (name_at bodies (id_of y))) ≡ false
  by_name x y sx sy h =
      ap (λ l. is_lt (slice_cmp nat_cmp l (name_at bodies y.id))) (sym sx) ∙ ap (λ l. is_lt (slice_cmp nat_cmp x.name.now l)) (sym sy) ∙ not_before (slice_cmp nat_cmp x.name.now y.name.now) (nat_cmp x.id y.id) h

  ids_sorted : (cs : List Named) → All (IsNamedSo bodies) cs → IsSortedBy (λ x y. is_lt (named_cmp x y)) cs → IsSorted (λ a b. slice_cmp nat_cmp (name_at bodies a) (name_at bodies b)) (map id_of cs)
  ids_sorted [] named sorted = λ k d low high. absurd (omega arith)
  ids_sorted (x ∷ xs) named sorted = λ k d low high.
      let l : List Named = x ∷ xs in
      let within : k + 1 < length l = omega (arith, length-map l id_of) in
      let here = get_or-map id_of l k x d (omega arith) in
      let next' = get_or-map id_of l (k + 1) x d within in
      subst (λ y. is_lt (slice_cmp nat_cmp (name_at bodies y) (name_at bodies (get_or (map id_of l) k d))) ≡ false) (sym next')
      (subst (λ y. is_lt (slice_cmp nat_cmp (name_at bodies (id_of (get_or l (k + 1) x))) (name_at bodies y)) ≡ false) (sym here)
      (by_name (get_or l (k + 1) x) (get_or l k x) (named (k + 1) x within) (named k x (omega arith)) (sorted k x low within)))

  pub are_by_name : (ids : List ℕ) (found sorted : List Named) → map id_of found ≡ ids → All (IsNamedSo bodies) found → IsPermutation found sorted → IsSortedBy (λ x y. is_lt (named_cmp x y)) sorted → AreByName bodies ids (map id_of sorted)
  are_by_name ids found sorted are named moved up = record {
    same = subst (λ l. IsPermutation l (map id_of sorted)) are (IsPermutation-map id_of found sorted moved);
    sorted = ids_sorted sorted (All-permutation (IsNamedSo bodies) found sorted moved named) up;
  }
