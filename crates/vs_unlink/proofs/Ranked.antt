-- Candidates by their places in the order of names, once sorted, give the pairing.
use Rattle.std.proofs.Common.{◌≡◌, ◌≢◌, ℕ, zero, suc, ◌+◌, ◌<◌, Bool, true, false, ltb, List, [], ◌∷◌, length, get_or, map, refl, sym, ap, ◌∙◌, subst, arith, inl, inr, ◌⊎◌}
use Rattle.std.specs.Prelude.{All, nat_eq}
use Rattle.std.specs.List.{list_any, IsDistinct}
use Rattle.std.specs.List.Sorted.{IsSortedBy, IsPermutation}
use Rattle.std.specs.Cmp.{IsTotalOrder, nat_cmp_is}
use Rattle.std.specs.Cmp.Lexicographic.{slice_cmp}
use Rattle.std.specs.Ordering.{nat_cmp, ordering_then, ordering_reverse, is_gt, is_lt}
use Rattle.std.specs.declared.cmp.Ordering.{Ordering}
use Rattle.std.specs.declared.cmp.Ordering.TheVariants.{Less, Equal, Greater}
use Rattle.std.proofs.lemmas.Cmp.{then_total, on_total, nat_cmp_total, nat_list_cmp_total, tied_itself}
use Rattle.std.proofs.lemmas.Bool.{cases_eq, both_ways, eqb-true, eq-eqb, ltb-true, ltb-false}
use Rattle.std.proofs.lemmas.List.{get_or-map, length-map}
use Rattle.std.proofs.lemmas.List.Sorted.{sorted_far, ranks_by, IsPermutation-map, Contains-permutation, All-permutation, list_any-IsPermutation}
use Rattle.std.proofs.lemmas.Map.Keys.{IsDistinct-IsPermutation}
use Rattle.std.proofs.lemmas.Map.Lookups.{exact_bytes}
use Rattle.std.proofs.lemmas.Map.Made.{AllPairs-from_IsDistinct}
use Rattle.vs_graph.specs.Bodies.{Bodies, name_at, gap}
use Rattle.vs_graph.specs.Table.{Table}
use Rattle.vs_graph.proofs.Sorts.{In, from_map, in_from_test, less_or_same}
use Rattle.vs_laws.proofs.Lists.{in_at}
use Rattle.vs_laws.proofs.Tests.{nat_eq_flips}
use Rattle.vs_unlink.specs.declared.Pair.{Pair}
use Rattle.vs_unlink.specs.declared.pairs.Candidate.{Candidate}
use Rattle.vs_unlink.specs.Candidates.{pair_at, IsCandidate, IsWithin, HasPairsBelow}
use Rattle.vs_unlink.specs.Named.{AreByName}
use Rattle.vs_unlink.specs.Pairs.{pair_cmp, IsOpen, IsPairing, matched, Differ}
use Rattle.vs_unlink.proofs.Pairing.{Sorted, contains_in, in_contains, pairing_is}

abbrev pub candidate_cmp : Candidate → Candidate → Ordering
candidate_cmp x y = ordering_then (nat_cmp x.dist y.dist) (ordering_then (nat_cmp x.one y.one) (nat_cmp x.other y.other))

three : (a b : ℕ) → (a < b) ⊎ ((a ≡ b) ⊎ (b < a))
three a b = elim (cases_eq a b) [ inl e ↦ inr (inl e) | inr ne ↦ by_test (ltb a b) refl ne ] where
  by_test : (test : Bool) → ltb a b ≡ test → a ≢ b → (a < b) ⊎ ((a ≡ b) ⊎ (b < a))
  by_test true e ne = inl (ltb-true a b e)
  by_test false e ne = let h = ltb-false a b e in inr (inr (omega arith))

within_any : (xs : List ℕ) (k d e : ℕ) → k < length xs → get_or xs k d ≡ get_or xs k e
within_any [] k d e h = absurd (omega arith)
within_any (x ∷ xs) zero d e h = refl
within_any (x ∷ xs) (suc k) d e h = within_any xs k d e (omega arith)

lt_gt : (o p : Ordering) → o ≡ ordering_reverse p → is_lt o ≡ false → is_gt p ≡ false
lt_gt o Less e h = refl
lt_gt o Equal e h = refl
lt_gt o Greater e h = absurd (both_ways (is_lt o) h (ap is_lt e))

-- ids at different places differ
pub apart_at : (xs : List ℕ) → IsDistinct nat_eq xs → (a b : ℕ) → a < b → b < length xs → get_or xs a 0 ≢ get_or xs b 0
apart_at xs once a b low high = AllPairs-from_IsDistinct (λ x y. (eqb-true x y, eq-eqb x y)) xs once a b 0 low high

-- both places of a candidate are there
pub within_from : (bodies : Bodies) (t : Table) (ranked : List ℕ) (cs : List Candidate) → All (IsCandidate bodies t ranked) cs → All (IsWithin ranked) cs
within_from bodies t ranked cs sound k d h = let c = sound k d h in record { one = omega (arith, c.order, c.within); other = c.within }

module _ (bodies : Bodies) (t : Table) (former ranked : List ℕ) (once : IsDistinct nat_eq former) (differ : Differ bodies former) (by : AreByName bodies former ranked) where
  abbrev name : ℕ → List ℕ
  name a = name_at bodies (get_or ranked a 0)

  by_names : IsTotalOrder (λ a b. slice_cmp nat_cmp (name_at bodies a) (name_at bodies b))
  by_names = on_total (name_at bodies) nat_list_cmp_total

  in_former : (a : ℕ) → a < length ranked → list_any (nat_eq (get_or ranked a 0)) former ≡ true
  in_former a h = list_any-IsPermutation (nat_eq (get_or ranked a 0)) former ranked by.same ∙ in_at ranked a 0 h

  apart : (a b : ℕ) → a < b → b < length ranked → get_or ranked a 0 ≢ get_or ranked b 0
  apart = apart_at ranked (IsDistinct-IsPermutation nat_eq nat_eq_flips former ranked by.same once)

  up : (a b : ℕ) → a < b → b < length ranked → is_gt (slice_cmp nat_cmp (name a) (name b)) ≡ false
  up a b low high =
      lt_gt (slice_cmp nat_cmp (name b) (name a)) (slice_cmp nat_cmp (name a) (name b)) (nat_list_cmp_total.antisymm (name b) (name a))
      (sorted_far (λ p r. is_lt (slice_cmp nat_cmp (name_at bodies p) (name_at bodies r))) (ranks_by by_names (λ (p : ℕ). p)) ranked by.sorted a b 0 (omega arith) high)

  strict : (a b : ℕ) → a < b → b < length ranked → slice_cmp nat_cmp (name a) (name b) ≡ Less
  strict a b low high = elim (less_or_same (slice_cmp nat_cmp (name a) (name b)) (up a b low high)) [
    | inl e ↦ e
    | inr e ↦ absurd (apart a b low high (differ (get_or ranked a 0) (get_or ranked b 0) (in_former a (omega arith)) (in_former b high) (exact_bytes (name a) (name b) e)))
  ]

  -- names compare as their places do
  rank_cmp : (a b : ℕ) → a < length ranked → b < length ranked → slice_cmp nat_cmp (name a) (name b) ≡ nat_cmp a b
  rank_cmp a b la lb = elim (three a b) [
    | inl h ↦ strict a b h lb ∙ nat_cmp_is a b Less h
    | inr k ↦ elim k [
      | inl e ↦ ap (λ q. slice_cmp nat_cmp (name a) (name q)) (sym e) ∙ tied_itself nat_list_cmp_total (name a) ∙ nat_cmp_is a b Equal e
      | inr h ↦ nat_list_cmp_total.antisymm (name a) (name b) ∙ ap ordering_reverse (strict b a h la) ∙ nat_cmp_is a b Greater h
    ]
  ]

  -- ---- the order of candidates is that of their pairs

  same_order : (x y : Candidate) → IsCandidate bodies t ranked x → IsCandidate bodies t ranked y → candidate_cmp x y ≡ pair_cmp bodies (pair_at ranked x) (pair_at ranked y)
  same_order x y sx sy = λ i. ordering_then (nat_cmp (sx.dist i) (sy.dist i))
      (ordering_then (sym (rank_cmp x.one y.one (omega (arith, sx.order, sx.within)) (omega (arith, sy.order, sy.within))) i) (sym (rank_cmp x.other y.other sx.within sy.within) i))

  pairs_adjacent : (cs : List Candidate) → All (IsCandidate bodies t ranked) cs → IsSortedBy (λ x y. is_lt (candidate_cmp x y)) cs → IsSortedBy (λ p r. is_lt (pair_cmp bodies p r)) (map (pair_at ranked) cs)
  pairs_adjacent [] sound sorted = λ k d low high. absurd (omega arith)
  pairs_adjacent (x ∷ xs) sound sorted = λ k d low high.
      let l : List Candidate = x ∷ xs in
      let within : k + 1 < length l = omega (arith, length-map l (pair_at ranked)) in
      let here = get_or-map (pair_at ranked) l k x d (omega arith) in
      let next = get_or-map (pair_at ranked) l (k + 1) x d within in
      subst (λ y. is_lt (pair_cmp bodies y (get_or (map (pair_at ranked) l) k d)) ≡ false) (sym next)
      (subst (λ y. is_lt (pair_cmp bodies (pair_at ranked (get_or l (k + 1) x)) y) ≡ false) (sym here)
      (ap is_lt (sym (same_order (get_or l (k + 1) x) (get_or l k x) (sound (k + 1) x within) (sound k x (omega arith)))) ∙ sorted k x low within))

  pair_total : IsTotalOrder (pair_cmp bodies)
  pair_total =
      then_total (on_total (λ (p : Pair). gap bodies p.one p.other) nat_cmp_total)
      (then_total (on_total (λ (p : Pair). name_at bodies p.one) nat_list_cmp_total) (on_total (λ (p : Pair). name_at bodies p.other) nat_list_cmp_total))

  sorted_from : (ps : List Pair) → ((i j : ℕ) (d : Pair) → i < j → j < length ps → is_gt (pair_cmp bodies (get_or ps i d) (get_or ps j d)) ≡ false) → Sorted bodies ps
  sorted_from [] h = tt
  sorted_from (p ∷ ps) h = (
    λ r k. (let c = in_contains r ps k in subst (λ z. is_gt (pair_cmp bodies p z) ≡ false) c.2 (h 0 (suc c.0) r (omega arith) (omega (arith, c.1)))),
    sorted_from ps (λ i j d low high. h (suc i) (suc j) d (omega arith) (omega arith)),
  )

  pairs_sorted : (cs : List Candidate) → All (IsCandidate bodies t ranked) cs → IsSortedBy (λ x y. is_lt (candidate_cmp x y)) cs → Sorted bodies (map (pair_at ranked) cs)
  pairs_sorted cs sound sorted =
      let ps = map (pair_at ranked) cs in
      sorted_from ps (λ i j d low high.
      lt_gt (pair_cmp bodies (get_or ps j d) (get_or ps i d)) (pair_cmp bodies (get_or ps i d) (get_or ps j d)) (pair_total.antisymm (get_or ps j d) (get_or ps i d))
      (sorted_far (λ p r. is_lt (pair_cmp bodies p r)) (ranks_by pair_total (λ (p : Pair). p)) ps (pairs_adjacent cs sound sorted) i j d (omega arith) high))

  -- ---- the pairs are the open ones

  opened : (c : Candidate) → IsCandidate bodies t ranked c → IsOpen bodies t former (pair_at ranked c)
  opened c h = record {
    one = in_former c.one (omega (arith, h.order, h.within));
    other = in_former c.other h.within;
    order = strict c.one c.other h.order h.within;
    unlinked = h.unlinked;
  }

  all_open : (cs : List Candidate) → All (IsCandidate bodies t ranked) cs → (p : Pair) → In p (map (pair_at ranked) cs) → IsOpen bodies t former p
  all_open cs sound p h =
      let from = from_map (pair_at ranked) p cs h in
      let c = in_contains from.0 cs from.1 in
      subst (IsOpen bodies t former) from.2 (opened from.0 (subst (IsCandidate bodies t ranked) c.2 (sound c.0 from.0 c.1)))

  -- the place of a former neighbour
  place_of : (y : ℕ) → list_any (nat_eq y) former ≡ true → (a : ℕ) × (a < length ranked) × (get_or ranked a 0 ≡ y)
  place_of y h =
      let c = in_contains y ranked (in_from_test y ranked (sym (list_any-IsPermutation (nat_eq y) former ranked by.same) ∙ h)) in
      (c.0, c.1, within_any ranked c.0 0 y c.1 ∙ c.2)

  before : (a b : ℕ) → a < length ranked → b < length ranked → slice_cmp nat_cmp (name a) (name b) ≡ Less → a < b
  before a b la lb h = elim (three a b) [
    | inl low ↦ low
    | inr k ↦ elim k [
      | inl e ↦ absurd (both_ways (is_lt (slice_cmp nat_cmp (name a) (name b))) (ap (λ q. is_lt (slice_cmp nat_cmp (name a) (name q))) (sym e) ∙ ap is_lt (tied_itself nat_list_cmp_total (name a))) (ap is_lt h))
      | inr low ↦ absurd (both_ways (is_lt (slice_cmp nat_cmp (name a) (name b))) (ap is_lt (nat_list_cmp_total.antisymm (name a) (name b) ∙ ap ordering_reverse (strict b a low la))) (ap is_lt h))
    ]
  ]

  all_there : (ps : List Pair) → HasPairsBelow t ranked (length ranked) ps → (p : Pair) → IsOpen bodies t former p → In p ps
  all_there ps has p o =
      let one = place_of p.one o.one in
      let other = place_of p.other o.other in
      let same : record { one = get_or ranked one.0 0; other = get_or ranked other.0 0 } ≡ p = λ i. record { one = one.2 i; other = other.2 i } in
      let less : slice_cmp nat_cmp (name one.0) (name other.0) ≡ Less = subst (λ (q : Pair). slice_cmp nat_cmp (name_at bodies q.one) (name_at bodies q.other) ≡ Less) (sym same) o.order in
      subst (λ q. In q ps) same (contains_in _ ps (has one.0 one.1 other.0 (before one.0 other.0 one.1 other.1 less) other.1 (subst (λ (q : Pair). list_any (nat_eq q.other) (t q.one) ≡ false) (sym same) o.unlinked)))

  -- candidates that are all, sorted, give the pairing
  pub pairing_from : (found sorted : List Candidate) → All (IsCandidate bodies t ranked) found → HasPairsBelow t ranked (length ranked) (map (pair_at ranked) found) → IsPermutation found sorted
      → IsSortedBy (λ x y. is_lt (candidate_cmp x y)) sorted → IsPairing bodies t former (matched (map (pair_at ranked) sorted))
  pairing_from found sorted sound has moved up =
      let sound_now = All-permutation (IsCandidate bodies t ranked) found sorted moved sound in
      pairing_is bodies t former (map (pair_at ranked) sorted) differ (pairs_sorted sorted sound_now up) (all_open sorted sound_now)
      (λ p o. contains_in p (map (pair_at ranked) sorted)
      (Contains-permutation (map (pair_at ranked) found) (map (pair_at ranked) sorted) p (IsPermutation-map (pair_at ranked) found sorted moved) (in_contains p (map (pair_at ranked) found) (all_there (map (pair_at ranked) found) has p o))))
