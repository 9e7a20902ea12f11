-- Sorting by a total order, and the first few of what is sorted. All of it is over the definitions' `place_by` and `sort_by`.
use Rattle.std.proofs.Common.{◌≡◌, ℕ, zero, suc, ◌+◌, ◌-◌, ◌<◌, Bool, true, false, cond, not, ◌&&◌, List, [], ◌∷◌, ◌++◌, length, get_or, take, refl, sym, ap, ◌∙◌, subst, arith, length-append, take_all, inl, inr}
use Rattle.std.specs.Prelude.{filter, count_by, slice_get, Some}
use Rattle.std.specs.Option.{option_map_or}
use Rattle.std.specs.BinaryHeap.{IsUpperBound}
use Rattle.std.proofs.Math.Seq.{take-append_seam, get_or-append_seam}
use Rattle.std.proofs.lemmas.Option.{slice_get-get_or}
use Rattle.std.specs.List.{AllByRecursion}
use Rattle.std.specs.List.Sorted.{IsPermutation, IsSortedBy}
use Rattle.std.specs.Ordering.{is_gt, is_lt, ordering_reverse}
use Rattle.std.specs.declared.cmp.Ordering.{Ordering}
use Rattle.std.specs.declared.cmp.Ordering.TheVariants.{Less, Equal, Greater}
use Rattle.std.specs.Cmp.{IsTotalOrder, first_so, second_so}
use Rattle.std.proofs.lemmas.Cmp.{upto}
use Rattle.std.proofs.lemmas.Bool.{both_ways, cases_Bool, not-true}
use Rattle.std.proofs.lemmas.List.{take-take, take_more}
use Rattle.std.proofs.lemmas.List.Sums.{sum_by-cons}
use Rattle.std.proofs.lemmas.List.Elements.{All-from_recursion, recursion_from_All}
use Rattle.std.proofs.lemmas.List.Sorted.{IsPermutation-refl, IsPermutation-sym, IsPermutation-cons, IsPermutation-swap, IsPermutation-to_front, IsPermutation-trans, sum_by-IsPermutation, length_permutation, All-permutation}
use Rattle.std.proofs.Math.Bool.{and-false}
use Rattle.vs_defs.specs.Bytes.{place_by, sort_by}

-- the order is total, and elements that tie are equal
pub record IsOrder {X : Type 0} (cmp : X → X → Ordering) : Type 0 where
  pub one_way : (x y : X) → is_gt (cmp x y) ≡ true → is_gt (cmp y x) ≡ false
  pub chain : (x y z : X) → is_gt (cmp x y) ≡ false → is_gt (cmp y z) ≡ false → is_gt (cmp x z) ≡ false
  pub turned : (x y : X) → is_lt (cmp x y) ≡ is_gt (cmp y x)
  pub one : (x y : X) → is_gt (cmp x y) ≡ false → is_gt (cmp y x) ≡ false → x ≡ y

one_way_case : (r s : Ordering) → r ≡ ordering_reverse s → is_gt r ≡ true → is_gt s ≡ false
one_way_case r Less e p = refl
one_way_case r Equal e p = refl
one_way_case r Greater e p = absurd (both_ways (is_gt r) (ap is_gt e) p)

lt_turned : (s : Ordering) → is_lt (ordering_reverse s) ≡ is_gt s
lt_turned Less = refl
lt_turned Equal = refl
lt_turned Greater = refl

equal_case : (r s : Ordering) → r ≡ ordering_reverse s → is_gt r ≡ false → is_gt s ≡ false → r ≡ Equal
equal_case r Less e p q = absurd (both_ways (is_gt r) p (ap is_gt e))
equal_case r Equal e p q = e
equal_case r Greater e p q = absurd (both_ways true q refl)

-- an order of the library's, where what compares equal is equal
pub order_of : {X : Type 0} (cmp : X → X → Ordering) → IsTotalOrder cmp → ((x y : X) → cmp x y ≡ Equal → x ≡ y) → IsOrder cmp
order_of cmp o exact = record {
  one_way = λ x y p. one_way_case (cmp x y) (cmp y x) (o.antisymm x y) p;
  chain = λ x y z p q. upto o x y z p q;
  turned = λ x y. ap is_lt (o.antisymm x y) ∙ lt_turned (cmp y x);
  one = λ x y p q. exact x y (equal_case (cmp x y) (cmp y x) (o.antisymm x y) p q);
}

module _ {X : Type 0} (cmp : X → X → Ordering) where
  -- whether x > y
  abbrev pub above : X → X → Bool
  above x y = is_gt (cmp x y)

  -- x is at most each
  abbrev pub AtMost : X → List X → Type 0
  AtMost x xs = AllByRecursion (λ y. above x y ≡ false) xs

  -- x is at least each
  abbrev pub AtLeast : X → List X → Type 0
  AtLeast x xs = AllByRecursion (λ y. above y x ≡ false) xs

  abbrev pub Ascends : List X → Type 0
  Ascends [] = Unit {0}
  Ascends (x ∷ xs) = AtMost x xs × Ascends xs

  -- neither is greater
  abbrev pub tie : X → X → Bool
  tie x y = not (above x y) && not (above y x)

  -- ---- lists that need no order

  place_permutes_case : (b : Bool) (x y : X) (ys zs : List X) → IsPermutation (x ∷ ys) zs → IsPermutation (x ∷ y ∷ ys) (cond b (y ∷ zs) (x ∷ y ∷ ys))
  place_permutes_case true x y ys zs h = IsPermutation-trans _ _ _ (IsPermutation-swap (x ∷ y ∷ ys) (y ∷ x ∷ ys) 0 1 (omega arith) (omega arith) refl) (IsPermutation-cons y (x ∷ ys) zs h)
  place_permutes_case false x y ys zs h = IsPermutation-refl (x ∷ y ∷ ys)

  pub place_permutes : (x : X) (xs : List X) → IsPermutation (x ∷ xs) (place_by cmp x xs)
  place_permutes x [] = IsPermutation-refl (x ∷ [])
  place_permutes x (y ∷ ys) = place_permutes_case (above x y) x y ys (place_by cmp x ys) (place_permutes x ys)

  pub sort_permutes : (xs : List X) → IsPermutation xs (sort_by cmp xs)
  sort_permutes [] = IsPermutation-refl []
  sort_permutes (x ∷ xs) = IsPermutation-trans _ _ _ (IsPermutation-cons x xs (sort_by cmp xs) (sort_permutes xs)) (place_permutes x (sort_by cmp xs))

  before_case : (b : Bool) (x y z : X) (ys us : List X) → us ++ z ∷ [] ≡ us ++ z ∷ [] → cond b (y ∷ (us ++ z ∷ [])) (x ∷ y ∷ (ys ++ z ∷ [])) ≡ cond b (y ∷ us) (x ∷ y ∷ ys) ++ z ∷ []
  before_case true x y z ys us h = refl
  before_case false x y z ys us h = refl

  -- what isn't above the last goes before it
  pub place_before_last : (x z : X) (ys : List X) → above x z ≡ false → place_by cmp x (ys ++ z ∷ []) ≡ place_by cmp x ys ++ z ∷ []
  place_before_last x z [] h = ap (λ b. cond b (z ∷ x ∷ []) (x ∷ z ∷ [])) h
  place_before_last x z (y ∷ ys) h =
      ap (λ us. cond (above x y) (y ∷ us) (x ∷ y ∷ (ys ++ z ∷ []))) (place_before_last x z ys h)
      ∙ before_case (above x y) x y z ys (place_by cmp x ys) refl

  take_case : (b : Bool) (n : ℕ) (x y : X) (ys us vs : List X) → take n (y ∷ take n ys) ≡ take n (y ∷ ys) → take n us ≡ take n vs
      → take (suc n) (cond b (y ∷ us) (x ∷ y ∷ take n ys)) ≡ take (suc n) (cond b (y ∷ vs) (x ∷ y ∷ ys))
  take_case true n x y ys us vs g h = ap (λ (l : List X). y ∷ l) h
  take_case false n x y ys us vs g h = ap (λ (l : List X). x ∷ l) g

  -- the first few, with one more
  pub take_place : (n : ℕ) (x : X) (xs : List X) → take n (place_by cmp x (take n xs)) ≡ take n (place_by cmp x xs)
  take_place zero x xs = refl
  take_place (suc n) x [] = refl
  take_place (suc n) x (y ∷ ys) = take_case (above x y) n x y ys (place_by cmp x (take n ys)) (place_by cmp x ys) (take-take n (suc n) (y ∷ ys) (omega arith)) (take_place n x ys)

  -- ---- order

  at_most_filter_case : (b : Bool) (x y : X) (ys : List X) → above x y ≡ false → AtMost x ys → AtMost x (cond b (y ∷ ys) ys)
  at_most_filter_case true x y ys h a = (h, a)
  at_most_filter_case false x y ys h a = a

  at_most_filter : (p : X → Bool) (x : X) (ys : List X) → AtMost x ys → AtMost x (filter p ys)
  at_most_filter p x [] a = tt
  at_most_filter p x (y ∷ ys) a = at_most_filter_case (p y) x y (filter p ys) a.0 (at_most_filter p x ys a.1)

  ascends_filter_case : (b : Bool) (x : X) (xs : List X) → AtMost x xs → Ascends xs → Ascends (cond b (x ∷ xs) xs)
  ascends_filter_case true x xs h a = (h, a)
  ascends_filter_case false x xs h a = a

  pub ascends_filter : (p : X → Bool) (xs : List X) → Ascends xs → Ascends (filter p xs)
  ascends_filter p [] a = tt
  ascends_filter p (x ∷ xs) a = ascends_filter_case (p x) x (filter p xs) (at_most_filter p x xs a.0) (ascends_filter p xs a.1)

  at_most_with_last : (x : X) (xs : List X) (z : X) → AtMost x xs → above x z ≡ false → AtMost x (xs ++ z ∷ [])
  at_most_with_last x [] z a h = (h, tt)
  at_most_with_last x (y ∷ ys) z a h = (a.0, at_most_with_last x ys z a.1 h)

  pub ascends_with_last : (xs : List X) (z : X) → Ascends xs → AtLeast z xs → Ascends (xs ++ z ∷ [])
  ascends_with_last [] z a h = (tt, tt)
  ascends_with_last (x ∷ xs) z a h = (at_most_with_last x xs z a.0 h.0, ascends_with_last xs z a.1 h.1)

  -- how many tie with x
  abbrev pub ties_in : X → List X → ℕ
  ties_in x xs = count_by (tie x) xs

  ties-cons : (x y : X) (ys : List X) → ties_in x (y ∷ ys) ≡ cond (tie x y) 1 0 + ties_in x ys
  ties-cons x y ys = sum_by-cons (λ (z : X). cond (tie x z) 1 0) y ys

  last_of : (xs : List X) (z : X) → slice_get (xs ++ z ∷ []) (length (xs ++ z ∷ []) - 1) ≡ Some z
  last_of xs z =
      let long : length (xs ++ z ∷ []) ≡ length xs + 1 = length-append xs (z ∷ []) in
      let place : length (xs ++ z ∷ []) - 1 ≡ length xs = omega arith in
      ap (slice_get (xs ++ z ∷ [])) place ∙ slice_get-get_or (xs ++ z ∷ []) (length xs) z (omega arith) ∙ ap (λ w. Some w) (get_or-append_seam xs z [] z)

-- ---- a total order

module _ {X : Type 0} (cmp : X → X → Ordering) (o : IsOrder cmp) where
  pub not_above_itself : (x : X) → above cmp x x ≡ false
  not_above_itself x = elim (cases_Bool (above cmp x x)) [
    | inl over ↦ o.one_way x x over
    | inr under ↦ under
  ]

  -- x < y ≤ z
  pub below_then : (x y z : X) → above cmp y x ≡ true → above cmp y z ≡ false → above cmp z x ≡ true
  below_then x y z p q = elim (cases_Bool (above cmp z x)) [
    | inl over ↦ over
    | inr under ↦ absurd (both_ways (above cmp y x) (o.chain y z x q under) p)
  ]

  at_most_further : (x y : X) (ys : List X) → above cmp x y ≡ false → AtMost cmp y ys → AtMost cmp x ys
  at_most_further x y [] h a = tt
  at_most_further x y (z ∷ zs) h a = (o.chain x y z h a.0, at_most_further x y zs h a.1)

  at_most_case : (b : Bool) (w x y : X) (ys zs : List X) → above cmp w x ≡ false → AtMost cmp w (y ∷ ys) → AtMost cmp w zs → AtMost cmp w (cond b (y ∷ zs) (x ∷ y ∷ ys))
  at_most_case true w x y ys zs h a c = (a.0, c)
  at_most_case false w x y ys zs h a c = (h, a)

  at_most_placed : (w x : X) (xs : List X) → above cmp w x ≡ false → AtMost cmp w xs → AtMost cmp w (place_by cmp x xs)
  at_most_placed w x [] h a = (h, tt)
  at_most_placed w x (y ∷ ys) h a = at_most_case (above cmp x y) w x y ys (place_by cmp x ys) h a (at_most_placed w x ys h a.1)

  ascends_case : (b : Bool) (x y : X) (ys : List X) → above cmp x y ≡ b → Ascends cmp (y ∷ ys) → Ascends cmp (place_by cmp x ys) → Ascends cmp (cond b (y ∷ place_by cmp x ys) (x ∷ y ∷ ys))
  ascends_case true x y ys e a h = (at_most_placed y x ys (o.one_way x y e) a.0, h)
  ascends_case false x y ys e a h = ((e, at_most_further x y ys e a.0), a)

  pub ascends_placed : (x : X) (xs : List X) → Ascends cmp xs → Ascends cmp (place_by cmp x xs)
  ascends_placed x [] a = (tt, tt)
  ascends_placed x (y ∷ ys) a = ascends_case (above cmp x y) x y ys refl a (ascends_placed x ys a.1)

  pub ascends_sorted : (xs : List X) → Ascends cmp (sort_by cmp xs)
  ascends_sorted [] = tt
  ascends_sorted (x ∷ xs) = ascends_placed x (sort_by cmp xs) (ascends_sorted xs)

  -- ---- a list in order is one of its kind

  ties_with_itself : (x : X) → tie cmp x x ≡ true
  ties_with_itself x = rw (not_above_itself x) refl

  tie_is : (x y : X) → tie cmp x y ≡ true → x ≡ y
  tie_is x y h = o.one x y (not-true (above cmp x y) (first_so (not (above cmp x y)) (not (above cmp y x)) h)) (not-true (above cmp y x) (second_so (not (above cmp x y)) (not (above cmp y x)) h))

  not_tie : (x y : X) → above cmp y x ≡ true → tie cmp x y ≡ false
  not_tie x y h = rw h (and-false (not (above cmp x y)))

  -- less than each: none ties
  none_ties : (x y : X) (ys : List X) → above cmp y x ≡ true → AtMost cmp y ys → ties_in cmp x ys ≡ 0
  none_ties x y [] h a = refl
  none_ties x y (z ∷ zs) h a =
      let apart : tie cmp x z ≡ false = not_tie x z (below_then x y z h a.0) in
      let one : cond (tie cmp x z) 1 0 ≡ 0 = ap (λ b. cond {A = ℕ} b 1 0) apart in
      omega (arith, ties-cons cmp x z zs, one, none_ties x y zs h a.1)

  -- what stands in a list in order isn't below its first
  first_least : (x y : X) (ys : List X) → AtMost cmp y ys → 0 < ties_in cmp x (y ∷ ys) → above cmp y x ≡ false
  first_least x y ys a h = elim (cases_Bool (above cmp y x)) [
    | inl over ↦
        let none : ties_in cmp x ys ≡ 0 = none_ties x y ys over a in
        let one : cond (tie cmp x y) 1 0 ≡ 0 = ap (λ b. cond {A = ℕ} b 1 0) (not_tie x y over) in
        absurd (omega (arith, ties-cons cmp x y ys, one, none, h))
    | inr under ↦ under
  ]

  stands_first : (x : X) (xs : List X) → 0 < ties_in cmp x (x ∷ xs)
  stands_first x xs =
      let one : cond (tie cmp x x) 1 0 ≡ 1 = ap (λ b. cond {A = ℕ} b 1 0) (ties_with_itself x) in
      omega (arith, ties-cons cmp x x xs, one)

  same_counts : (xs ys : List X) → Ascends cmp xs → Ascends cmp ys → ((x : X) → ties_in cmp x xs ≡ ties_in cmp x ys) → xs ≡ ys
  same_counts [] [] a b h = refl
  same_counts [] (y ∷ ys) a b h = absurd (omega (arith, h y, stands_first y ys))
  same_counts (x ∷ xs) [] a b h = absurd (omega (arith, h x, stands_first x xs))
  same_counts (x ∷ xs) (y ∷ ys) a b h =
      let here : 0 < ties_in cmp x (y ∷ ys) = omega (arith, h x, stands_first x xs) in
      let there : 0 < ties_in cmp y (x ∷ xs) = omega (arith, h y, stands_first y ys) in
      let one : x ≡ y = o.one x y (first_least y x xs a.0 there) (first_least x y ys b.0 here) in
      let rest : xs ≡ ys = same_counts xs ys a.1 b.1 (λ z.
      let turned : cond (tie cmp z x) 1 0 ≡ cond (tie cmp z y) 1 0 = ap (λ w. cond {A = ℕ} (tie cmp z w) 1 0) one in
      omega (arith, h z, ties-cons cmp z x xs, ties-cons cmp z y ys, turned)) in
      λ t. one t ∷ rest t

  pub one_in_order : (xs ys : List X) → Ascends cmp xs → Ascends cmp ys → IsPermutation xs ys → xs ≡ ys
  one_in_order xs ys a b h = same_counts xs ys a b (λ x. sym (sum_by-IsPermutation (λ (y : X). cond (tie cmp x y) 1 0) xs ys h))

  -- a list in order is what any order of it sorts to
  pub sort_is : (xs ys : List X) → Ascends cmp ys → IsPermutation xs ys → sort_by cmp xs ≡ ys
  sort_is xs ys a h = one_in_order (sort_by cmp xs) ys (ascends_sorted xs) a (IsPermutation-trans _ _ _ (IsPermutation-sym _ _ (sort_permutes cmp xs)) h)

  pub sort_permuted : (xs ys : List X) → IsPermutation xs ys → sort_by cmp xs ≡ sort_by cmp ys
  sort_permuted xs ys h = sort_is xs (sort_by cmp ys) (ascends_sorted ys) (IsPermutation-trans _ _ _ h (sort_permutes cmp ys))

  pub sort_push : (xs : List X) (x : X) → sort_by cmp (xs ++ x ∷ []) ≡ place_by cmp x (sort_by cmp xs)
  sort_push xs x = sort_permuted (xs ++ x ∷ []) (x ∷ xs) (IsPermutation-to_front xs x)

  at_least_permuted : (z : X) (xs ys : List X) → IsPermutation xs ys → AtLeast cmp z xs → AtLeast cmp z ys
  at_least_permuted z xs ys h a = recursion_from_All _ _ (All-permutation (λ y. above cmp y z ≡ false) xs ys h (All-from_recursion _ _ a))

  -- the greatest goes last
  pub sort_greatest : (z : X) (xs : List X) → AtLeast cmp z xs → sort_by cmp (z ∷ xs) ≡ sort_by cmp xs ++ z ∷ []
  sort_greatest z xs a =
      sort_is (z ∷ xs) (sort_by cmp xs ++ z ∷ []) (ascends_with_last cmp (sort_by cmp xs) z (ascends_sorted xs) (at_least_permuted z xs (sort_by cmp xs) (sort_permutes cmp xs) a))
      (IsPermutation-trans _ _ _ (IsPermutation-cons z xs (sort_by cmp xs) (sort_permutes cmp xs)) (IsPermutation-sym _ _ (IsPermutation-to_front (sort_by cmp xs) z)))

  -- ---- what passes, and the first few of it

  placed_first : (x : X) (xs : List X) → AtMost cmp x xs → place_by cmp x xs ≡ x ∷ xs
  placed_first x [] a = refl
  placed_first x (y ∷ ys) a = ap (λ b. cond b (y ∷ place_by cmp x ys) (x ∷ y ∷ ys)) a.0

  filter_case : (p : X → Bool) (b c d : Bool) (x y : X) (ys : List X) → above cmp x y ≡ b → p x ≡ c → p y ≡ d → AtMost cmp y ys
      → filter p (place_by cmp x ys) ≡ cond c (place_by cmp x (filter p ys)) (filter p ys)
      → filter p (cond b (y ∷ place_by cmp x ys) (x ∷ y ∷ ys)) ≡ cond c (place_by cmp x (cond d (y ∷ filter p ys) (filter p ys))) (cond d (y ∷ filter p ys) (filter p ys))
  filter_case p false true true x y ys e k l a h = rw (k, l, e) refl
  filter_case p false true false x y ys e k l a h = rw (k, l) (sym (placed_first x (filter p ys) (at_most_filter cmp p x ys (at_most_further x y ys e a))))
  filter_case p false false true x y ys e k l a h = rw (k, l) refl
  filter_case p false false false x y ys e k l a h = rw (k, l) refl
  filter_case p true true true x y ys e k l a h = rw (l, e) (ap (λ (zs : List X). y ∷ zs) h)
  filter_case p true true false x y ys e k l a h = rw l h
  filter_case p true false true x y ys e k l a h = rw l (ap (λ (zs : List X). y ∷ zs) h)
  filter_case p true false false x y ys e k l a h = rw l h

  pub filter_placed : (p : X → Bool) (x : X) (xs : List X) → Ascends cmp xs → filter p (place_by cmp x xs) ≡ cond (p x) (place_by cmp x (filter p xs)) (filter p xs)
  filter_placed p x [] a = refl
  filter_placed p x (y ∷ ys) a = filter_case p (above cmp x y) (p x) (p y) x y ys refl refl refl a.0 (filter_placed p x ys a.1)

  front_case : (b : Bool) (n : ℕ) (x : X) (xs : List X) → take n (cond b (place_by cmp x xs) xs) ≡ cond b (take n (place_by cmp x (take n xs))) (take n xs)
  front_case true n x xs = sym (take_place cmp n x xs)
  front_case false n x xs = refl

  pub front_with : (p : X → Bool) (n : ℕ) (xs : List X) (x : X)
      → take n (filter p (sort_by cmp (xs ++ x ∷ []))) ≡ cond (p x) (take n (place_by cmp x (take n (filter p (sort_by cmp xs))))) (take n (filter p (sort_by cmp xs)))
  front_with p n xs x =
      ap (λ l. take n (filter p l)) (sort_push xs x) ∙ ap (take n) (filter_placed p x (sort_by cmp xs) (ascends_sorted xs)) ∙ front_case (p x) n x (filter p (sort_by cmp xs))

  tail_at : (x : X) (xs : List X) (i j : ℕ) (d : X) → i ≡ suc j → get_or (x ∷ xs) i d ≡ get_or xs j d
  tail_at x xs i j d e = ap (λ k. get_or (x ∷ xs) k d) e

  sorted_tail : (x : X) (xs : List X) → IsSortedBy (λ a b. is_lt (cmp a b)) (x ∷ xs) → IsSortedBy (λ a b. is_lt (cmp a b)) xs
  sorted_tail x xs h = λ k d low high.
      (λ t. is_lt (cmp (sym (tail_at x xs (k + 1 + 1) (k + 1) d (omega arith)) t) (sym (tail_at x xs (k + 1) k d (omega arith)) t)))
      ∙ h (k + 1) d (omega arith) (omega arith)

  -- what a sort of the library gives
  pub ascends_from_sort : (xs : List X) → IsSortedBy (λ a b. is_lt (cmp a b)) xs → Ascends cmp xs
  ascends_from_sort [] h = tt
  ascends_from_sort (x ∷ []) h = (tt, tt)
  ascends_from_sort (x ∷ y ∷ ys) h =
      let rest = ascends_from_sort (y ∷ ys) (sorted_tail x (y ∷ ys) h) in
      let here : above cmp x y ≡ false = sym (o.turned y x) ∙ h 0 x (omega arith) (omega arith) in
      ((here, at_most_further x y ys here rest.0), rest)

  -- ---- a heap's top

  at_least_from : (z : X) (xs : List X) → IsUpperBound cmp z xs → AtLeast cmp z xs
  at_least_from z [] a = tt
  at_least_from z (y ∷ ys) a = (sym (o.turned z y) ∙ a.0, at_least_from z ys a.1)

  pub top_is_last : (z : X) (xs : List X) → 0 < length xs → z ≡ get_or xs 0 z → IsUpperBound cmp z xs → slice_get (sort_by cmp xs) (length (sort_by cmp xs) - 1) ≡ Some z
  top_is_last z [] h e a = absurd (omega arith)
  top_is_last z (y ∷ ys) h e a =
      let rest : AtLeast cmp z ys = (at_least_from z (y ∷ ys) a).1 in
      let is : sort_by cmp (y ∷ ys) ≡ sort_by cmp ys ++ z ∷ [] = ap (λ w. sort_by cmp (w ∷ ys)) (sym e) ∙ sort_greatest z ys rest in
      ap (λ (l : List X). slice_get l (length l - 1)) is ∙ last_of cmp (sort_by cmp ys) z

  pub without_top : (z : X) (xs ys : List X) → IsPermutation xs (z ∷ ys) → IsUpperBound cmp z xs → sort_by cmp ys ≡ take (length (sort_by cmp xs) - 1) (sort_by cmp xs)
  without_top z xs ys h a =
      let all : AtLeast cmp z (z ∷ ys) = at_least_permuted z xs (z ∷ ys) h (at_least_from z xs a) in
      let is : sort_by cmp xs ≡ sort_by cmp ys ++ z ∷ [] = sort_permuted xs (z ∷ ys) h ∙ sort_greatest z ys all.1 in
      let long : length (sort_by cmp ys ++ z ∷ []) ≡ length (sort_by cmp ys) + 1 = length-append (sort_by cmp ys) (z ∷ []) in
      let place : length (sort_by cmp ys ++ z ∷ []) - 1 ≡ length (sort_by cmp ys) = omega arith in
      sym (ap (λ (l : List X). take (length l - 1) l) is ∙ ap (λ n. take n (sort_by cmp ys ++ z ∷ [])) place ∙ take-append_seam (sort_by cmp ys) (z ∷ []))

  -- ---- one more, where every place is taken

  least_of_last : (x : X) (xs : List X) (z : X) → AtMost cmp x (xs ++ z ∷ []) → above cmp x z ≡ false
  least_of_last x [] z a = a.0
  least_of_last x (y ∷ ys) z a = least_of_last x ys z a.1

  at_least_with_last : (x z : X) (ys : List X) → above cmp z x ≡ false → AtLeast cmp x ys → AtLeast cmp x (ys ++ z ∷ [])
  at_least_with_last x z [] h a = (h, tt)
  at_least_with_last x z (y ∷ ys) h a = (a.0, at_least_with_last x z ys h a.1)

  last_at_least : (xs : List X) (z : X) → Ascends cmp (xs ++ z ∷ []) → AtLeast cmp z xs
  last_at_least [] z a = tt
  last_at_least (x ∷ xs) z a = (least_of_last x xs z a.0, last_at_least xs z a.1)

  at_least_further : (x z : X) (xs : List X) → above cmp z x ≡ false → AtLeast cmp z xs → AtLeast cmp x xs
  at_least_further x z [] h a = tt
  at_least_further x z (y ∷ ys) h a = (o.chain y z x a.0 h, at_least_further x z ys h a.1)

  -- one that isn't below the last, which is left out
  stays : (x z : X) (ys : List X) (most : ℕ) → length (ys ++ z ∷ []) ≡ most → Ascends cmp (ys ++ z ∷ []) → above cmp z x ≡ false → take most (place_by cmp x (ys ++ z ∷ [])) ≡ ys ++ z ∷ []
  stays x z ys most long a h =
      let keys : List X = ys ++ z ∷ [] in
      let all : AtLeast cmp x keys = at_least_with_last x z ys h (at_least_further x z ys h (last_at_least ys z a)) in
      let is : place_by cmp x keys ≡ keys ++ x ∷ [] = one_in_order (place_by cmp x keys) (keys ++ x ∷ []) (ascends_placed x keys a) (ascends_with_last cmp keys x a all)
      (IsPermutation-trans _ _ _ (IsPermutation-sym _ _ (place_permutes cmp x keys)) (IsPermutation-sym _ _ (IsPermutation-to_front keys x))) in
      ap (take most) is ∙ ap (λ n. take n (keys ++ x ∷ [])) (sym long) ∙ take-append_seam keys (x ∷ [])

  -- one that is, which goes in for it
  replaces : (x z : X) (ys : List X) (most : ℕ) → length (ys ++ z ∷ []) ≡ most → above cmp z x ≡ true → take most (place_by cmp x (ys ++ z ∷ [])) ≡ place_by cmp x ys
  replaces x z ys most long h =
      let room : length (place_by cmp x ys) ≡ most = omega (arith, length_permutation _ _ (place_permutes cmp x ys), length-append ys (z ∷ [])) in
      ap (take most) (place_before_last cmp x z ys (o.one_way z x h)) ∙ ap (λ n. take n (place_by cmp x ys ++ z ∷ [])) (sym room) ∙ take-append_seam (place_by cmp x ys) (z ∷ [])

  offer_case : (b : Bool) (x z : X) (ys : List X) (most : ℕ) → above cmp z x ≡ b → length (ys ++ z ∷ []) ≡ most → Ascends cmp (ys ++ z ∷ [])
      → take most (place_by cmp x (ys ++ z ∷ [])) ≡ cond b (place_by cmp x ys) (ys ++ z ∷ [])
  offer_case true x z ys most e long a = replaces x z ys most long e
  offer_case false x z ys most e long a = stays x z ys most long a e

  -- whether x is below the last, if there is one
  abbrev pub below_last : X → List X → Bool
  below_last x xs = option_map_or (λ z. above cmp z x) (slice_get xs (length xs - 1)) false

  offer_at : (xs ys : List X) (x z : X) (most : ℕ) → xs ≡ ys ++ z ∷ [] → length xs ≡ most → Ascends cmp xs
      → take most (place_by cmp x xs) ≡ cond (below_last x xs) (place_by cmp x (take (length xs - 1) xs)) xs
  offer_at xs ys x z most is long a =
      let whole : length (ys ++ z ∷ []) ≡ length ys + 1 = length-append ys (z ∷ []) in
      let place : length xs - 1 ≡ length ys = omega (arith, ap length is) in
      let front : take (length xs - 1) xs ≡ ys = ap (λ n. take n xs) place ∙ ap (take (length ys)) is ∙ take-append_seam ys (z ∷ []) in
      let last : slice_get xs (length xs - 1) ≡ Some z = ap (λ (l : List X). slice_get l (length l - 1)) is ∙ last_of cmp ys z in
      ap (λ l. take most (place_by cmp x l)) is
      ∙ offer_case (above cmp z x) x z ys most refl (sym (ap length is) ∙ long) (subst (Ascends cmp) is a)
      ∙ sym (λ t. cond (option_map_or (λ w. above cmp w x) (last t) false) (place_by cmp x (front t)) (is t))

  pub offer_full : (xs : List X) (x : X) (most : ℕ) → length xs ≡ most → Ascends cmp xs
      → take most (place_by cmp x xs) ≡ cond (below_last x xs) (place_by cmp x (take (length xs - 1) xs)) xs
  offer_full [] x most long a = ap (λ n. take n (x ∷ [])) (sym long)
  offer_full (y ∷ ys) x most long a =
      let xs : List X = y ∷ ys in
      let is : xs ≡ take (length ys) xs ++ get_or xs (length ys) y ∷ [] = sym (take_all (length ys + 1) xs (omega arith)) ∙ take_more xs (length ys) y (omega arith) in
      offer_at xs (take (length ys) xs) x (get_or xs (length ys) y) most is long a

  pub offer_more : (xs : List X) (x : X) (most : ℕ) → length xs < most → place_by cmp x xs ≡ take most (place_by cmp x xs)
  offer_more xs x most h = sym (take_all most (place_by cmp x xs) (omega (arith, length_permutation _ _ (place_permutes cmp x xs))))
