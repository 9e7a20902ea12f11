-- The first few of all are the first few of the first few of each part.
use Rattle.std.proofs.Common.{◌≡◌, ℕ, zero, suc, ◌≤◌, Bool, true, false, cond, List, [], ◌∷◌, ◌++◌, length, take, drop, map, refl, sym, ap, ◌∙◌, subst, arith, inl, inr, append_assoc, length-append, take_all, take-append-drop}
use Rattle.std.specs.List.{flat_map}
use Rattle.std.specs.List.Sorted.{IsPermutation}
use Rattle.std.specs.declared.cmp.Ordering.{Ordering}
use Rattle.std.proofs.lemmas.Bool.{cases_lt}
use Rattle.std.proofs.lemmas.List.{append-nil, length-take-le}
use Rattle.std.proofs.lemmas.List.Sorted.{IsPermutation-refl, IsPermutation-sym, IsPermutation-trans, IsPermutation-append_right, IsPermutation-append_comm}
use Rattle.vs_defs.specs.Bytes.{place_by, sort_by}
use Rattle.vs_rank.proofs.Sorted.{IsOrder, above, AtMost, AtLeast, Ascends, sort_permutes, ascends_sorted, sort_permuted, sort_push, sort_is}

module _ {X : Type 0} (cmp : X → X → Ordering) (o : IsOrder cmp) where
  at_least_front : (z : X) (c : ℕ) (xs : List X) → AtLeast cmp z (take (suc c) xs) → AtLeast cmp z (take c xs)
  at_least_front z zero xs a = tt
  at_least_front z (suc c) [] a = tt
  at_least_front z (suc c) (x ∷ xs) a = (a.0, at_least_front z c xs a.1)

  keeps_case : (b : Bool) (c : ℕ) (z w y : X) (ys us : List X) → above cmp w y ≡ b → AtLeast cmp z (take (suc c) (y ∷ ys)) → AtLeast cmp z (take c us)
      → AtLeast cmp z (take (suc c) (cond b (y ∷ us) (w ∷ y ∷ ys)))
  keeps_case true c z w y ys us e a h = (a.0, h)
  keeps_case false c z w y ys us e a h = (o.chain w y z e a.0, at_least_front z c (y ∷ ys) a)

  -- with one more, the first few stay at most z
  keeps : (c : ℕ) (z w : X) (xs : List X) → c ≤ length xs → AtLeast cmp z (take c xs) → AtLeast cmp z (take c (place_by cmp w xs))
  keeps zero z w xs long a = tt
  keeps (suc c) z w [] long a = absurd (omega arith)
  keeps (suc c) z w (y ∷ ys) long a = keeps_case (above cmp w y) c z w y ys (place_by cmp w ys) refl a (keeps c z w ys (omega arith) a.1)

  placed_first : (x : X) (xs : List X) → AtMost cmp x xs → place_by cmp x xs ≡ x ∷ xs
  placed_first x [] a = refl
  placed_first x (y ∷ ys) a = ap (λ b. cond b (y ∷ place_by cmp x ys) (x ∷ y ∷ ys)) a.0

  far_case : (b : Bool) (c : ℕ) (z y : X) (ys : List X) → above cmp z y ≡ b → above cmp y z ≡ false → AtMost cmp y ys → take c (place_by cmp z ys) ≡ take c ys
      → take (suc c) (cond b (y ∷ place_by cmp z ys) (z ∷ y ∷ ys)) ≡ y ∷ take c ys
  far_case true c z y ys e below up h = ap (λ l. y ∷ l) h
  far_case false c z y ys e below up h =
      let same : z ≡ y = o.one z y e below in
      let rest : take c (y ∷ ys) ≡ take c ys = ap (take c) (sym (placed_first y ys up)) ∙ ap (λ w. take c (place_by cmp w ys)) (sym same) ∙ h in
      λ t. same t ∷ rest t

  -- one more that is beyond the first few changes nothing of them
  far : (c : ℕ) (z : X) (xs : List X) → c ≤ length xs → Ascends cmp xs → AtLeast cmp z (take c xs) → take c (place_by cmp z xs) ≡ take c xs
  far zero z xs long up a = refl
  far (suc c) z [] long up a = absurd (omega arith)
  far (suc c) z (y ∷ ys) long up a = far_case (above cmp z y) c z y ys refl a.0 up.0 (far c z ys (omega arith) up.1 a.1)

  sorted_long : (xs : List X) → length (sort_by cmp xs) ≡ length xs
  sorted_long [] = refl
  sorted_long (x ∷ xs) = placed_long x (sort_by cmp xs) ∙ ap suc (sorted_long xs)
    where
      case_long : (b : Bool) (x y : X) (ys us : List X) → length us ≡ suc (length ys) → length (cond b (y ∷ us) (x ∷ y ∷ ys)) ≡ suc (suc (length ys))
      case_long true x y ys us h = ap suc h
      case_long false x y ys us h = refl

      placed_long : (x : X) (xs : List X) → length (place_by cmp x xs) ≡ suc (length xs)
      placed_long x [] = refl
      placed_long x (y ∷ ys) = case_long (above cmp x y) x y ys (place_by cmp x ys) (placed_long x ys)

  sort_sorted : (xs : List X) → Ascends cmp xs → sort_by cmp xs ≡ xs
  sort_sorted xs up = sort_is cmp o xs xs up (IsPermutation-refl xs)

  -- what is at least the first few of a sorted list is so of those of a longer one
  still : (c : ℕ) (z : X) (ws front : List X) → c ≤ length front → Ascends cmp front → AtLeast cmp z (take c front) → AtLeast cmp z (take c (sort_by cmp (ws ++ front)))
  still c z [] front long up a = subst (λ l. AtLeast cmp z (take c l)) (sym (sort_sorted front up)) a
  still c z (w ∷ ws) front long up a =
      keeps c z w (sort_by cmp (ws ++ front)) (omega (arith, sorted_long (ws ++ front), length-append ws front)) (still c z ws front long up a)

  ascends_front : (xs : List X) (z : X) → Ascends cmp (xs ++ z ∷ []) → Ascends cmp xs × AtLeast cmp z xs
  ascends_front [] z up = (tt, tt)
  ascends_front (x ∷ xs) z up = ((front_at x xs z up.0, (ascends_front xs z up.1).0), (last_at x xs z up.0, (ascends_front xs z up.1).1))
    where
      front_at : (x : X) (xs : List X) (z : X) → AtMost cmp x (xs ++ z ∷ []) → AtMost cmp x xs
      front_at x [] z a = tt
      front_at x (y ∷ ys) z a = (a.0, front_at x ys z a.1)

      last_at : (x : X) (xs : List X) (z : X) → AtMost cmp x (xs ++ z ∷ []) → above cmp x z ≡ false
      last_at x [] z a = a.0
      last_at x (y ∷ ys) z a = last_at x ys z a.1

  at_least_take : (z : X) (c : ℕ) (xs : List X) → AtLeast cmp z xs → AtLeast cmp z (take c xs)
  at_least_take z zero xs a = tt
  at_least_take z (suc c) [] a = tt
  at_least_take z (suc c) (x ∷ xs) a = (a.0, at_least_take z c xs a.1)

  without_last : (c : ℕ) (ws front : List X) (z : X) → c ≤ length front → Ascends cmp (front ++ z ∷ []) → take c (sort_by cmp (ws ++ (front ++ z ∷ []))) ≡ take c (sort_by cmp (ws ++ front))
  without_last c ws front z long up =
      let both = ascends_front front z up in
      ap (λ l. take c (sort_by cmp l)) (sym (append_assoc ws front (z ∷ [])))
      ∙ ap (take c) (sort_push cmp o (ws ++ front) z)
      ∙ far c z (sort_by cmp (ws ++ front)) (omega (arith, sorted_long (ws ++ front), length-append ws front)) (ascends_sorted cmp o (ws ++ front)) (still c z ws front long both.0 (at_least_take z c front both.1))

  ascends_begin : (xs ys : List X) → Ascends cmp (xs ++ ys) → Ascends cmp xs
  ascends_begin [] ys up = tt
  ascends_begin (x ∷ xs) ys up = (at_most_begin x xs ys up.0, ascends_begin xs ys up.1)
    where
      at_most_begin : (x : X) (xs ys : List X) → AtMost cmp x (xs ++ ys) → AtMost cmp x xs
      at_most_begin x [] ys a = tt
      at_most_begin x (w ∷ ws) ys a = (a.0, at_most_begin x ws ys a.1)

  without_rest : (c : ℕ) (ws front rest : List X) → c ≤ length front → Ascends cmp (front ++ rest) → take c (sort_by cmp (ws ++ (front ++ rest))) ≡ take c (sort_by cmp (ws ++ front))
  without_rest c ws front [] long up = ap (λ l. take c (sort_by cmp (ws ++ l))) (append-nil front)
  without_rest c ws front (z ∷ rest) long up =
      let split : front ++ z ∷ rest ≡ (front ++ z ∷ []) ++ rest = sym (append_assoc front (z ∷ []) rest) in
      let up' : Ascends cmp ((front ++ z ∷ []) ++ rest) = subst (Ascends cmp) split up in
      ap (λ l. take c (sort_by cmp (ws ++ l))) split
      ∙ without_rest c ws (front ++ z ∷ []) rest (omega (arith, length-append front (z ∷ []))) up'
      ∙ without_last c ws front z long (ascends_begin (front ++ z ∷ []) rest up')

  -- a part's first few do for the part
  part : (c : ℕ) (ws xs : List X) → take c (sort_by cmp (ws ++ take c (sort_by cmp xs))) ≡ take c (sort_by cmp (ws ++ xs))
  part c ws xs =
      let s : List X = sort_by cmp xs in
      let same : take c (sort_by cmp (ws ++ s)) ≡ take c (sort_by cmp (ws ++ xs)) =
      ap (take c) (sort_permuted cmp o (ws ++ s) (ws ++ xs) (IsPermutation-append_right ws s xs (IsPermutation-sym _ _ (sort_permutes cmp xs)))) in
      elim (cases_lt (length s) c) [
        | inl few ↦ ap (λ l. take c (sort_by cmp (ws ++ l))) (take_all c s (omega arith)) ∙ same
        | inr many ↦
            let split = take-append-drop c s in
            let up : Ascends cmp (take c s ++ drop c s) = subst (Ascends cmp) (sym split) (ascends_sorted cmp o xs) in
            sym (without_rest c ws (take c s) (drop c s) (omega (arith, length-take-le c s many)) up)
            ∙ ap (λ l. take c (sort_by cmp (ws ++ l))) split ∙ same
      ]

  abbrev front_of : ℕ → List X → List X
  front_of c xs = take c (sort_by cmp xs)

  parts_after : (c : ℕ) (ws : List X) (xss : List (List X)) → front_of c (ws ++ flat_map (λ l. l) (map (front_of c) xss)) ≡ front_of c (ws ++ flat_map (λ l. l) xss)
  parts_after c ws [] = refl
  parts_after c ws (xs ∷ xss) =
      let rest : List X = flat_map (λ l. l) (map (front_of c) xss) in
      ap (take c) (sort_permuted cmp o (ws ++ (front_of c xs ++ rest)) ((ws ++ rest) ++ front_of c xs) (turned ws (front_of c xs) rest))
      ∙ part c (ws ++ rest) xs
      ∙ ap (take c) (sort_permuted cmp o ((ws ++ rest) ++ xs) ((ws ++ xs) ++ rest) (IsPermutation-trans _ _ _ (IsPermutation-sym _ _ (turned ws xs rest)) (subst (λ l. IsPermutation (ws ++ (xs ++ rest)) l) (sym (append_assoc ws xs rest)) (IsPermutation-refl (ws ++ (xs ++ rest))))))
      ∙ parts_after c (ws ++ xs) xss
      ∙ ap (λ l. front_of c l) (append_assoc ws xs (flat_map (λ l. l) xss))
    where
      turned : (ws xs rest : List X) → IsPermutation (ws ++ (xs ++ rest)) ((ws ++ rest) ++ xs)
      turned ws xs rest = subst (IsPermutation (ws ++ (xs ++ rest))) (sym (append_assoc ws rest xs)) (IsPermutation-append_right ws (xs ++ rest) (rest ++ xs) (IsPermutation-append_comm xs rest))

  pub merged : (c : ℕ) (xss : List (List X)) → front_of c (flat_map (λ l. l) (map (front_of c) xss)) ≡ front_of c (flat_map (λ l. l) xss)
  merged c xss = parts_after c [] xss
