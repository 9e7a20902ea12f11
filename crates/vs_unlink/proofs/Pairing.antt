-- The pairs that are taken one by one, in order, are the matching of the definition.
use Rattle.std.proofs.Common.{◌≡◌, ℕ, zero, suc, ◌<◌, Bool, true, false, cond, List, [], ◌∷◌, ◌++◌, length, get_or, refl, sym, ap, ◌∙◌, subst, arith, inl, inr, ◌⊎◌, append_assoc}
use Rattle.std.specs.Prelude.{fold, AllPairs, Any, Contains}
use Rattle.std.specs.List.{list_any}
use Rattle.std.specs.Ordering.{nat_cmp, ordering_then, is_gt, is_lt}
use Rattle.std.specs.declared.cmp.Ordering.{Ordering}
use Rattle.std.specs.declared.cmp.Ordering.TheVariants.{Less, Equal, Greater}
use Rattle.std.proofs.lemmas.Map.Lookups.{exact_bytes}
use Rattle.std.proofs.lemmas.Bool.{both_ways}
use Rattle.std.proofs.lemmas.List.Folds.{list_any_at}
use Rattle.std.proofs.lemmas.List.Quantifiers.{all_pairs_push}
use Rattle.vs_graph.specs.Bodies.{Bodies, name_at, gap}
use Rattle.vs_graph.specs.Table.{Table}
use Rattle.vs_graph.proofs.Sorts.{In, any_in, less_or_same}
use Rattle.vs_unlink.specs.declared.Pair.{Pair}
use Rattle.vs_unlink.specs.Pairs.{pair_cmp, share, IsOpen, IsPairing, take_pair, matched, Differ}

-- ---- elements

pub contains_in : {X : Type 0} (x : X) (xs : List X) → Contains xs x → In x xs
contains_in x [] (k, h, e) = absurd (omega arith)
contains_in x (y ∷ ys) (zero, h, e) = inl (sym e)
contains_in x (y ∷ ys) (suc k, h, e) = inr (contains_in x ys (k, omega arith, e))

pub in_contains : {X : Type 0} (x : X) (xs : List X) → In x xs → Contains xs x
in_contains x [] h = absurd h
in_contains x (y ∷ ys) (inl e) = (0, omega arith, sym e)
in_contains x (y ∷ ys) (inr h) = let r = in_contains x ys h in (suc r.0, omega (arith, r.1), r.2)

pub in_at : {X : Type 0} (xs : List X) (k : ℕ) (d : X) → k < length xs → In (get_or xs k d) xs
in_at [] k d h = absurd (omega arith)
in_at (x ∷ xs) zero d h = inl refl
in_at (x ∷ xs) (suc k) d h = inr (in_at xs k d (omega arith))

in_left : {X : Type 0} (x : X) (xs ys : List X) → In x xs → In x (xs ++ ys)
in_left x [] ys h = absurd h
in_left x (z ∷ zs) ys (inl e) = inl e
in_left x (z ∷ zs) ys (inr h) = inr (in_left x zs ys h)

in_right : {X : Type 0} (x : X) (xs ys : List X) → In x ys → In x (xs ++ ys)
in_right x [] ys h = h
in_right x (z ∷ zs) ys h = inr (in_right x zs ys h)

in_either : {X : Type 0} (x : X) (xs ys : List X) → In x (xs ++ ys) → In x xs ⊎ In x ys
in_either x [] ys h = inr h
in_either x (z ∷ zs) ys (inl e) = inl (inl e)
in_either x (z ∷ zs) ys (inr h) = elim (in_either x zs ys h) [ inl k ↦ inl (inr k) | inr k ↦ inr k ]

-- ---- taking pairs in order

none_at : {X : Type 0} (f : X → Bool) (xs : List X) (k : ℕ) (d : X) → list_any f xs ≡ false → k < length xs → f (get_or xs k d) ≡ false
none_at f xs k d none h = by_value (f (get_or xs k d)) refl where
  by_value : (b : Bool) → f (get_or xs k d) ≡ b → b ≡ false
  by_value true e = absurd (both_ways (list_any f xs) none (list_any_at f xs k d h e))
  by_value false e = refl

module _ (bodies : Bodies) where
  -- r has a member in a taken pair that isn't after it
  abbrev pub IsBarred : List Pair → Pair → Type 0
  IsBarred added r = (p : Pair) × In p added × (share p r ≡ true) × (is_gt (pair_cmp bodies p r) ≡ false)

  pub record IsMatched (added done : List Pair) : Type 0 where
    pub from : (p : Pair) → In p added → In p done
    pub matching : AllPairs (λ p r. share p r ≡ false) added
    pub rest : (r : Pair) → In r done → In r added ⊎ IsBarred added r

  abbrev pub Sorted : List Pair → Type 0
  Sorted [] = Unit {0}
  Sorted (p ∷ ps) = ((r : Pair) → In r ps → is_gt (pair_cmp bodies p r) ≡ false) × Sorted ps

  barred_more : (added : List Pair) (q r : Pair) → IsBarred added r → IsBarred (added ++ q ∷ []) r
  barred_more added q r b = (b.0, in_left b.0 added (q ∷ []) b.1, b.2, b.3)

  take_by : (added done : List Pair) (q : Pair) (b : Bool) → list_any (λ p. share p q) added ≡ b → IsMatched added done → ((p : Pair) → In p done → is_gt (pair_cmp bodies p q) ≡ false)
      → IsMatched (cond b added (added ++ q ∷ [])) (done ++ q ∷ [])
  take_by added done q true e m before = record {
    from = λ p h. in_left p done (q ∷ []) (m.from p h);
    matching = m.matching;
    rest = λ r h. elim (in_either r done (q ∷ []) h) [
      | inl k ↦ m.rest r k
      | inr k ↦ elim k [
        | inl s ↦ (let w = any_in (λ p. share p q) added e in inr (w.0, w.1, ap (share w.0) s ∙ w.2, ap (λ z. is_gt (pair_cmp bodies w.0 z)) s ∙ before w.0 (m.from w.0 w.1)))
        | inr n ↦ absurd n
      ]
    ];
  }
  take_by added done q false e m before = record {
    from = λ p h. elim (in_either p added (q ∷ []) h) [ inl k ↦ in_left p done (q ∷ []) (m.from p k) | inr k ↦ in_right p done (q ∷ []) k ];
    matching = all_pairs_push (λ p r. share p r ≡ false) added q m.matching (λ k d h. none_at (λ p. share p q) added k d e h);
    rest = λ r h. elim (in_either r done (q ∷ []) h) [
      | inl k ↦ elim (m.rest r k) [ inl a ↦ inl (in_left r added (q ∷ []) a) | inr b ↦ inr (barred_more added q r b) ]
      | inr k ↦ inl (in_right r added (q ∷ []) k)
    ];
  }

  matched_all : (ps added done : List Pair) → IsMatched added done → ((p q : Pair) → In p done → In q ps → is_gt (pair_cmp bodies p q) ≡ false) → Sorted ps → IsMatched (fold take_pair added ps) (done ++ ps)
  matched_all [] added done m before sorted = subst (IsMatched added) (sym (none_more done)) m where
    none_more : (xs : List Pair) → xs ++ [] ≡ xs
    none_more [] = refl
    none_more (x ∷ xs) = ap (λ l. x ∷ l) (none_more xs)
  matched_all (q ∷ ps) added done m before sorted =
      subst (IsMatched (fold take_pair (take_pair added q) ps)) (append_assoc done (q ∷ []) ps)
      (matched_all ps (take_pair added q) (done ++ q ∷ []) (take_by added done q (list_any (λ p. share p q) added) refl m (λ p h. before p q h (inl refl)))
      (λ p r h k. elim (in_either p done (q ∷ []) h) [
        | inl i ↦ before p r i (inr k)
        | inr i ↦ elim i [ inl s ↦ ap (λ z. is_gt (pair_cmp bodies z r)) s ∙ sorted.0 r k | inr n ↦ absurd n ]
      ]) sorted.1)

  pub matched_is : (ps : List Pair) → Sorted ps → IsMatched (matched ps) ps
  matched_is ps sorted =
      matched_all ps [] [] (record { from = λ p h. h; matching = λ i j d low h. absurd (omega arith); rest = λ r h. absurd h }) (λ p q h k. absurd h) sorted

-- ---- a tie is one pair

then_equal : (o p : Ordering) → ordering_then o p ≡ Equal → (o ≡ Equal) × (p ≡ Equal)
then_equal Equal p h = (refl, h)
then_equal Less p h = absurd (both_ways (is_lt Less) (ap is_lt h) refl)
then_equal Greater p h = absurd (both_ways (is_gt Greater) (ap is_gt h) refl)

tied : (bodies : Bodies) (t : Table) (former : List ℕ) (p r : Pair) → Differ bodies former → IsOpen bodies t former p → IsOpen bodies t former r → pair_cmp bodies p r ≡ Equal → p ≡ r
tied bodies t former p r differ op or' h =
    let names = then_equal _ _ (then_equal (nat_cmp (gap bodies p.one p.other) (gap bodies r.one r.other)) _ h).1 in
    let one : p.one ≡ r.one = differ p.one r.one op.one or'.one (exact_bytes (name_at bodies p.one) (name_at bodies r.one) names.0) in
    let other : p.other ≡ r.other = differ p.other r.other op.other or'.other (exact_bytes (name_at bodies p.other) (name_at bodies r.other) names.1) in
    λ i. record { one = one i; other = other i }

any_of : {X : Type 0} (P : X → Type 0) (x : X) (xs : List X) → In x xs → P x → Any P xs
any_of P x xs h p = let c = in_contains x xs h in (c.0, x, c.1, c.2, p)

-- pairs in order that are the open ones give the pairing
pub pairing_is : (bodies : Bodies) (t : Table) (former : List ℕ) (ps : List Pair) → Differ bodies former → Sorted bodies ps → ((p : Pair) → In p ps → IsOpen bodies t former p) → ((p : Pair) → IsOpen bodies t former p → In p ps)
    → IsPairing bodies t former (matched ps)
pairing_is bodies t former ps differ sorted opens all =
    let m = matched_is bodies ps sorted in
    record {
      are_open = λ k d h. opens (get_or (matched ps) k d) (m.from (get_or (matched ps) k d) (in_at (matched ps) k d h));
      matching = m.matching;
      rest = λ r o. elim (m.rest r (all r o)) [
        | inl h ↦ inl (in_contains r (matched ps) h)
        | inr b ↦ elim (less_or_same (pair_cmp bodies b.0 r) b.3) [
          | inl e ↦ inr (any_of (λ p. (share p r ≡ true) × (pair_cmp bodies p r ≡ Less)) b.0 (matched ps) b.1 (b.2, e))
          | inr e ↦ inl (in_contains r (matched ps) (subst (λ z. In z (matched ps)) (tied bodies t former b.0 r differ (opens b.0 (m.from b.0 b.1)) o e) b.1))
        ]
      ];
    }
