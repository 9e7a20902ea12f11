-- A shuffle of places by a map that has only the places which no longer stand for themselves.
--     standing displaced k            what stands at a place: the place itself where the map has none
--     StandFrom i places displaced    from a turn on, the map says what stands at each place of a list
--     until n ws i                    n places after so many turns
use Rattle.std.proofs.Common.{◌≡◌, ℕ, ◌+◌, ◌-◌, ◌<◌, ◌≤◌, eqb, true, false, List, [], ◌∷◌, ◌++◌, length, get_or, take, refl, sym, ap, subst, ◌∙◌, ◌⊎◌, inl, inr, ◌≢◌, arith}
use Rattle.std.proofs.lemmas.List.{take_more, take-set-le, length-take}
use Rattle.std.proofs.lemmas.List.Edits.{Swapped, length-swap, swapped_from_swap}
use Rattle.std.proofs.lemmas.List.FromFn.{length-range_with_len, get_or-range_with_len}
use Rattle.std.proofs.lemmas.Bool.Decides.{eqb_tells, nat_tests}
use Rattle.std.proofs.Math.ListN.{set}
use Rattle.std.specs.Prelude.{Some}
use Rattle.std.specs.Option.{unwrap_or}
use Rattle.std.specs.List.{swap, range_with_len}
use Rattle.std.specs.Ordering.{nat_cmp, is_eq}
use Rattle.std.specs.BTreeMap.{BTreeMap, get, IsEmpty, Updates}
use Rattle.vs_defs.specs.Draws.{shuffled, place_of}

abbrev pub standing : BTreeMap ℕ ℕ → ℕ → ℕ
standing displaced k = unwrap_or (get nat_cmp displaced k) k

abbrev pub StandFrom : ℕ → List ℕ → BTreeMap ℕ ℕ → Type 0
StandFrom i places displaced = (k : ℕ) → i ≤ k → k < length places → get_or places k 0 ≡ standing displaced k

abbrev pub until : ℕ → List ℕ → ℕ → List ℕ
until n ws i = shuffled 0 (range_with_len 0 n) (take i ws)

length-shuffled : {X : Type 0} (i : ℕ) (xs : List X) (ws : List ℕ) → length (shuffled i xs ws) ≡ length xs
length-shuffled i xs [] = refl
length-shuffled i xs (w ∷ ws) = let j = i + place_of (length xs - i) w in length-shuffled (i + 1) (swap xs i j) ws ∙ length-swap xs i j

pub length-until : (n : ℕ) (ws : List ℕ) (i : ℕ) → length (until n ws i) ≡ n
length-until n ws i = length-shuffled 0 (range_with_len 0 n) (take i ws) ∙ length-range_with_len 0 n

-- the last word's turn comes last
last_turn : {X : Type 0} (i j : ℕ) (xs : List X) (ws : List ℕ) (w : ℕ) → i + length ws ≡ j → shuffled i xs (ws ++ w ∷ []) ≡ swap (shuffled i xs ws) j (j + place_of (length (shuffled i xs ws) - j) w)
last_turn i j xs [] w e = let here : i ≡ j = omega arith in ap (λ k. swap xs k (k + place_of (length xs - k) w)) here
last_turn i j xs (v ∷ ws) w e = last_turn (i + 1) j (swap xs i (i + place_of (length xs - i) v)) ws w (omega arith)

pub next_turn : (n i p : ℕ) (ws : List ℕ) → i < length ws → p ≡ place_of (n - i) (get_or ws i 0) → until n ws (i + 1) ≡ swap (until n ws i) i (i + p)
next_turn n i p ws h place =
    let count : 0 + length (take i ws) ≡ i = omega (arith, length-take i ws) in
    let all = range_with_len 0 n in
    ap (shuffled 0 all) (take_more ws i 0 h) ∙ last_turn 0 i all (take i ws) (get_or ws i 0) count
    ∙ ap (λ m. swap (until n ws i) i (i + place_of (m - i) (get_or ws i 0))) (length-until n ws i) ∙ ap (λ q. swap (until n ws i) i (i + q)) (sym place)

-- at first each place stands for itself
pub all_stand : (n : ℕ) (displaced : BTreeMap ℕ ℕ) → IsEmpty displaced → StandFrom 0 (range_with_len 0 n) displaced
all_stand n displaced none k from inside =
    let below : k < n = omega (arith, length-range_with_len 0 n) in
    let same : get_or (range_with_len 0 n) k 0 ≡ k = omega (arith, get_or-range_with_len 0 n k 0 below) in
    rw none same

at_is : (a b : ℕ) → is_eq (nat_cmp a b) ≡ eqb a b
at_is a b = grind (arith, nat_tests)

-- the picked place then stands for what stood at the turn
pub still_stand : (i j : ℕ) (xs : List ℕ) (before after : BTreeMap ℕ ℕ) → i ≤ j → j < length xs → StandFrom i xs before → Updates nat_cmp before after j (Some (standing before i)) → StandFrom (i + 1) (swap xs i j) after
still_stand i j xs before after up within stand updates k from inside = by_test (eqb_tells j k) (swapped_from_swap xs (swap xs i j) i j 0 (omega arith) within refl) where
  by_test : ((eqb j k ≡ true) × (j ≡ k)) ⊎ ((eqb j k ≡ false) × (j ≢ k)) → Swapped (λ m. get_or xs m 0) (λ m. get_or (swap xs i j) m 0) i j → get_or (swap xs i j) k 0 ≡ standing after k
  by_test (inl p) moved = subst (λ q. get_or (swap xs i j) q 0 ≡ standing after q) p.1 (moved.1 ∙ stand i (omega arith) (omega arith) ∙ ap (λ o. unwrap_or o j) (sym updates.1))
  by_test (inr p) moved = moved.2 k (λ e. omega arith) (λ e. p.1 (sym e)) ∙ stand k (omega arith) (omega (arith, length-swap xs i j)) ∙ ap (λ o. unwrap_or o k) (sym (updates.2 k (at_is j k ∙ p.0)))

take-swap : {X : Type 0} (xs : List X) (i j : ℕ) → i ≤ j → take i (swap xs i j) ≡ take i xs
take-swap [] i j up = refl
take-swap (x ∷ xs) i j up = take-set-le i (set (x ∷ xs) i (get_or (x ∷ xs) j x)) j (get_or (x ∷ xs) i x) up ∙ take-set-le i (x ∷ xs) i (get_or (x ∷ xs) j x) (omega arith)

pub one_picked : (i j : ℕ) (xs : List ℕ) → i ≤ j → j < length xs → take (i + 1) (swap xs i j) ≡ take i xs ++ get_or xs j 0 ∷ []
one_picked i j xs up within =
    let moved = swapped_from_swap xs (swap xs i j) i j 0 (omega arith) within refl in
    take_more (swap xs i j) i 0 (omega (arith, length-swap xs i j)) ∙ ap (λ l. l ++ get_or (swap xs i j) i 0 ∷ []) (take-swap xs i j up) ∙ ap (λ x. take i xs ++ x ∷ []) moved.0
