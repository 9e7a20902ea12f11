-- Shuffles of a list that is made from another, and the picks that they are.
use Rattle.std.proofs.Common.{◌≡◌, ℕ, zero, suc, ◌+◌, ◌-◌, ◌<◌, List, [], ◌∷◌, length, get_or, take, map, refl, sym, ap, ◌∙◌, ℤ, pos, negsuc, ◌<ℤ◌, ◌≤ℤ◌, unsigned_abs, min, All, arith}
use Rattle.std.proofs.Math.ListN.{get_or-map, set}
use Rattle.std.proofs.lemmas.List.{map-set, take-map, length-map, length-take}
use Rattle.std.proofs.lemmas.List.FromFn.{fill_by_all, length-range_with_len, get_or-range_with_len}
use Rattle.std.proofs.lemmas.List.Elements.{All-take, All-set}
use Rattle.std.specs.List.{swap, range_with_len}
use Rattle.std.proofs.lemmas.Int.{ints}
use Rattle.vs_defs.specs.Bytes.{Bytes}
use Rattle.vs_defs.specs.Draws.{shuffled, place_of, name_at, picks}

swap-map : {X Y : Type 0} (f : X → Y) (xs : List X) (i j : ℕ) → swap (map f xs) i j ≡ map f (swap xs i j)
swap-map f [] i j = refl
swap-map f (x ∷ xs) i j =
    rw (map-set f (set (x ∷ xs) i (get_or (x ∷ xs) j x)) j (get_or (x ∷ xs) i x), map-set f (x ∷ xs) i (get_or (x ∷ xs) j x), ← get_or-map f (x ∷ xs) i x, ← get_or-map f (x ∷ xs) j x) refl

shuffled-map : {X Y : Type 0} (f : X → Y) (i : ℕ) (xs : List X) (ws : List ℕ) → shuffled i (map f xs) ws ≡ map f (shuffled i xs ws)
shuffled-map f i xs [] = refl
shuffled-map f i xs (w ∷ ws) =
    rw (length-map xs f, swap-map f xs i (i + place_of (length xs - i) w)) (shuffled-map f (i + 1) (swap xs i (i + place_of (length xs - i) w)) ws)

name_at_is : (k : ℕ) (names : List Bytes) → get_or names k [] ≡ name_at k names
name_at_is k [] = refl
name_at_is zero (x ∷ xs) = refl
name_at_is (suc k) (x ∷ xs) = name_at_is k xs

-- a list is its elements at its places, one after another
at_places : (names : List Bytes) (n : ℕ) → length names ≡ n → map (λ i. name_at i names) (range_with_len 0 n) ≡ names
at_places names n e = sym (fill_by_all (λ i. name_at i names) names n [] e (λ k h. name_at_is k names))

picked_names : (names : List Bytes) (n k : ℕ) (ws : List ℕ) → length names ≡ n → map (λ i. name_at i names) (take k (shuffled 0 (range_with_len 0 n) ws)) ≡ take k (shuffled 0 names ws)
picked_names names n k ws e =
    let f : ℕ → Bytes = λ i. name_at i names in
    sym (take-map f k (shuffled 0 (range_with_len 0 n) ws)) ∙ ap (take k) (sym (shuffled-map f 0 (range_with_len 0 n) ws) ∙ ap (λ xs. shuffled 0 xs ws) (at_places names n e))

each_anew : (names : List Bytes) (n : ℕ) (ws : List ℕ) → length names ≡ n → map (λ i. name_at i names) (map (place_of n) ws) ≡ map (λ w. name_at (place_of (length names) w) names) ws
each_anew names n [] e = refl
each_anew names n (w ∷ ws) e =
    let first : name_at (place_of n w) names ≡ name_at (place_of (length names) w) names = ap (λ m. name_at (place_of m w) names) (sym e) in
    ap (λ x. x ∷ map (λ i. name_at i names) (map (place_of n) ws)) first ∙ ap (λ xs. name_at (place_of (length names) w) names ∷ xs) (each_anew names n ws e)

pub picked_anew : (z : ℤ) (names : List Bytes) (n : ℕ) (ws : List ℕ) → length names ≡ n → z <ℤ pos 0 → map (λ i. name_at i names) (map (place_of n) ws) ≡ picks z names ws
picked_anew (pos c) names n ws e h = absurd (omega (arith, ints))
picked_anew (negsuc c) names n ws e h = each_anew names n ws e

pub picked_once : (z : ℤ) (names : List Bytes) (n k : ℕ) (ws : List ℕ) → length names ≡ n → pos 0 ≤ℤ z → length ws ≡ unsigned_abs z → k ≡ min (length ws) n → map (λ i. name_at i names) (take (length (take k ws)) (shuffled 0 (range_with_len 0 n) (take k ws))) ≡ picks z names ws
picked_once (pos c) names n k ws e h count all =
    let few : min c (length names) ≡ k = omega arith in
    let taken : length (take k ws) ≡ k = length-take k ws ∙ omega arith in
    rw (few, taken) (picked_names names n k (take k ws) e)
picked_once (negsuc c) names n k ws e h count all = absurd (omega (arith, ints))

-- ---- places that are picked are below the number of places

at_or : {X : Type 0} (P : X → Type 0) (xs : List X) (i : ℕ) (x : X) → P x → All P xs → P (get_or xs i x)
at_or P [] i x p h = p
at_or P (y ∷ ys) zero x p h = h 0 x (omega arith)
at_or P (y ∷ ys) (suc i) x p h = at_or P ys i x p (λ k d lt. h (suc k) d (omega arith))

All-swap : {X : Type 0} (P : X → Type 0) (xs : List X) (i j : ℕ) → All P xs → All P (swap xs i j)
All-swap P [] i j h = h
All-swap P (x ∷ xs) i j h =
    All-set P (set (x ∷ xs) i (get_or (x ∷ xs) j x)) j (get_or (x ∷ xs) i x) (at_or P (x ∷ xs) i x (h 0 x (omega arith)) h)
    (All-set P (x ∷ xs) i (get_or (x ∷ xs) j x) (at_or P (x ∷ xs) j x (h 0 x (omega arith)) h) h)

All-shuffled : {X : Type 0} (P : X → Type 0) (i : ℕ) (xs : List X) (ws : List ℕ) → All P xs → All P (shuffled i xs ws)
All-shuffled P i xs [] h = h
All-shuffled P i xs (w ∷ ws) h = All-shuffled P (i + 1) (swap xs i (i + place_of (length xs - i) w)) ws (All-swap P xs i (i + place_of (length xs - i) w) h)

places_within : (n : ℕ) → All (λ i. i < n) (range_with_len 0 n)
places_within n k d h = let len : length (range_with_len 0 n) ≡ n = length-range_with_len 0 n in let below : k < n = omega arith in rw (get_or-range_with_len 0 n k d below) (omega arith)

pub picked_within : (n k : ℕ) (ws : List ℕ) → All (λ i. i < n) (take k (shuffled 0 (range_with_len 0 n) ws))
picked_within n k ws = All-take (λ i. i < n) k (shuffled 0 (range_with_len 0 n) ws) (All-shuffled (λ i. i < n) 0 (range_with_len 0 n) ws (places_within n))
