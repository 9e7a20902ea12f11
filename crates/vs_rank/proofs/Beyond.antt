-- What lies beyond the kept keys, when each place is taken, stays beyond them.
use Rattle.std.proofs.Common.{◌≡◌, ℕ, zero, suc, ◌-◌, ◌<◌, ◌≤◌, Bool, true, false, cond, List, [], ◌∷◌, length, get_or, take, refl, sym, ap, ◌∙◌, arith}
use Rattle.std.specs.Prelude.{Some, nat_le, ◌&&◌}
use Rattle.std.specs.Option.{option_map_or}
use Rattle.std.proofs.lemmas.Bool.Decides.{nat_tests}
use Rattle.std.proofs.lemmas.Option.{slice_get-get_or}
use Rattle.std.proofs.lemmas.List.{length-take-le, get_or-take}
use Rattle.std.proofs.lemmas.Bool.{and_parts, both_ways, le-leb}
use Rattle.vs_rank.specs.declared.Key.{Key}
use Rattle.vs_rank.specs.Ranked.{Least, key_cmp, key_lt, with_key, worst_of, is_beyond}
use Rattle.vs_rank.proofs.Sorted.{Ascends, above}
use Rattle.vs_rank.proofs.Keys.{gt_is}

abbrev pub beyond_of : ℕ → List Key → Key → Bool
beyond_of most keys other = nat_le most (length keys) && option_map_or (λ last. key_lt last other) (worst_of keys) false

long_case : (b : Bool) (x y : Key) (ys us : List Key) → length us ≡ suc (length ys) → length (cond b (y ∷ us) (x ∷ y ∷ ys)) ≡ suc (suc (length ys))
long_case true x y ys us h = ap suc h
long_case false x y ys us h = refl

placed_long : (x : Key) (xs : List Key) → length (with_key xs x) ≡ suc (length xs)
placed_long x [] = refl
placed_long x (y ∷ ys) = long_case (above key_cmp x y) x y ys (with_key ys x) (placed_long x ys)

-- a ≤ a, and what is not greater
not_greater : (a b : Key) → above key_cmp a b ≡ false → key_lt b a ≡ false
not_greater a b h = sym (gt_is a b) ∙ h

at_most_itself : (a : Key) → key_lt a a ≡ false
at_most_itself a = grind (arith, nat_tests)

-- with one more key, no place has a greater one
place_case : (b : Bool) (x y d : Key) (ys us : List Key) (k : ℕ) → above key_cmp x y ≡ b → Ascends key_cmp (y ∷ ys) → k < suc (length ys)
    → ((j : ℕ) → j < length ys → key_lt (get_or ys j d) (get_or us j d) ≡ false) → key_lt (get_or (y ∷ ys) k d) (get_or (cond b (y ∷ us) (x ∷ y ∷ ys)) k d) ≡ false
place_case true x y d ys us zero e up lt h = at_most_itself y
place_case true x y d ys us (suc k) e up lt h = h k (omega arith)
place_case false x y d ys us zero e up lt h = not_greater x y e
place_case false x y d [] us (suc k) e up lt h = absurd (omega arith)
place_case false x y d (z ∷ zs) us (suc zero) e up lt h = not_greater y z up.0.0
place_case false x y d (z ∷ zs) us (suc (suc k)) e up lt h = climbs z zs k d up.1 (omega arith)
  where
    climbs : (z : Key) (zs : List Key) (k : ℕ) (d : Key) → Ascends key_cmp (z ∷ zs) → k < length zs → key_lt (get_or zs k d) (get_or (z ∷ zs) k d) ≡ false
    climbs z [] k d up lt = absurd (omega arith)
    climbs z (w ∷ ws) zero d up lt = not_greater z w up.0.0
    climbs z (w ∷ ws) (suc k) d up lt = climbs w ws k d up.1 (omega arith)

no_greater : (x d : Key) (xs : List Key) → Ascends key_cmp xs → (k : ℕ) → k < length xs → key_lt (get_or xs k d) (get_or (with_key xs x) k d) ≡ false
no_greater x d [] up k lt = absurd (omega arith)
no_greater x d (y ∷ ys) up k lt = place_case (above key_cmp x y) x y d ys (with_key ys x) k refl up lt (λ j l. no_greater x d ys up.1 j l)

-- l ≤ w < other
under : (l w other : Key) → key_lt w l ≡ false → key_lt w other ≡ true → key_lt l other ≡ true
under l w other p q = grind (arith, nat_tests)

le_of : (m n : ℕ) → nat_le m n ≡ true → m ≤ n
le_of m n h = grind (arith, nat_tests)

worst_at : (keys : List Key) (d : Key) → 0 < length keys → worst_of keys ≡ Some (get_or keys (length keys - 1) d)
worst_at keys d h = slice_get-get_or keys (length keys - 1) d (omega arith)

pub beyond_stays : (most : ℕ) (keys : List Key) (key other : Key) → Ascends key_cmp keys → length keys ≤ most → beyond_of most keys other ≡ true → beyond_of most (take most (with_key keys key)) other ≡ true
beyond_stays most [] key other up few h = absurd (both_ways false refl (and_parts (nat_le most 0) false h).1)
beyond_stays most (x ∷ xs) key other up few h =
    let keys : List Key = x ∷ xs in
    let test = and_parts (nat_le most (length keys)) (option_map_or (λ last. key_lt last other) (worst_of keys) false) h in
    let full : most ≡ length keys = omega (arith, le_of most (length keys) test.0) in
    let new : List Key = take most (with_key keys key) in
    let long : length new ≡ most = length-take-le most (with_key keys key) (omega (arith, placed_long key keys)) in
    let some : 0 < length keys = omega arith in
    let was : key_lt (get_or keys (length keys - 1) x) other ≡ true = ap (λ o. option_map_or (λ last. key_lt last other) o false) (sym (worst_at keys x some)) ∙ test.1 in
    let place : length new - 1 ≡ length keys - 1 = omega (arith, long, full) in
    let now : get_or new (length new - 1) x ≡ get_or (with_key keys key) (length keys - 1) x =
    ap (λ k. get_or new k x) place ∙ get_or-take most (with_key keys key) (length keys - 1) x (omega (arith, full)) in
    let least : key_lt (get_or new (length new - 1) x) other ≡ true =
    ap (λ k. key_lt k other) now ∙ under (get_or (with_key keys key) (length keys - 1) x) (get_or keys (length keys - 1) x) other (no_greater key x keys up (length keys - 1) (omega arith)) was in
    (λ t. le-leb most (length new) (omega (arith, long)) t && option_map_or (λ last. key_lt last other) (worst_at new x (omega (arith, long, full)) t) false)
    ∙ least

-- the same, of what is seen of a `Best` before and after an offer
pub beyond_after : (old new : Least) (key other : Key) → Ascends key_cmp old.keys → length old.keys ≤ old.most → new.most ≡ old.most → new.keys ≡ take old.most (with_key old.keys key)
    → is_beyond old other ≡ true → is_beyond new other ≡ true
beyond_after old new key other up few most keys h = (λ t. beyond_of (most t) (keys t) other) ∙ beyond_stays old.most old.keys key other up few h
