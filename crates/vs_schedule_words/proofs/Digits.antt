-- Facts on digits and on the numbers that they spell.
use Rattle.std.proofs.Common.{◌≡◌, ℕ, ◌+◌, ◌-◌, ◌*◌, ◌<◌, ◌≤◌, true, false, cond, nat_le, Option, Some, None, ◌^◌, List, [], ◌∷◌, length, get_or, take, drop, refl, ap, sym, ◌∙◌, arith, add-one}
use Rattle.std.specs.List.{fold}
use Rattle.std.proofs.Math.Seq.{drop-cons}
use Rattle.std.proofs.lemmas.List.{take-append-drop}
use Rattle.std.proofs.lemmas.List.Sums.{fold-append}
use Rattle.std.proofs.lemmas.Bool.Decides.{nat_tests}
use Rattle.vs_defs.specs.Decimal.{number_of}

abbrev next : ℕ → ℕ → ℕ
next n c = n * 10 + (c - 48)

grows : (cs : List ℕ) (n : ℕ) → n ≤ fold next n cs
grows [] n = omega arith
grows (c ∷ cs) n =
    let more = grows cs (next n c) in
    omega arith

-- the number of all digits is at least that of the first ones with one more
pub exceeds : (xs : List ℕ) (i : ℕ) → i < length xs → number_of (take i xs) * 10 + (get_or xs i 0 - 48) ≤ number_of xs
exceeds xs i h =
    let rest : drop i xs ≡ get_or xs i 0 ∷ drop (i + 1) xs = rw (add-one) (drop-cons xs i 0 h) in
    let parts : number_of xs ≡ fold next (number_of (take i xs)) (drop i xs) =
    ap number_of (sym (take-append-drop i xs)) ∙ fold-append next 0 (take i xs) (drop i xs) in
    let more : number_of xs ≡ fold next (next (number_of (take i xs)) (get_or xs i 0)) (drop (i + 1) xs) = rw rest at parts in
    let least = grows (drop (i + 1) xs) (next (number_of (take i xs)) (get_or xs i 0)) in
    omega arith

abbrev pub within_bits : ℕ → Option ℕ
within_bits n = cond (nat_le n (2 ^ 32 - 1)) (Some n) None

pub too_large : (n : ℕ) → 2 ^ 32 ≤ n → None ≡ within_bits n
too_large n h =
    let no_ : nat_le n (2 ^ 32 - 1) ≡ false = grind (arith, nat_tests) in
    rw no_ refl

pub fits : (n : ℕ) → n < 2 ^ 32 → Some n ≡ within_bits n
fits n h =
    let yes : nat_le n (2 ^ 32 - 1) ≡ true = grind (arith, nat_tests) in
    rw yes refl
