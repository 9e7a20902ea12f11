-- Facts on digits and on the numbers that they spell.
use Rattle.std.proofs.Common.{◌≡◌, ℕ, zero, suc, ◌+◌, ◌-◌, ◌*◌, ◌<◌, ◌≤◌, ◌^◌, ◌++◌, true, List, length, get_or, take, refl, ap, sym, ◌∙◌, arith, replicate, lit<}
use Rattle.std.specs.List.{list_all, fold}
use Rattle.std.specs.Char.{is_ascii_digit}
use Rattle.std.proofs.lemmas.List.Recursion.{and_at}
use Rattle.std.proofs.lemmas.Bool.Decides.{nat_tests}
use Rattle.std.proofs.Math.Nat.{pow-le-pow_right, pow-zero, pow-succ', one-le-pow, mul-lt-mul_of_pos_right}
use Rattle.std.proofs.Math.Seq.{take-append-add}
use Rattle.std.proofs.lemmas.Nat.{pow-add}
use Rattle.std.proofs.lemmas.List.{take-replicate}
use Rattle.std.proofs.lemmas.List.Sums.{fold-append}
use Rattle.vs_defs.specs.Decimal.{number_of}

pub digit_range : (c : ℕ) → is_ascii_digit c ≡ true → (48 ≤ c) × (c ≤ 57)
digit_range c h = (grind (arith, nat_tests), grind (arith, nat_tests))

pub digit_at : (xs : List ℕ) (i : ℕ) → list_all is_ascii_digit xs ≡ true → i < length xs → (48 ≤ get_or xs i 0) × (get_or xs i 0 ≤ 57)
digit_at xs i h l = digit_range _ (and_at (list_all is_ascii_digit) is_ascii_digit refl (λ _ _. refl) xs i 0 l h)

pub tens_within : (i : ℕ) → i ≤ 18 → 10 ^ i ≤ 10 ^ 18
tens_within i h = pow-le-pow_right (lit< tt) h

-- k zeros behind a number
number_of_zeros : (k n : ℕ) → fold (λ m c. m * 10 + (c - 48)) n (replicate k 48) ≡ n * 10 ^ k
number_of_zeros zero n = omega (arith, pow-zero 10)
number_of_zeros (suc k) n = number_of_zeros k (n * 10 + 0) ∙ (rw (pow-succ' 10 k) (grind arith))

-- what stands among the first nine of digits and zeros, where there are at most nine digits
padded : (digits : List ℕ) → length digits ≤ 9 → take 9 (digits ++ replicate 9 48) ≡ digits ++ replicate (9 - length digits) 48
padded digits h =
    let e : 9 ≡ length digits + (9 - length digits) = omega arith in
    let split : take (length digits + (9 - length digits)) (digits ++ replicate 9 48) ≡ digits ++ take (9 - length digits) (replicate 9 48) = take-append-add digits (replicate 9 48) (9 - length digits) in
    ap (λ n. take n (digits ++ replicate 9 48)) e ∙ split ∙ ap (λ r. digits ++ r) (take-replicate (9 - length digits) 9 48 (omega arith))

pub number_of_padded : (digits : List ℕ) → length digits ≤ 9 → number_of digits * 10 ^ (9 - length digits) ≡ number_of (take 9 (digits ++ replicate 9 48))
number_of_padded digits h =
    sym (ap number_of (padded digits h) ∙ fold-append (λ m c. m * 10 + (c - 48)) 0 digits (replicate (9 - length digits) 48) ∙ number_of_zeros (9 - length digits) (number_of digits))

pub below_one : (n k : ℕ) → k ≤ 9 → n < 10 ^ k → n * 10 ^ (9 - k) < 10 ^ 9
below_one n k h b =
    let e : 9 ≡ k + (9 - k) = omega arith in
    let some : zero < 10 ^ (9 - k) = one-le-pow (9 - k) 10 (lit< tt) in
    let less : n * 10 ^ (9 - k) < 10 ^ k * 10 ^ (9 - k) = mul-lt-mul_of_pos_right b some in
    let whole : 10 ^ k * 10 ^ (9 - k) ≡ 10 ^ 9 = sym (pow-add 10 k (9 - k)) ∙ ap (λ j. 10 ^ j) (sym e) in
    omega arith
