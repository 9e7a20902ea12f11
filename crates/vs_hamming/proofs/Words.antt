-- The differing bits of words are the ones of their exclusive or.
use Rattle.std.proofs.Common.{◌≡◌, ℕ, zero, suc, ◌+◌, ◌*◌, ◌/◌, ◌%◌, ◌^◌, ◌<◌, ◌≤◌, ◌-◌, ◌==◌, Bool, false, cond, List, [], ◌∷◌, ◌++◌, length, get_or, take, refl, sym, ap, ◌∙◌, arith, inl, inr, length-append, append_assoc, add-zero}
use Rattle.std.specs.Prelude.{bit_xor, count_ones}
use Rattle.std.proofs.lemmas.Nat.{xor_shr, xor_mod, xor_lt, ones-le, shr-shr}
use Rattle.std.proofs.Math.Nat.{pow-suc, add_assoc}
use Rattle.std.proofs.lemmas.List.{take_more, length-take-le, get_or_append_left, get_or-append_right}
use Rattle.std.proofs.lemmas.Bool.{cases_lt}
use Rattle.std.proofs.lemmas.List.FromFn.{fill_by_all}
use Rattle.std.proofs.lemmas.List.Sums.{sum_by-cons}
use Rattle.std.specs.Prelude.{zip}
use lib.Count.{ones_step}
use Rattle.vs_defs.specs.Vector.{differ, ham}
use Rattle.vs_defs.specs.Words.{word_bit, bits_of_words, words_ham}

-- the k lowest bits of a word, the lowest first
unfoldable pub low_bits : ℕ → ℕ → List Bool
low_bits zero word = []
low_bits (suc k) word = (word % 2 == 1) ∷ low_bits k (word / 2)

-- the bits of words of 64, in order
abbrev pub bits_of : List ℕ → List Bool
bits_of [] = []
bits_of (word ∷ words) = low_bits 64 word ++ bits_of words

ham-cons : (x y : Bool) (xs ys : List Bool) → ham (x ∷ xs) (y ∷ ys) ≡ cond (differ x y) 1 0 + ham xs ys
ham-cons x y xs ys = sum_by-cons (λ (p : Bool × Bool). cond (differ p.0 p.1) 1 0) (x, y) (zip xs ys)

pub ham-append : (xs ys us vs : List Bool) → length xs ≡ length ys → ham (xs ++ us) (ys ++ vs) ≡ ham xs ys + ham us vs
ham-append [] [] us vs e = omega arith
ham-append [] (y ∷ ys) us vs e = absurd (omega arith)
ham-append (x ∷ xs) [] us vs e = absurd (omega arith)
ham-append (x ∷ xs) (y ∷ ys) us vs e =
    let same : length xs ≡ length ys = omega arith in
    let joined : ham (x ∷ (xs ++ us)) (y ∷ (ys ++ vs)) ≡ cond (differ x y) 1 0 + ham (xs ++ us) (ys ++ vs) = ham-cons x y (xs ++ us) (ys ++ vs) in
    let first : ham (x ∷ xs) (y ∷ ys) ≡ cond (differ x y) 1 0 + ham xs ys = ham-cons x y xs ys in
    let rest : ham (xs ++ us) (ys ++ vs) ≡ ham xs ys + ham us vs = ham-append xs ys us vs same in
    joined ∙ ap (λ n. cond (differ x y) 1 0 + n) rest ∙ sym (add_assoc (cond (differ x y) 1 0) (ham xs ys) (ham us vs)) ∙ ap (λ n. n + ham us vs) (sym first)

pub length-low_bits : (k w : ℕ) → length (low_bits k w) ≡ k
unfolding low_bits
length-low_bits zero w = refl
length-low_bits (suc k) w = omega (arith, length-low_bits k (w / 2))

-- one place
pub xor_of_bits : (x y : ℕ) → x < 2 → y < 2 → bit_xor x y ≡ ham ((x == 1) ∷ []) ((y == 1) ∷ [])
xor_of_bits zero zero p q = refl
xor_of_bits zero (suc zero) p q = refl
xor_of_bits (suc zero) zero p q = refl
xor_of_bits (suc zero) (suc zero) p q = refl
xor_of_bits x (suc (suc y)) p q = absurd (omega arith)
xor_of_bits (suc (suc x)) y p q = absurd (omega arith)

-- one word
pub ones-xor : (k a b : ℕ) → a < 2 ^ k → b < 2 ^ k → count_ones (bit_xor a b) ≡ ham (low_bits k a) (low_bits k b)
unfolding low_bits
ones-xor zero a b p q = let n : count_ones (bit_xor a b) ≤ 0 = ones-le 0 (bit_xor a b) (xor_lt 0 a b p q) in omega arith
ones-xor (suc k) a b p q =
    let step : count_ones (bit_xor a b) ≡ bit_xor a b % 2 + count_ones (bit_xor a b / 2) = ones_step (bit_xor a b) in
    let low : bit_xor a b % 2 ≡ bit_xor (a % 2) (b % 2) = xor_mod a b 1 in
    let bit : bit_xor (a % 2) (b % 2) ≡ ham ((a % 2 == 1) ∷ []) ((b % 2 == 1) ∷ []) = xor_of_bits (a % 2) (b % 2) (omega arith) (omega arith) in
    let high : bit_xor a b / 2 ≡ bit_xor (a / 2) (b / 2) = xor_shr a b 1 in
    let twice : 2 ^ suc k ≡ 2 ^ k * 2 = pow-suc 2 k in
    let rest : count_ones (bit_xor (a / 2) (b / 2)) ≡ ham (low_bits k (a / 2)) (low_bits k (b / 2)) = ones-xor k (a / 2) (b / 2) (omega arith) (omega arith) in
    let both : ham (((a % 2 == 1) ∷ []) ++ low_bits k (a / 2)) (((b % 2 == 1) ∷ []) ++ low_bits k (b / 2)) ≡ ham ((a % 2 == 1) ∷ []) ((b % 2 == 1) ∷ []) + ham (low_bits k (a / 2)) (low_bits k (b / 2)) = ham-append ((a % 2 == 1) ∷ []) ((b % 2 == 1) ∷ []) (low_bits k (a / 2)) (low_bits k (b / 2)) refl in
    cc

pub length-bits_of : (ws : List ℕ) → length (bits_of ws) ≡ 64 * length ws
length-bits_of [] = refl
length-bits_of (w ∷ ws) = omega (arith, length-append (low_bits 64 w) (bits_of ws), length-low_bits 64 w, length-bits_of ws)

-- bits of words that stand after words of the same length
pub bits_of-append : (ws us : List ℕ) → bits_of (ws ++ us) ≡ bits_of ws ++ bits_of us
bits_of-append [] us = refl
bits_of-append (w ∷ ws) us = ap (λ t. low_bits 64 w ++ t) (bits_of-append ws us) ∙ sym (append_assoc (low_bits 64 w) (bits_of ws) (bits_of us))

pub ham_words-append : (a b c d : List ℕ) → length a ≡ length b → ham (bits_of (a ++ c)) (bits_of (b ++ d)) ≡ ham (bits_of a) (bits_of b) + ham (bits_of c) (bits_of d)
ham_words-append a b c d same =
    let long : length (bits_of a) ≡ length (bits_of b) = omega (arith, length-bits_of a, length-bits_of b) in
    rw (bits_of-append a c, bits_of-append b d) (ham-append (bits_of a) (bits_of b) (bits_of c) (bits_of d) long)

ham_one : (x y : ℕ) → x < 2 ^ 64 → y < 2 ^ 64 → ham (bits_of (x ∷ [])) (bits_of (y ∷ [])) ≡ count_ones (bit_xor x y)
ham_one x y p q =
    let long : length (low_bits 64 x) ≡ length (low_bits 64 y) = omega (arith, length-low_bits 64 x, length-low_bits 64 y) in
    ham-append (low_bits 64 x) (low_bits 64 y) [] [] long ∙ add-zero (ham (low_bits 64 x) (low_bits 64 y)) ∙ sym (ones-xor 64 x y p q)

-- one more word
pub ham_more : (a b : List ℕ) (i : ℕ) → i < length a → i < length b → get_or a i 0 < 2 ^ 64 → get_or b i 0 < 2 ^ 64
    → ham (bits_of (take (i + 1) a)) (bits_of (take (i + 1) b)) ≡ ham (bits_of (take i a)) (bits_of (take i b)) + count_ones (bit_xor (get_or a i 0) (get_or b i 0))
ham_more a b i p q fits_a fits_b =
    let long : length (take i a) ≡ length (take i b) = omega (arith, length-take-le {A = ℕ} i a (omega arith), length-take-le {A = ℕ} i b (omega arith)) in
    rw (take_more a i 0 p, take_more b i 0 q)
    (ham_words-append (take i a) (take i b) (get_or a i 0 ∷ []) (get_or b i 0 ∷ []) long
    ∙ ap (λ n. ham (bits_of (take i a)) (bits_of (take i b)) + n) (ham_one (get_or a i 0) (get_or b i 0) fits_a fits_b))

-- four more words
pub ham_four : (a b : List ℕ) (i : ℕ) → i + 3 < length a → i + 3 < length b
    → get_or a i 0 < 2 ^ 64 → get_or b i 0 < 2 ^ 64 → get_or a (i + 1) 0 < 2 ^ 64 → get_or b (i + 1) 0 < 2 ^ 64
    → get_or a (i + 2) 0 < 2 ^ 64 → get_or b (i + 2) 0 < 2 ^ 64 → get_or a (i + 3) 0 < 2 ^ 64 → get_or b (i + 3) 0 < 2 ^ 64
    → ham (bits_of (take (i + 4) a)) (bits_of (take (i + 4) b))
    ≡ ham (bits_of (take i a)) (bits_of (take i b)) + count_ones (bit_xor (get_or a i 0) (get_or b i 0)) + count_ones (bit_xor (get_or a (i + 1) 0) (get_or b (i + 1) 0))
    + count_ones (bit_xor (get_or a (i + 2) 0) (get_or b (i + 2) 0)) + count_ones (bit_xor (get_or a (i + 3) 0) (get_or b (i + 3) 0))
ham_four a b i p q a0 b0 a1 b1 a2 b2 a3 b3 =
    let one = ham_more a b i (omega arith) (omega arith) a0 b0 in
    let at_2 : i + 1 + 1 ≡ i + 2 = omega arith in
    let at_3 : i + 2 + 1 ≡ i + 3 = omega arith in
    let at_4 : i + 3 + 1 ≡ i + 4 = omega arith in
    let two = rw at_2 at (ham_more a b (i + 1) (omega arith) (omega arith) a1 b1) in
    let three = rw at_3 at (ham_more a b (i + 2) (omega arith) (omega arith) a2 b2) in
    let four = rw at_4 at (ham_more a b (i + 3) p q a3 b3) in
    omega (arith, one, two, three, four)

-- the ones of a word
pub ones_of_xor-le : (x y : ℕ) → x < 2 ^ 64 → y < 2 ^ 64 → count_ones (bit_xor x y) ≤ 64
ones_of_xor-le x y p q = ones-le 64 (bit_xor x y) (xor_lt 64 x y p q)

-- ---- the bits at their places

low_bit_at : (k w i : ℕ) → i < k → get_or (low_bits k w) i false ≡ (w / 2 ^ i % 2 == 1)
unfolding low_bits
low_bit_at zero w i h = absurd (omega arith)
low_bit_at (suc k) w zero h = ap (λ n. n % 2 == 1) (omega arith)
low_bit_at (suc k) w (suc i) h =
    low_bit_at k (w / 2) i (omega arith)
    ∙ ap (λ n. n % 2 == 1) (shr-shr w 1 i ∙ ap (λ j. w / 2 ^ j) (omega arith))

bit_at : (ws : List ℕ) (i : ℕ) → i < 64 * length ws → get_or (bits_of ws) i false ≡ word_bit ws i
bit_at [] i h = absurd (omega arith)
bit_at (w ∷ ws) i h =
    elim (cases_lt i 64) [
      | inl low ↦
          let quotient : i / 64 ≡ 0 = omega arith in
          let place : i % 64 ≡ i = omega arith in
          get_or_append_left (low_bits 64 w) (bits_of ws) false i (omega (arith, length-low_bits 64 w))
          ∙ low_bit_at 64 w i low
          ∙ sym (λ t. get_or (w ∷ ws) (quotient t) 0 / 2 ^ (place t) % 2 == 1)
      | inr high ↦
          let quotient : i / 64 ≡ suc ((i - 64) / 64) = omega arith in
          let place : i % 64 ≡ (i - 64) % 64 = omega arith in
          get_or-append_right (low_bits 64 w) (bits_of ws) 64 i false (length-low_bits 64 w) high
          ∙ bit_at ws (i - 64) (omega arith)
          ∙ sym (λ t. get_or (w ∷ ws) (quotient t) 0 / 2 ^ (place t) % 2 == 1)
    ]

pub bits_are : (ws : List ℕ) → bits_of ws ≡ bits_of_words (64 * length ws) ws
bits_are ws = fill_by_all (word_bit ws) (bits_of ws) (64 * length ws) false (length-bits_of ws) (bit_at ws)

pub words_ham_is : (a b : List ℕ) → ham (bits_of a) (bits_of b) ≡ words_ham a b
words_ham_is a b = rw (bits_are a, bits_are b) refl

-- the words of two vectors, in two parts
pub words_ham-append : (a b c d : List ℕ) → length a ≡ length b → words_ham (a ++ c) (b ++ d) ≡ words_ham a b + words_ham c d
words_ham-append a b c d same =
    sym (words_ham_is (a ++ c) (b ++ d)) ∙ ham_words-append a b c d same ∙ (λ t. words_ham_is a b t + words_ham_is c d t)
