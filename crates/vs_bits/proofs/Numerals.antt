-- Texts that are numerals, up to a place; and words that are filled with their bits.
use Rattle.std.proofs.Common.{◌≡◌, ℕ, zero, suc, ◌+◌, ◌-◌, ◌*◌, ◌%◌, ◌^◌, ◌<◌, ◌≤◌, Bool, true, false, cond, List, [], ◌∷◌, ◌++◌, map, ◌==◌, ◌&&◌, length, take, drop, get_or, refl, sym, ap, ap₂, ◌∙◌, arith, min, subst, inl, inr, Option, Some, None, option_map}
use Rattle.std.specs.List.{prefix_len}
use Rattle.std.specs.Prelude.{option_and_then, bit_or}
use mir.Val.{bool_byte}
use Rattle.std.proofs.lemmas.Bool.{cases_lt}
use Rattle.std.proofs.lemmas.List.{length-map, take-map, drop-map, get_or-map, take-append-drop, take_more}
use Rattle.std.proofs.lemmas.List.Folds.{list_all-append}
use Rattle.std.proofs.lemmas.List.Sums.{prefix_len_passes, prefix_len_stops}
use Rattle.vs_defs.specs.Bytes.{Bytes}
use Rattle.vs_defs.specs.Numeral.{Sign, sign_of, bit_of, bits_of, is_numeral, are_zeros}
use Rattle.vs_defs.specs.Words.{words_for, bits_of_words}
use Rattle.vs_bits.specs.Components.{bit_when, plus_in}
use Rattle.vs_bits.specs.Packed.{IsWordOf, AreWordsOf}
use Rattle.vs_bits.proofs.Packing.{bits_all, words_all, bit_more, word_more as more}

-- ---- one text

pub numeral_has_sign : (text : Bytes) (sign : Sign) → sign_of text ≡ Some sign → is_numeral text ≡ true
numeral_has_sign text sign e = by_test (is_numeral text) _ e where
  by_test : (b : Bool) (s : Sign) → cond b (Some s) None ≡ Some sign → b ≡ true
  by_test true s is = refl
  by_test false s is = cc

pub no_numeral : (text : Bytes) → sign_of text ≡ None → is_numeral text ≡ false
no_numeral text e = by_test (is_numeral text) _ e where
  by_test : (b : Bool) (s : Sign) → cond b (Some s) None ≡ None → b ≡ false
  by_test true s is = cc
  by_test false s is = refl

-- ---- as many texts in front as pass a test

pub one_passes : {X : Type 0} (p : X → Bool) (xs : List X) (k : ℕ) (d : X) → k < length xs → p (get_or xs k d) ≡ true → k ≤ prefix_len p xs → k + 1 ≤ prefix_len p xs
one_passes p xs k d less is le = elim (cases_lt k (prefix_len p xs)) [
  | inl more ↦ omega (arith, more)
  | inr stop ↦
      let same : prefix_len p xs ≡ k = omega (arith, stop, le) in
      let stops : p (get_or xs k d) ≡ false = subst (λ (i : ℕ). p (get_or xs i d) ≡ false) same (prefix_len_stops p xs d (omega (arith, less, same))) in
      cc
]

pub one_stops : {X : Type 0} (p : X → Bool) (xs : List X) (k : ℕ) (d : X) → k < length xs → p (get_or xs k d) ≡ false → k ≤ prefix_len p xs → prefix_len p xs ≡ k
one_stops p xs k d less is le = elim (cases_lt k (prefix_len p xs)) [
  | inl more ↦ let passes : p (get_or xs k d) ≡ true = prefix_len_passes p xs k d more in cc
  | inr stop ↦ omega (arith, stop, le)
]

dropped : {X : Type 0} (p : X → Bool) (xs : List X) (i : ℕ) → i ≤ prefix_len p xs → prefix_len p xs ≡ i + prefix_len p (drop i xs)
dropped p [] zero h = refl
dropped p [] (suc i) h = absurd (omega arith)
dropped p (x ∷ xs) zero h = omega arith
dropped p (x ∷ xs) (suc i) h = by_test (p x) (prefix_len p xs) (prefix_len p (drop i xs)) h (dropped p xs i) where
  by_test : (b : Bool) (n m : ℕ) → suc i ≤ cond b (1 + n) 0 → (i ≤ n → n ≡ i + m) → cond b (1 + n) 0 ≡ suc i + m
  by_test true n m le f = let e : n ≡ i + m = f (omega arith) in omega arith
  by_test false n m le f = absurd (omega arith)

all_pass : {X : Type 0} (p : X → Bool) (xs ys : List X) → prefix_len p xs ≡ length xs → length xs ≤ prefix_len p (xs ++ ys)
all_pass p [] ys h = omega arith
all_pass p (x ∷ xs) ys h = by_test (p x) (prefix_len p xs) (prefix_len p (xs ++ ys)) (length xs) h (all_pass p xs ys) where
  by_test : (b : Bool) (n m l : ℕ) → cond b (1 + n) 0 ≡ suc l → (n ≡ l → l ≤ m) → suc l ≤ cond b (1 + m) 0
  by_test true n m l e f = let le : l ≤ m = f (omega arith) in omega arith
  by_test false n m l e f = absurd (omega arith)

some_stops : {X : Type 0} (p : X → Bool) (xs ys : List X) → prefix_len p xs < length xs → prefix_len p (xs ++ ys) ≡ prefix_len p xs
some_stops p [] ys h = absurd (omega arith)
some_stops p (x ∷ xs) ys h = by_test (p x) (prefix_len p xs) (prefix_len p (xs ++ ys)) (length xs) h (some_stops p xs ys) where
  by_test : (b : Bool) (n m l : ℕ) → cond b (1 + n) 0 < suc l → (n < l → m ≡ n) → cond b (1 + m) 0 ≡ cond b (1 + n) 0
  by_test true n m l less f = ap (λ (k : ℕ). 1 + k) (f (omega arith))
  by_test false n m l less f = refl

-- of a part from a place on, where all before it pass
pub part_passes : {X : Type 0} (p : X → Bool) (xs : List X) (from n : ℕ) → from ≤ prefix_len p xs → prefix_len p (take n (drop from xs)) ≡ length (take n (drop from xs)) →
    from + length (take n (drop from xs)) ≤ prefix_len p xs
part_passes p xs from n le is =
    let rest : length (take n (drop from xs)) ≤ prefix_len p (drop from xs)
    = subst (λ (l : List _). length (take n (drop from xs)) ≤ prefix_len p l) (take-append-drop n (drop from xs)) (all_pass p (take n (drop from xs)) (drop n (drop from xs)) is) in
    omega (arith, dropped p xs from le, rest)

pub part_stops : {X : Type 0} (p : X → Bool) (xs : List X) (from n place : ℕ) → from ≤ prefix_len p xs → prefix_len p (take n (drop from xs)) ≡ place → place < length (take n (drop from xs)) →
    prefix_len p xs ≡ from + place
part_stops p xs from n place le is less =
    let rest : prefix_len p (drop from xs) ≡ place
    = ap (λ (l : List _). prefix_len p l) (sym (take-append-drop n (drop from xs))) ∙ some_stops p (take n (drop from xs)) (drop n (drop from xs)) (omega (arith, is, less)) ∙ is in
    dropped p xs from le ∙ ap (λ (k : ℕ). from + k) rest

-- ---- the bits of numerals

-- where each text is a numeral
pub bits_of_numerals : (texts : List Bytes) → prefix_len is_numeral texts ≡ length texts → bits_of texts ≡ Some (map plus_in texts)
bits_of_numerals [] h = refl
bits_of_numerals (text ∷ texts) h = by_test (is_numeral text) _ (prefix_len is_numeral texts) h (bits_of_numerals texts) where
  by_test : (b : Bool) (s : Sign) (n : ℕ) → cond b (1 + n) 0 ≡ suc (length texts) → (n ≡ length texts → bits_of texts ≡ Some (map plus_in texts)) →
      option_and_then (λ t. option_map (λ bits. bit_of t ∷ bits) (bits_of texts)) (cond b (Some s) None) ≡ Some (bit_when (cond b (Some s) None) ∷ map plus_in texts)
  by_test true s n e f = ap (λ (o : Option (List Bool)). option_map (λ bits. bit_of s ∷ bits) o) (f (omega arith))
  by_test false s n e f = absurd (omega arith)

pub bits_of_part : (texts : List Bytes) (from n : ℕ) → map plus_in (take n (drop from texts)) ≡ take n (drop from (map plus_in texts))
bits_of_part texts from n = sym (take-map plus_in n (drop from texts)) ∙ ap (λ (l : List Bool). take n l) (sym (drop-map plus_in from texts))

-- one word more
pub words_more : (words : List ℕ) (word : ℕ) (texts : List Bytes) (at from end : ℕ) → length words ≡ at → from ≡ at * 64 → end ≡ min (length texts) (at * 64 + 64)
    → IsWordOf word (map plus_in (take (end - from) (drop from texts))) → AreWordsOf words (take (64 * at) (map plus_in texts))
    → AreWordsOf (words ++ word ∷ []) (take (64 * (at + 1)) (map plus_in texts))
words_more words word texts at from end count begins ends w h =
    more words word (map plus_in texts) (length texts) at from end (length-map texts plus_in) count begins ends (subst (λ (l : List Bool). IsWordOf word l) (bits_of_part texts from (end - from)) w) h

-- the words of all numerals
pub bits_of_all : (words : List ℕ) (texts : List Bytes) → length words ≡ words_for (length texts) → AreWordsOf words (take (64 * length words) (map plus_in texts)) →
    prefix_len is_numeral texts ≡ length texts → bits_of texts ≡ Some (bits_of_words (length texts) words)
bits_of_all words texts count h all =
    let here : length words ≡ words_for (length (map plus_in texts)) = count ∙ ap words_for (sym (length-map texts plus_in)) in
    bits_of_numerals texts all
    ∙ ap (λ (v : List Bool). Some v) (sym (bits_all words (map plus_in texts) (words_all words (map plus_in texts) here h)))
    ∙ ap (λ (n : ℕ). Some (bits_of_words n words)) (length-map texts plus_in)

-- one bit more, of a text at its place
pub bit_of_text : (word : ℕ) (texts : List Bytes) (k : ℕ) (text : Bytes) (sign : Sign) (b : Bool) → k < length texts → k < 64 → text ≡ get_or texts k text → Some sign ≡ sign_of text → b ≡ bit_of sign →
    IsWordOf word (take k (map plus_in texts)) → IsWordOf (bit_or word (bool_byte b * 2 ^ k % 2 ^ 64)) (take (k + 1) (map plus_in texts))
bit_of_text word texts k text sign b less few at e is h =
    let here : get_or (map plus_in texts) k false ≡ b =
    get_or-map plus_in texts k text false less ∙ ap plus_in (sym at) ∙ ap bit_when (sym e) ∙ sym is in
    let within : k < length (map plus_in texts) = omega (arith, length-map texts plus_in) in
    bit_more word (map plus_in texts) k b within few here h

pub text_is_numeral : (texts : List Bytes) (k : ℕ) (text : Bytes) (sign : Sign) → text ≡ get_or texts k text → Some sign ≡ sign_of text → is_numeral (get_or texts k text) ≡ true
text_is_numeral texts k text sign at e = ap is_numeral (sym at) ∙ numeral_has_sign text sign (sym e)

pub text_is_none : (texts : List Bytes) (k : ℕ) (text : Bytes) → text ≡ get_or texts k text → None ≡ sign_of text → is_numeral (get_or texts k text) ≡ false
text_is_none texts k text at e = ap is_numeral (sym at) ∙ no_numeral text (sym e)

-- ---- digits, of which each is 0

and_true : (b : Bool) → (b && true) ≡ b
and_true true = refl
and_true false = refl

pub zeros_more : (text : Bytes) (k : ℕ) (zeros : Bool) → k < length text → zeros ≡ are_zeros (take k text) → are_zeros (take (k + 1) text) ≡ (zeros && (get_or text k 0 == 48))
zeros_more text k zeros less is =
    ap are_zeros (take_more text k 0 less) ∙ list_all-append (λ c. c == 48) (take k text) (get_or text k 0 ∷ [])
    ∙ ap₂ (λ (a b : Bool). a && b) (sym is) (and_true (get_or text k 0 == 48))
