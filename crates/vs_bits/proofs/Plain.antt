-- Plain decimals: a digit, a point, and a few digits more.
use Rattle.std.proofs.Common.{◌≡◌, ℕ, ◌-◌, ◌≤◌, Bool, true, false, cond, not, List, [], ◌∷◌, ◌==◌, ◌&&◌, ◌||◌, length, take, drop, get_or, refl, sym, ap, ap₂, ◌∙◌, subst, arith}
use Rattle.std.proofs.Math.Bool.{and-true as and_true}
use Rattle.std.proofs.Math.Seq.{drop-length}
use Rattle.std.proofs.lemmas.List.{length-drop, take_all}
use Rattle.std.proofs.lemmas.List.Sums.{take_while-cons}
use Rattle.std.specs.Prelude.{take_while}
use Rattle.std.specs.Char.{is_ascii_digit}
use Rattle.std.specs.List.{list_all}
use Rattle.vs_defs.specs.Bytes.{Bytes}
use Rattle.vs_defs.specs.Numeral.{digits_of, after_digits, is_empty, without, unsigned, is_exponent_part, after_point, whole_digits, fraction_digits, is_numeral, are_zeros}

second_of : (a b : Bool) → (a && b) ≡ true → b ≡ true
second_of true b h = h
second_of false b h = cc

with_first : (a b c : Bool) → (a && b) ≡ true → c ≡ true → (a && c) ≡ true
with_first true b c h k = k
with_first false b c h k = cc

rest_of : (p : ℕ → Bool) (x : ℕ) (xs : List ℕ) → list_all p (x ∷ xs) ≡ true → list_all p xs ≡ true
rest_of p x xs h = second_of (p x) (list_all p xs) h

-- the first of one list before another
before : (p : ℕ → Bool) (x : ℕ) (xs ys : List ℕ) → list_all p (x ∷ xs) ≡ true → list_all p ys ≡ true → list_all p (x ∷ ys) ≡ true
before p x xs ys h k = with_first (p x) (list_all p xs) (list_all p ys) h k

-- the first four and the last four of four to eight are all of them
pub few_all : (p : ℕ → Bool) (xs : List ℕ) → 4 ≤ length xs → length xs ≤ 8 → list_all p (get_or xs 0 0 ∷ get_or xs 1 0 ∷ get_or xs 2 0 ∷ get_or xs 3 0 ∷ []) ≡ true
    → list_all p (get_or xs (length xs - 4) 0 ∷ get_or xs (length xs - 3) 0 ∷ get_or xs (length xs - 2) 0 ∷ get_or xs (length xs - 1) 0 ∷ []) ≡ true → list_all p xs ≡ true
few_all p [] l m h k = absurd (omega arith)
few_all p (a ∷ []) l m h k = absurd (omega arith)
few_all p (a ∷ b ∷ []) l m h k = absurd (omega arith)
few_all p (a ∷ b ∷ c ∷ []) l m h k = absurd (omega arith)
few_all p (a ∷ b ∷ c ∷ d ∷ []) l m h k = h
few_all p (a ∷ b ∷ c ∷ d ∷ e ∷ []) l m h k = before p a (b ∷ c ∷ d ∷ []) (b ∷ c ∷ d ∷ e ∷ []) h k
few_all p (a ∷ b ∷ c ∷ d ∷ e ∷ f ∷ []) l m h k = before p a (b ∷ c ∷ d ∷ []) (b ∷ c ∷ d ∷ e ∷ f ∷ []) h (before p b (c ∷ d ∷ []) (c ∷ d ∷ e ∷ f ∷ []) (rest_of p a (b ∷ c ∷ d ∷ []) h) k)
few_all p (a ∷ b ∷ c ∷ d ∷ e ∷ f ∷ g ∷ []) l m h k = before p a (b ∷ c ∷ d ∷ []) (b ∷ c ∷ d ∷ e ∷ f ∷ g ∷ []) h (before p b (c ∷ d ∷ []) (c ∷ d ∷ e ∷ f ∷ g ∷ []) (rest_of p a (b ∷ c ∷ d ∷ []) h) (before p c (d ∷ []) (d ∷ e ∷ f ∷ g ∷ []) (rest_of p b (c ∷ d ∷ []) (rest_of p a (b ∷ c ∷ d ∷ []) h)) k))
few_all p (a ∷ b ∷ c ∷ d ∷ e ∷ f ∷ g ∷ i ∷ []) l m h k = before p a (b ∷ c ∷ d ∷ []) (b ∷ c ∷ d ∷ e ∷ f ∷ g ∷ i ∷ []) h (before p b (c ∷ d ∷ []) (c ∷ d ∷ e ∷ f ∷ g ∷ i ∷ []) (rest_of p a (b ∷ c ∷ d ∷ []) h) (before p c (d ∷ []) (d ∷ e ∷ f ∷ g ∷ i ∷ []) (rest_of p b (c ∷ d ∷ []) (rest_of p a (b ∷ c ∷ d ∷ []) h)) (before p d ([]) (e ∷ f ∷ g ∷ i ∷ []) (rest_of p c (d ∷ []) (rest_of p b (c ∷ d ∷ []) (rest_of p a (b ∷ c ∷ d ∷ []) h))) k)))
few_all p (a ∷ b ∷ c ∷ d ∷ e ∷ f ∷ g ∷ i ∷ j ∷ rest) l m h k = absurd (omega arith)

-- ---- the parts of a plain decimal: 46 is `.`

all_digits : (ds : Bytes) → list_all is_ascii_digit ds ≡ true → digits_of ds ≡ ds
all_digits [] h = refl
all_digits (c ∷ cs) h = take_while-cons is_ascii_digit c cs ∙ by_test (is_ascii_digit c) (digits_of cs) h (all_digits cs) where
  by_test : (b : Bool) (rest : Bytes) → (b && list_all is_ascii_digit cs) ≡ true → (list_all is_ascii_digit cs ≡ true → rest ≡ cs) → cond b (c ∷ rest) [] ≡ c ∷ cs
  by_test true rest e f = ap (λ (l : Bytes). c ∷ l) (f e)
  by_test false rest e f = cc

digit : (w : ℕ) → 48 ≤ w → w ≤ 57 → is_ascii_digit w ≡ true
digit w l m = grind arith

no_sign : (w : ℕ) → 48 ≤ w → ((w == 43) || (w == 45)) ≡ false
no_sign w l = grind arith

signless : (w : ℕ) (ds : Bytes) → 48 ≤ w → unsigned (w ∷ 46 ∷ ds) ≡ w ∷ 46 ∷ ds
signless w ds l = ap (λ (b : Bool). cond b (46 ∷ ds) (w ∷ 46 ∷ ds)) (no_sign w l)

front : (w : ℕ) (ds : Bytes) → 48 ≤ w → w ≤ 57 → digits_of (w ∷ 46 ∷ ds) ≡ w ∷ []
front w ds l m = take_while-cons is_ascii_digit w (46 ∷ ds) ∙ ap (λ (b : Bool). cond b (w ∷ take_while is_ascii_digit (46 ∷ ds)) []) (digit w l m) ∙ ap (λ (l : Bytes). w ∷ l) (take_while-cons is_ascii_digit 46 ds)

whole : (w : ℕ) (ds : Bytes) → 48 ≤ w → w ≤ 57 → whole_digits (w ∷ 46 ∷ ds) ≡ w ∷ []
whole w ds l m = ap digits_of (signless w ds l) ∙ front w ds l m

behind : (w : ℕ) (ds : Bytes) → 48 ≤ w → w ≤ 57 → after_point (w ∷ 46 ∷ ds) ≡ ds
behind w ds l m = ap (λ (t : Bytes). without 46 (after_digits t)) (signless w ds l) ∙ ap (λ (t : Bytes). without 46 (drop (length t) (w ∷ 46 ∷ ds))) (front w ds l m)

fraction : (w : ℕ) (ds : Bytes) → 48 ≤ w → w ≤ 57 → list_all is_ascii_digit ds ≡ true → fraction_digits (w ∷ 46 ∷ ds) ≡ ds
fraction w ds l m h = ap digits_of (behind w ds l m) ∙ all_digits ds h

nothing_more : (w : ℕ) (ds : Bytes) → 48 ≤ w → w ≤ 57 → list_all is_ascii_digit ds ≡ true → after_digits (after_point (w ∷ 46 ∷ ds)) ≡ []
nothing_more w ds l m h = ap (λ (t : Bytes). after_digits t) (behind w ds l m) ∙ ap (λ (t : Bytes). drop (length t) ds) (all_digits ds h) ∙ drop-length ds

numeral : (w : ℕ) (ds : Bytes) → 48 ≤ w → w ≤ 57 → list_all is_ascii_digit ds ≡ true → is_numeral (w ∷ 46 ∷ ds) ≡ true
numeral w ds l m h =
    let text : Bytes = w ∷ 46 ∷ ds in
    ap (λ (t : Bytes). not (is_empty t && is_empty (fraction_digits text)) && is_exponent_part (after_digits (after_point text))) (whole w ds l m) ∙ ap is_exponent_part (nothing_more w ds l m h)

zero_by_parts : (w : ℕ) (ds : Bytes) → 48 ≤ w → w ≤ 57 → list_all is_ascii_digit ds ≡ true →
    ((w == 48) && are_zeros ds) ≡ (are_zeros (whole_digits (w ∷ 46 ∷ ds)) && are_zeros (fraction_digits (w ∷ 46 ∷ ds)))
zero_by_parts w ds l m h =
    ap (λ (b : Bool). b && are_zeros ds) (sym (and_true (w == 48)))
    ∙ sym (ap₂ (λ (a b : Bytes). are_zeros a && are_zeros b) (whole w ds l m) (fraction w ds l m h))

-- a text from its third byte on, as a pattern names it
pub rest_is : (text : Bytes) → take (length text - 2) (drop 2 text) ≡ drop 2 text
rest_is text = take_all (length text - 2) (drop 2 text) (omega (arith, length-drop 2 text))

pub plain_numeral : (text : Bytes) → 2 ≤ length text → 48 ≤ get_or text 0 0 → get_or text 0 0 ≤ 57 → get_or text 1 0 ≡ 46 → list_all is_ascii_digit (drop 2 text) ≡ true → is_numeral text ≡ true
plain_numeral [] n l m e h = absurd (omega arith)
plain_numeral (w ∷ []) n l m e h = absurd (omega arith)
plain_numeral (w ∷ c ∷ ds) n l m e h = subst (λ (x : ℕ). is_numeral (w ∷ x ∷ ds) ≡ true) (sym e) (numeral w ds l m h)

pub plain_zero : (text : Bytes) → 2 ≤ length text → 48 ≤ get_or text 0 0 → get_or text 0 0 ≤ 57 → get_or text 1 0 ≡ 46 → list_all is_ascii_digit (drop 2 text) ≡ true →
    ((get_or text 0 0 == 48) && are_zeros (drop 2 text)) ≡ (are_zeros (whole_digits text) && are_zeros (fraction_digits text))
plain_zero [] n l m e h = absurd (omega arith)
plain_zero (w ∷ []) n l m e h = absurd (omega arith)
plain_zero (w ∷ c ∷ ds) n l m e h =
    subst (λ (x : ℕ). ((w == 48) && are_zeros ds) ≡ (are_zeros (whole_digits (w ∷ x ∷ ds)) && are_zeros (fraction_digits (w ∷ x ∷ ds)))) (sym e) (zero_by_parts w ds l m h)
