-- Comparing a name with a text byte by byte, and the bytes of a character.
use Rattle.std.proofs.Common.{◌≡◌, ℕ, ◌+◌, ◌/◌, ◌%◌, ◌<◌, ◌≤◌, Bool, true, false, not, List, [], ◌∷◌, Option, Some, is_some, length, drop, get_or, refl, ap, sym, ◌∙◌, arith, nat_eq, nat_lt, drop-cons, add-one}
use Rattle.std.specs.Char.{encode_utf8}
use Rattle.std.specs.Option.{option_eq}
use Rattle.std.proofs.lemmas.List.{drop_all}
use Rattle.std.proofs.lemmas.Bool.{le-ltb, lt-ltb}
use Rattle.std.proofs.lemmas.Bool.Decides.{nat_tests}
use Rattle.vs_defs.specs.Bytes.{same_name, first_in}

-- ---- the bytes of a character

pub encode_two : (c : ℕ) → 128 ≤ c → c < 2048 → ((192 + c / 64) ∷ (128 + c % 64) ∷ []) ≡ encode_utf8 c
unfolding encode_utf8
encode_two c h g =
    let a : nat_lt c 128 ≡ false = le-ltb c 128 h in
    let b : nat_lt c 2048 ≡ true = lt-ltb c 2048 g in
    rw (a, b) refl

pub encode_three : (c : ℕ) → 2048 ≤ c → c < 65536 → ((224 + c / 4096) ∷ (128 + c / 64 % 64) ∷ (128 + c % 64) ∷ []) ≡ encode_utf8 c
unfolding encode_utf8
encode_three c h g =
    let a : nat_lt c 128 ≡ false = le-ltb c 128 (omega arith) in
    let b : nat_lt c 2048 ≡ false = le-ltb c 2048 h in
    let d : nat_lt c 65536 ≡ true = lt-ltb c 65536 g in
    rw (a, b, d) refl

pub encode_four : (c : ℕ) → 65536 ≤ c → ((240 + c / 262144) ∷ (128 + c / 4096 % 64) ∷ (128 + c / 64 % 64) ∷ (128 + c % 64) ∷ []) ≡ encode_utf8 c
unfolding encode_utf8
encode_four c h =
    let a : nat_lt c 128 ≡ false = le-ltb c 128 (omega arith) in
    let b : nat_lt c 2048 ≡ false = le-ltb c 2048 (omega arith) in
    let d : nat_lt c 65536 ≡ false = le-ltb c 65536 h in
    rw (a, b, d) refl

-- ---- names

first_other : (x c : ℕ) → not (nat_eq c x) ≡ true → nat_eq x c ≡ false
first_other x c h = grind (arith, nat_tests)

first_same : (x c : ℕ) → not (nat_eq c x) ≡ false → nat_eq x c ≡ true
first_same x c h = grind (arith, nat_tests)

other : (x : ℕ) (ds text : List ℕ) → not (option_eq nat_eq (first_in text) (Some x)) ≡ true → same_name (x ∷ ds) text ≡ false
other x ds [] h = refl
other x ds (c ∷ cs) h = rw (first_other x c h) refl

same : (x : ℕ) (ds text : List ℕ) → not (option_eq nat_eq (first_in text) (Some x)) ≡ false → same_name ds (drop 1 text) ≡ same_name (x ∷ ds) text
same x ds [] h = absurd (cc)
same x ds (c ∷ cs) h = rw (first_same x c h) refl

rest_at : (name : List ℕ) (i : ℕ) → i < length name → drop i name ≡ get_or name i 0 ∷ drop (i + 1) name
rest_at name i h = rw add-one (drop-cons name i 0 h)

pub compared_other : (name text : List ℕ) (i : ℕ) → i < length name → (r : Option ℕ) → r ≡ first_in text → not (option_eq nat_eq r (Some (get_or name i 0))) ≡ true → same_name (drop i name) text ≡ false
compared_other name text i h r e d =
    ap (λ n. same_name n text) (rest_at name i h) ∙ other (get_or name i 0) (drop (i + 1) name) text (rw e at d)

pub compared_same : (name text : List ℕ) (i : ℕ) → i < length name → (r : Option ℕ) → r ≡ first_in text → not (option_eq nat_eq r (Some (get_or name i 0))) ≡ false → same_name (drop (i + 1) name) (drop 1 text) ≡ same_name (drop i name) text
compared_same name text i h r e d =
    same (get_or name i 0) (drop (i + 1) name) text (rw e at d) ∙ sym (ap (λ n. same_name n text) (rest_at name i h))

at_end : (text : List ℕ) → not (is_some (first_in text)) ≡ same_name [] text
at_end [] = refl
at_end (c ∷ cs) = refl

pub compared_all : (name text : List ℕ) (i : ℕ) → length name ≤ i → (r : Option ℕ) → r ≡ first_in text → (b : Bool) → b ≡ not (is_some r) → b ≡ same_name (drop i name) text
compared_all name text i h r e b d =
    let none : drop i name ≡ [] = drop_all i name h in
    d ∙ ap (λ o. not (is_some o)) e ∙ at_end text ∙ sym (ap (λ n. same_name n text) none)

pub is_none_is : (b : Bool) (r : Option ℕ) → is_some r ≡ not b → b ≡ not (is_some r)
is_none_is true r e = ap not (sym e)
is_none_is false r e = ap not (sym e)
