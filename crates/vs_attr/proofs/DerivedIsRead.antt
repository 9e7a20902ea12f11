-- What the grammar derives is read by the definition's reader.
use Rattle.std.proofs.Common.{◌≡◌, ℕ, suc, ◌+◌, ◌-◌, ◌*◌, ◌≤◌, ◌==◌, Bool, true, false, cond, ◌||◌, List, [], ◌∷◌, ◌++◌, Option, Some, None, length, drop, take, refl, ap, sym, ◌∙◌, subst, arith, option_map, option_and_then, codes, nat_lt}
use Rattle.std.specs.Char.{is_ascii_digit}
use Rattle.std.proofs.lemmas.Bool.{eqb-true, false≢true, le-ltb}
use Rattle.std.proofs.lemmas.Bool.Decides.{nat_tests}
use Rattle.std.proofs.Math.Bool.{or-true}
use Rattle.vs_defs.specs.Limits.{max_json_depth}
use Rattle.vs_defs.specs.Bytes.{Bytes}
use Rattle.vs_defs.specs.Numeral as numeral
use Rattle.vs_defs.specs.Numeral.{begins_with, digits_of, after_digits, is_empty, without}
use Rattle.vs_defs.specs.Json as json
use Rattle.vs_defs.specs.Json.{Json, Items, Members, Front, Piece, bytes_of, is_space, skip_space, mark_at, is_whole_part, after_fraction, after_exponent, after_number, number_at, piece_at, escape_at, unit_at, code_unit, short_escape, whole_value, value_within, json_of}
use Rattle.vs_attr.specs.Reading.{pieces_at, value_at, items_at, members_at, rest_of, value_of, string_at, inner_at, member_at, value_from}
use Rattle.vs_attr.specs.Grammar as grammar
use Rattle.vs_attr.specs.Grammar.{Space, no_space, space, Mark, Digits, Whole, Fraction, Sign, Exponent, Unsigned, Number, Chars, Text, Value, Values, Pairs, Derived}
use Rattle.vs_attr.proofs.Strings.{inner_by, pieces_end, pieces_next}
use Rattle.vs_attr.proofs.Turns.{value_whole, items_is, members_is}
use Rattle.vs_attr.proofs.Bodies.{on_mark}
use Rattle.vs_attr.proofs.Values.{value_from_is, items_read, member_whole, members_at_comma, members_at_last}
use Rattle.vs_attr.proofs.FirstByte.{plain_number}
use Rattle.vs_attr.proofs.ReadIsDerived.{head_none, head_some, after_head, some_byte, number_taken}

-- ---- white space and marks

skip_same : {s r : Bytes} → Space s r → skip_space s ≡ skip_space r
skip_same no_space = refl
skip_same (space c e h) = rw e (skip_same h)

mark_same : {s r : Bytes} (b : ℕ) → Space s r → mark_at b s ≡ mark_at b r
mark_same b h = ap (λ t. cond (begins_with b t) (Some (drop 1 t)) None) (skip_same h)

value_same : {s r : Bytes} (d : ℕ) → Space s r → value_at d s ≡ value_at d r
value_same {s} {r} d h = value_from_is d s ∙ ap (value_from d) (skip_same h) ∙ sym (value_from_is d r)

items_same : {s r : Bytes} (d : ℕ) → Space s r → items_at d s ≡ items_at d r
items_same {s} {r} d h =
    items_is d s ∙ ap (λ o. json.then_read o λ j rest. on_mark (mark_at 44 rest) (λ more. option_map (λ q. (json.item j q.0, q.1)) (items_at d more)) (option_map (λ after. (json.item j json.no_items, after)) (mark_at 93 rest))) (value_same d h)
    ∙ sym (items_is d r)

members_same : {s r : Bytes} (d : ℕ) → Space s r → members_at d s ≡ members_at d r
members_same {s} {r} d h =
    members_is d s ∙ ap (option_and_then (λ begun.
    json.then_read (pieces_at begun) λ name rest.
    option_and_then (λ colon.
    json.then_read (value_at d colon) λ j rest. on_mark (mark_at 44 rest) (λ more. option_map (λ q. (json.member (bytes_of name) j q.0, q.1)) (members_at d more))
    (option_map (λ after. (json.member (bytes_of name) j json.no_members, after)) (mark_at 125 rest))) (mark_at 58 rest))) (mark_same 34 h)
    ∙ sym (members_is d r)

-- ---- what may follow a number: no byte that could continue it

abbrev Ends : Bytes → Type 0
Ends [] = Unit {0}
Ends (c ∷ cs) = (is_ascii_digit c ≡ false) × ((c == 46) ≡ false) × (((c == 101) || (c == 69)) ≡ false)

space_head : (c : ℕ) → is_space c ≡ true → (is_ascii_digit c ≡ false) × ((c == 46) ≡ false) × (((c == 101) || (c == 69)) ≡ false)
space_head c e = (grind (arith, nat_tests), grind (arith, nat_tests), grind (arith, nat_tests))

space_ends : {s r : Bytes} → Space s r → Ends r → Ends s
space_ends no_space e = e
space_ends (space c h g) e = space_head c h

ends_digits : (r : Bytes) → Ends r → digits_of r ≡ []
ends_digits [] e = refl
ends_digits (c ∷ cs) e = head_none c cs e.0

ends_fraction : (r : Bytes) → Ends r → after_fraction r ≡ Some r
ends_fraction [] e = refl
ends_fraction (c ∷ cs) e = rw e.1 refl

ends_exponent : (r : Bytes) → Ends r → after_exponent r ≡ Some r
ends_exponent [] e = refl
ends_exponent (c ∷ cs) e = rw e.2 refl

-- ---- numbers

digits_some : {s r : Bytes} → Digits s r → is_empty (digits_of s) ≡ false
digits_some (grammar.digit {r} c e) = ap is_empty (head_some c r e) ∙ some_byte c (digits_of r)
digits_some (grammar.digits {s} {r} c e h) = ap is_empty (head_some c s e) ∙ some_byte c (digits_of s)

digits_after : {s r : Bytes} → Digits s r → digits_of r ≡ [] → after_digits s ≡ r
digits_after (grammar.digit {r} c e) n = after_head c r e ∙ ap (λ ds. drop (length ds) r) n
digits_after (grammar.digits {s} {r} c e h) n = after_head c s e ∙ digits_after h n

-- after digits, a fraction or an exponent may stand
abbrev NoDigits : Bytes → Type 0
NoDigits r = digits_of r ≡ []

exponent_start : (c : ℕ) (s : Bytes) → ((c == 101) || (c == 69)) ≡ true → is_ascii_digit c ≡ false
exponent_start c s e = grind (arith, nat_tests)

exponent_no_point : (c : ℕ) → ((c == 101) || (c == 69)) ≡ true → (c == 46) ≡ false
exponent_no_point c e = grind (arith, nat_tests)

exponent_digits : {u r : Bytes} → Exponent u r → Ends r → NoDigits u
exponent_digits (grammar.no_exponent {r}) n = ends_digits r n
exponent_digits (grammar.exponent {s} c e a h) n = head_none c s (exponent_start c s e)

exponent_fraction : {u r : Bytes} → Exponent u r → Ends r → after_fraction u ≡ Some u
exponent_fraction (grammar.no_exponent {r}) n = ends_fraction r n
exponent_fraction (grammar.exponent {s} c e a h) n = rw (exponent_no_point c e) refl

fraction_digits : {t u r : Bytes} → Fraction t u → Exponent u r → Ends r → NoDigits t
fraction_digits grammar.no_fraction x n = exponent_digits x n
fraction_digits (grammar.fraction h) x n = refl

fraction_end : {t u r : Bytes} → Fraction t u → Exponent u r → Ends r → after_fraction t ≡ Some u
fraction_end grammar.no_fraction x n = exponent_fraction x n
fraction_end (grammar.fraction h) x n = rw (digits_some h, digits_after h (exponent_digits x n)) refl

digit_no_sign : (c : ℕ) → is_ascii_digit c ≡ true → ((c == 43) || (c == 45)) ≡ false
digit_no_sign c e = grind (arith, nat_tests)

sign_end : {s t r : Bytes} → Sign s t → Digits t r → numeral.unsigned s ≡ t
sign_end grammar.no_sign (grammar.digit c e) = rw (digit_no_sign c e) refl
sign_end grammar.no_sign (grammar.digits c e h) = rw (digit_no_sign c e) refl
sign_end (grammar.sign c e) h = rw e refl

exponent_end : {u r : Bytes} → Exponent u r → Ends r → after_exponent u ≡ Some r
exponent_end (grammar.no_exponent {r}) n = ends_exponent r n
exponent_end (grammar.exponent {s} {t} {r} c e a h) n =
    let g : numeral.unsigned s ≡ t = sign_end a h in
    rw (e, g, digits_some h, digits_after h (ends_digits r n)) refl

whole_test : (c : ℕ) (s : Bytes) → (c == 48) ≡ false → is_ascii_digit c ≡ true → is_whole_part (digits_of (c ∷ s)) ≡ true
whole_test c s z e = ap is_whole_part (head_some c s e) ∙ rw z refl

first_of : {t r : Bytes} → Digits t r → (c : ℕ) (s : Bytes) → t ≡ c ∷ s → is_ascii_digit c ≡ true
first_of (grammar.digit d e) c s g = let k : d ≡ c = cc in subst (λ x. is_ascii_digit x ≡ true) k e
first_of (grammar.digits d e h) c s g = let k : d ≡ c = cc in subst (λ x. is_ascii_digit x ≡ true) k e

whole_end : {s t : Bytes} → Whole s t → NoDigits t → (is_whole_part (digits_of s) ≡ true) × (after_digits s ≡ t)
whole_end (grammar.zero_alone {r}) n =
    (ap is_whole_part (head_some 48 r refl ∙ ap (λ ds. 48 ∷ ds) n), after_head 48 r refl ∙ ap (λ ds. drop (length ds) r) n)
whole_end (grammar.first_digit {s} {r} c z h) n = (whole_test c s z (first_of h c s refl), digits_after h n)

unsigned_end : {s r : Bytes} → Unsigned s r → Ends r → cond (is_whole_part (digits_of s)) (option_and_then after_exponent (after_fraction (after_digits s))) None ≡ Some r
unsigned_end (grammar.unsigned {s} {t} {u} {r} w f x) n =
    let h : (is_whole_part (digits_of s) ≡ true) × (after_digits s ≡ t) = whole_end w (fraction_digits f x n) in
    ap (λ v. cond v (option_and_then after_exponent (after_fraction (after_digits s))) None) h.0
    ∙ ap (λ y. option_and_then after_exponent (after_fraction y)) h.1
    ∙ ap (option_and_then after_exponent) (fraction_end f x n) ∙ exponent_end x n

digit_no_minus : (c : ℕ) → is_ascii_digit c ≡ true → (c == 45) ≡ false
digit_no_minus c e = grind (arith, nat_tests)

whole_no_minus : {s t : Bytes} → Whole s t → without 45 s ≡ s
whole_no_minus grammar.zero_alone = refl
whole_no_minus (grammar.first_digit {s} c z h) = rw (digit_no_minus c (first_of h c s refl)) refl

number_end : {s r : Bytes} → Number s r → Ends r → after_number s ≡ Some r
number_end (grammar.plus {s} {r} (grammar.unsigned w f x)) n =
    ap (λ body. cond (is_whole_part (digits_of body)) (option_and_then after_exponent (after_fraction (after_digits body))) None) (whole_no_minus w) ∙ unsigned_end (grammar.unsigned w f x) n
number_end (grammar.minus h) n = unsigned_end h n

-- a number begins with a digit or with a minus sign
abbrev NumberHead : ℕ → Type 0
NumberHead c = ((c == 45) || is_ascii_digit c) ≡ true

digit_head : (c : ℕ) → is_ascii_digit c ≡ true → NumberHead c
digit_head c e = rw e (or-true (c == 45))

number_first : {s r : Bytes} → Number s r → (c : ℕ) × (t : Bytes) × (s ≡ c ∷ t) × NumberHead c
number_first (grammar.plus (grammar.unsigned (grammar.zero_alone {r}) f x)) = (48, r, refl, refl)
number_first (grammar.plus (grammar.unsigned (grammar.first_digit {s} c z h) f x)) = (c, s, refl, digit_head c (first_of h c s refl))
number_first (grammar.minus {s} h) = (45, s, refl, refl)

head_not_by : (c b : ℕ) (v : Bool) → (c == b) ≡ v → NumberHead c → ((b == 45) || is_ascii_digit b) ≡ false → v ≡ false
head_not_by c b false e h g = refl
head_not_by c b true e h g =
    let k : c ≡ b = eqb-true c b e in
    absurd (false≢true (sym g ∙ subst (λ x. ((x == 45) || is_ascii_digit x) ≡ true) k h))

head_not : (c b : ℕ) → NumberHead c → ((b == 45) || is_ascii_digit b) ≡ false → (c == b) ≡ false
head_not c b h g = head_not_by c b (c == b) refl h g

head_no_space : (c : ℕ) → NumberHead c → is_space c ≡ false
head_no_space c h = rw (head_not c 32 h refl, head_not c 9 h refl, head_not c 10 h refl, head_not c 13 h refl) refl

number_value : (d c : ℕ) (t : Bytes) → NumberHead c → value_at d (c ∷ t) ≡ number_at (c ∷ t)
number_value d c t h =
    value_from_is d (c ∷ t) ∙ ap (λ v. value_from d (cond v (skip_space t) (c ∷ t))) (head_no_space c h)
    ∙ rw (head_not c 34 h refl, head_not c 91 h refl, head_not c 123 h refl) (plain_number c t (head_not c 110 h refl) (head_not c 116 h refl) (head_not c 102 h refl))

number_closes : (b c : ℕ) (t : Bytes) → NumberHead c → ((b == 45) || is_ascii_digit b) ≡ false → mark_at b (c ∷ t) ≡ None
number_closes b c t h g =
    ap (λ v. cond (begins_with b (cond v (skip_space t) (c ∷ t))) (Some (drop 1 (cond v (skip_space t) (c ∷ t)))) None) (head_no_space c h)
    ∙ ap (λ v. cond v (Some t) None) (head_not c b h g)

number_done : (d : ℕ) (n r : Bytes) → Number (n ++ r) r → Ends r → value_at d (n ++ r) ≡ Some (json.Number n, r)
number_done d n r h e =
    let f : (c : ℕ) × (t : Bytes) × ((n ++ r) ≡ c ∷ t) × NumberHead c = number_first h in
    subst (λ s. value_at d s ≡ number_at s) (sym f.2) (number_value d f.0 f.1 f.3)
    ∙ ap (option_map (λ rest. (json.Number (take (length (n ++ r) - length rest) (n ++ r)), rest))) (number_end h e)
    ∙ ap (λ m. Some (json.Number m, r)) (number_taken n r)

-- ---- texts

inner_plain : (c : ℕ) (s : Bytes) → 32 ≤ c → (c == 34) ≡ false → (c == 92) ≡ false → inner_at (c ∷ s) ≡ Some (json.plain c, s)
inner_plain c s l q b =
    ap (λ v. inner_by v (piece_at (c ∷ s))) q ∙ ap (λ v. cond v (escape_at s) (cond (nat_lt c 32) None (Some (json.plain c, s)))) b
    ∙ ap (λ v. cond v None (Some (json.plain c, s))) (le-ltb c 32 l)

inner_short : (c b : ℕ) (s : Bytes) → (c == 117) ≡ false → short_escape c ≡ Some b → inner_at (92 ∷ c ∷ s) ≡ Some (json.plain b, s)
inner_short c b s n e =
    ap (λ v. cond v (unit_at s) (option_map (λ x. (json.plain x, s)) (short_escape c))) n ∙ ap (option_map (λ x. (json.plain x, s))) e

inner_unit : (a b c d u : ℕ) (s : Bytes) → code_unit a b c d ≡ Some u → inner_at (92 ∷ 117 ∷ a ∷ b ∷ c ∷ d ∷ s) ≡ Some (json.unit u, s)
inner_unit a b c d u s e = ap (option_map (λ x. (json.unit x, s))) e

chars_read : {ps : List Piece} {s e : Bytes} → Chars ps s e → (r : Bytes) → e ≡ 34 ∷ r → pieces_at s ≡ Some (ps, r)
chars_read grammar.no_chars r g = ap pieces_at g ∙ pieces_end r
chars_read (grammar.unescaped {ps} {s} c l q b h) r g =
    pieces_next (c ∷ s) (json.plain c, s) (inner_plain c s l q b) ∙ ap (option_map (λ x. (json.plain c ∷ x.0, x.1))) (chars_read h r g)
chars_read (grammar.escaped {ps} {s} c b n k h) r g =
    pieces_next (92 ∷ c ∷ s) (json.plain b, s) (inner_short c b s n k) ∙ ap (option_map (λ x. (json.plain b ∷ x.0, x.1))) (chars_read h r g)
chars_read (grammar.unit_escaped {ps} {s} a b c d u k h) r g =
    pieces_next (92 ∷ 117 ∷ a ∷ b ∷ c ∷ d ∷ s) (json.unit u, s) (inner_unit a b c d u s k) ∙ ap (option_map (λ x. (json.unit u ∷ x.0, x.1))) (chars_read h r g)

-- ---- values, items and members

-- no bracket or brace closes where a value begins
value_opens : {d : ℕ} {j : Json} {s r : Bytes} → Value d j s r → mark_at 93 s ≡ None
value_opens grammar.null = refl
value_opens grammar.true_word = refl
value_opens grammar.false_word = refl
value_opens (grammar.number {d} {r} n h) =
    let f : (c : ℕ) × (t : Bytes) × ((n ++ r) ≡ c ∷ t) × NumberHead c = number_first h in
    ap (mark_at 93) f.2 ∙ number_closes 93 f.0 f.1 f.3 refl
value_opens (grammar.string t) = ap (mark_at 93) t.1
value_opens (grammar.empty_array a b) = mark_same 93 a.1
value_opens (grammar.array a v b) = mark_same 93 a.1
value_opens (grammar.empty_object a b) = mark_same 93 a.1
value_opens (grammar.object a v b) = mark_same 93 a.1

values_open : {d : ℕ} {js : Items} {s r : Bytes} → Values d js s r → mark_at 93 s ≡ None
values_open (grammar.value h) = value_opens h
values_open (grammar.values h m v) = value_opens h

pairs_open : {d : ℕ} {ms : Members} {s r : Bytes} → Pairs d ms s r → mark_at 125 s ≡ None
pairs_open (grammar.pair t c h) = ap (mark_at 125) t.1
pairs_open (grammar.pairs t c h m v) = ap (mark_at 125) t.1

abbrev Done : ℕ → Json → Bytes → Bytes → Type 0
Done d j s r = (q : Bytes) × (value_at d s ≡ Some (j, q)) × Space q r

abbrev array_by : ℕ → Bytes → Option Bytes → Front Json
array_by d inside o = elim o [ Some rest ↦ Some (json.Array json.no_items, rest) | None ↦ option_map (λ q. (json.Array q.0, q.1)) (items_at d inside) ]

abbrev object_by : ℕ → Bytes → Option Bytes → Front Json
object_by d inside o = elim o [ Some rest ↦ Some (json.Object json.no_members, rest) | None ↦ option_map (λ q. (json.Object q.0, q.1)) (members_at d inside) ]

abbrev items_end : ℕ → Json → Option Bytes → Option Bytes → Front Items
items_end d j comma end = on_mark comma (λ more. option_map (λ q. (json.item j q.0, q.1)) (items_at d more)) (option_map (λ after. (json.item j json.no_items, after)) end)

items_last : (d : ℕ) (s t q : Bytes) (j : Json) → value_at d s ≡ Some (j, q) → mark_at 44 q ≡ None → mark_at 93 q ≡ Some t → items_at d s ≡ Some (json.item j json.no_items, t)
items_last d s t q j v a b = items_read d s (j, q) v ∙ ap (λ o. items_end d j o (mark_at 93 q)) a ∙ ap (λ o. items_end d j None o) b

items_more : (d : ℕ) (s t p q : Bytes) (j : Json) (js : Items) → value_at d s ≡ Some (j, q) → mark_at 44 q ≡ Some p → items_at d p ≡ Some (js, t) → items_at d s ≡ Some (json.item j js, t)
items_more d s t p q j js v a b =
    items_read d s (j, q) v ∙ ap (λ o. items_end d j o (mark_at 93 q)) a ∙ ap (option_map (λ x. (json.item j x.0, x.1))) b

name_is : (b t : Bytes) (n : List Piece) → pieces_at b ≡ Some (n, t) → string_at b ≡ bytes_of n
unfolding string_at
name_is b t n e = ap (λ o. option_and_then bytes_of (value_of o)) e

member_done : {n : List Piece} {s t u : Bytes} (x : Text n s t) (c : Mark 58 t u) → member_at s ≡ Some (x.0, c.0)
member_done {n} {s} {t} {u} x c = member_whole s x.0 t c.0 (ap (mark_at 34) x.1) (ap rest_of (chars_read x.2 t refl)) (mark_same 58 c.1)

mutual
  value_done : {d : ℕ} {j : Json} {s r : Bytes} → Value d j s r → Ends r → Done d j s r
  value_done (grammar.null {d} {r}) n = (r, value_from_is d (codes "null" ++ r), no_space)
  value_done (grammar.true_word {d} {r}) n = (r, value_from_is d (codes "true" ++ r), no_space)
  value_done (grammar.false_word {d} {r}) n = (r, value_from_is d (codes "false" ++ r), no_space)
  value_done (grammar.number {d} {r} m h) n = (r, number_done d m r h n, no_space)
  value_done (grammar.string {d} {ps} {s} {r} x) n =
      (r, ap (value_at d) x.1 ∙ value_from_is d (34 ∷ x.0) ∙ ap (option_map (λ q. (json.Text (bytes_of q.0), q.1))) (chars_read x.2 r refl), no_space)
  value_done (grammar.empty_array {d} {s} {t} {r} a b) n =
      (b.0, value_same (suc d) a.1 ∙ value_from_is (suc d) (91 ∷ a.0) ∙ ap (array_by d a.0) (mark_same 93 a.2 ∙ mark_same 93 b.1), b.2)
  value_done (grammar.array {d} {js} {s} {t} {u} {r} a v b) n = (
    b.0,
    value_same (suc d) a.1 ∙ value_from_is (suc d) (91 ∷ a.0) ∙ ap (array_by d a.0) (mark_same 93 a.2 ∙ values_open v)
        ∙ ap (option_map (λ q. (json.Array q.0, q.1))) (items_same d a.2 ∙ values_done v b.0 b.1),
    b.2,
  )
  value_done (grammar.empty_object {d} {s} {t} {r} a b) n =
      (b.0, value_same (suc d) a.1 ∙ value_from_is (suc d) (123 ∷ a.0) ∙ ap (object_by d a.0) (mark_same 125 a.2 ∙ mark_same 125 b.1), b.2)
  value_done (grammar.object {d} {ms} {s} {t} {u} {r} a v b) n = (
    b.0,
    value_same (suc d) a.1 ∙ value_from_is (suc d) (123 ∷ a.0) ∙ ap (object_by d a.0) (mark_same 125 a.2 ∙ pairs_open v)
        ∙ ap (option_map (λ q. (json.Object q.0, q.1))) (members_same d a.2 ∙ pairs_done v b.0 b.1),
    b.2,
  )

  values_done : {d : ℕ} {js : Items} {s u : Bytes} → Values d js s u → (t : Bytes) → Space u (93 ∷ t) → items_at d s ≡ Some (js, t)
  values_done (grammar.value {d} {j} {s} {r} h) t e =
      let w : Done d j s r = value_done h (space_ends e (refl, refl, refl)) in
      items_last d s t w.0 j w.1 (mark_same 44 w.2 ∙ mark_same 44 e) (mark_same 93 w.2 ∙ mark_same 93 e)
  values_done (grammar.values {d} {j} {js} {s} {t = v} {u} {r} h m k) t e =
      let w : Done d j s v = value_done h (space_ends m.1 (refl, refl, refl)) in
      items_more d s t m.0 w.0 j js w.1 (mark_same 44 w.2 ∙ mark_same 44 m.1) (items_same d m.2 ∙ values_done k t e)

  pairs_done : {d : ℕ} {ms : Members} {s u : Bytes} → Pairs d ms s u → (t : Bytes) → Space u (125 ∷ t) → members_at d s ≡ Some (ms, t)
  pairs_done (grammar.pair {d} {n} {j} {s} {t = v} {u} {r} x c h) t e =
      let w : Done d j u r = value_done h (space_ends e (refl, refl, refl)) in
      members_at_last d s x.0 c.0 w.0 j (member_done x c) (value_same d c.2 ∙ w.1) (mark_same 44 w.2 ∙ mark_same 44 e)
      ∙ ap (option_map (λ after. (json.member (string_at x.0) j json.no_members, after))) (mark_same 125 w.2 ∙ mark_same 125 e)
      ∙ ap (λ y. Some (json.member y j json.no_members, t)) (name_is x.0 v n (chars_read x.2 v refl))
  pairs_done (grammar.pairs {d} {n} {j} {ms} {s} {t = v} {u} {v = l} {r} x c h m k) t e =
      let w : Done d j u l = value_done h (space_ends m.1 (refl, refl, refl)) in
      members_at_comma d s x.0 c.0 w.0 m.0 j (member_done x c) (value_same d c.2 ∙ w.1) (mark_same 44 w.2 ∙ mark_same 44 m.1)
      ∙ ap (option_map (λ q. (json.member (string_at x.0) j q.0, q.1))) (members_same d m.2 ∙ pairs_done k t e)
      ∙ ap (λ z. Some (json.member z j ms, t)) (name_is x.0 v n (chars_read x.2 v refl))

-- ---- whole texts

abbrev json_by : Bool → Bytes → Option Json
json_by v s = elim v [ true ↦ whole_value (value_within (2 * length s + 2) max_json_depth s) | false ↦ None ]

pub derived_is_read : (s : Bytes) (j : Json) → Derived s j → json_of s ≡ Some j
derived_is_read s j h =
    let w : Done max_json_depth j h.at h.rest = value_done h.spelled (space_ends h.after tt) in
    ap (λ v. json_by v s) h.utf8 ∙ ap whole_value (value_whole max_json_depth s ∙ value_same max_json_depth h.before ∙ w.1)
    ∙ ap (λ t. cond (is_empty t) (Some j) None) (skip_same w.2 ∙ skip_same h.after)
