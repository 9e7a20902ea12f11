-- What the definition's reader reads is derived by the grammar.
use Rattle.std.proofs.Common.{◌≡◌, ℕ, zero, suc, ◌+◌, ◌-◌, ◌*◌, ◌==◌, Bool, true, false, cond, not, ◌||◌, ◌⊎◌, inl, inr, List, [], ◌∷◌, ◌++◌, Option, Some, None, length, drop, take, refl, ap, sym, ◌∙◌, subst, arith, option_map, option_and_then, codes, nat_eq, nat_lt, append_assoc, length-append}
use Rattle.std.specs.List.{starts_with, prefix_len}
use Rattle.std.specs.Char.{is_ascii_digit}
use Rattle.std.specs.Str.{is_utf8}
use Rattle.std.proofs.lemmas.Bool.{eqb-true, false≢true, ltb-false}
use Rattle.std.proofs.lemmas.Bool.Decides.{nat_tests}
use Rattle.std.proofs.lemmas.List.{take-append-drop, take_at}
use lib.Pointwise.{bytes_decides}
use Rattle.vs_defs.specs.Limits.{max_json_depth}
use Rattle.vs_defs.specs.Bytes.{Bytes}
use Rattle.vs_defs.specs.Numeral as numeral
use Rattle.vs_defs.specs.Numeral.{digits_of, after_digits, is_empty}
use Rattle.vs_defs.specs.Json as json
use Rattle.vs_defs.specs.Json.{Json, Items, Members, Front, Piece, bytes_of, is_space, skip_space, mark_at, is_whole_part, after_fraction, after_exponent, after_number, piece_at, escape_at, unit_at, code_unit, short_escape, plain_value_at, word_at, or_front, pieces_within, value_within, items_within, members_within, whole_value, json_of}
use Rattle.vs_attr.specs.Grammar as grammar
use Rattle.vs_attr.specs.Grammar.{Space, no_space, space, Digits, Whole, Fraction, Sign, Exponent, Unsigned, Number, Chars, Value, Values, Pairs, Derived}
use Rattle.vs_attr.proofs.Bodies.{on_mark, on_depth, value_body, items_body, members_body}
use Rattle.vs_attr.proofs.FirstByte.{head_hit}

-- ---- white space and marks

skip_by : (c : ℕ) (cs : Bytes) (v : Bool) → is_space c ≡ v → Space cs (skip_space cs) → Space (c ∷ cs) (cond v (skip_space cs) (c ∷ cs))
skip_by c cs true e h = space c e h
skip_by c cs false e h = no_space

pub skipped : (t : Bytes) → Space t (skip_space t)
skipped [] = no_space
skipped (c ∷ cs) = skip_by c cs (is_space c) refl (skipped cs)

pub marked : (b : ℕ) (t r : Bytes) → mark_at b t ≡ Some r → Space t (b ∷ r)
marked b t r e = subst (Space t) (head_hit b (skip_space t) r e) (skipped t)

-- ---- digits

suc_test : (n : ℕ) → (suc n == 0) ≡ false
suc_test n = grind (arith, nat_tests)

pub some_byte : (c : ℕ) (cs : Bytes) → is_empty (c ∷ cs) ≡ false
some_byte c cs = suc_test (length cs)

no_bytes : (t : Bytes) → is_empty t ≡ true → t ≡ []
no_bytes [] e = refl
no_bytes (c ∷ cs) e = absurd (false≢true (sym (some_byte c cs) ∙ e))

take_one : (n c : ℕ) (cs : Bytes) → take (1 + n) (c ∷ cs) ≡ c ∷ take n cs
take_one n c cs = let one : 1 + n ≡ suc n = omega arith in rw one refl

pub head_none : (c : ℕ) (cs : Bytes) → is_ascii_digit c ≡ false → digits_of (c ∷ cs) ≡ []
head_none c cs e = rw e refl

pub head_some : (c : ℕ) (cs : Bytes) → is_ascii_digit c ≡ true → digits_of (c ∷ cs) ≡ c ∷ digits_of cs
head_some c cs e = rw e (take_one (prefix_len is_ascii_digit cs) c cs)

pub after_head : (c : ℕ) (cs : Bytes) → is_ascii_digit c ≡ true → after_digits (c ∷ cs) ≡ drop (length (digits_of cs)) cs
after_head c cs e = ap (λ ds. drop (length ds) (c ∷ cs)) (head_some c cs e)

by_digit : (c : ℕ) (cs : Bytes) (v : Bool) → is_ascii_digit c ≡ v → Digits cs (after_digits cs) ⊎ (digits_of cs ≡ []) → Digits (c ∷ cs) (after_digits (c ∷ cs)) ⊎ (digits_of (c ∷ cs) ≡ [])
by_digit c cs false e h = inr (head_none c cs e)
by_digit c cs true e (inl h) = inl (subst (Digits (c ∷ cs)) (sym (after_head c cs e)) (grammar.digits c e h))
by_digit c cs true e (inr n) = inl (subst (Digits (c ∷ cs)) (sym (after_head c cs e ∙ ap (λ ds. drop (length ds) cs) n)) (grammar.digit c e))

digits_cases : (t : Bytes) → Digits t (after_digits t) ⊎ (digits_of t ≡ [])
digits_cases [] = inr refl
digits_cases (c ∷ cs) = by_digit c cs (is_ascii_digit c) refl (digits_cases cs)

some_digits_by : (t : Bytes) → Digits t (after_digits t) ⊎ (digits_of t ≡ []) → is_empty (digits_of t) ≡ false → Digits t (after_digits t)
some_digits_by t (inl h) e = h
some_digits_by t (inr n) e = absurd (false≢true (sym e ∙ ap is_empty n))

some_digits : (t : Bytes) → is_empty (digits_of t) ≡ false → Digits t (after_digits t)
some_digits t e = some_digits_by t (digits_cases t) e

-- ---- numbers

whole_by : (c : ℕ) (cs : Bytes) (v : Bool) → is_ascii_digit c ≡ true → (c == 48) ≡ v → (not v || is_empty (digits_of cs)) ≡ true → Digits (c ∷ cs) (drop (length (digits_of cs)) cs) → Whole (c ∷ cs) (drop (length (digits_of cs)) cs)
whole_by c cs false d z e h = grammar.first_digit c z h
whole_by c cs true d z e h = rw (no_bytes (digits_of cs) e, eqb-true c 48 z) grammar.zero_alone

whole_head : (c : ℕ) (cs : Bytes) (v : Bool) → is_ascii_digit c ≡ v → is_whole_part (digits_of (c ∷ cs)) ≡ true → Whole (c ∷ cs) (after_digits (c ∷ cs))
whole_head c cs false d e = absurd (false≢true (sym (ap is_whole_part (head_none c cs d)) ∙ e))
whole_head c cs true d e =
    let w : (not (c == 48) || is_empty (digits_of cs)) ≡ true = sym (ap is_whole_part (head_some c cs d)) ∙ e in
    let h : Digits (c ∷ cs) (after_digits (c ∷ cs)) = some_digits (c ∷ cs) (ap is_empty (head_some c cs d) ∙ some_byte c (digits_of cs)) in
    subst (Whole (c ∷ cs)) (sym (after_head c cs d)) (whole_by c cs (c == 48) d refl w (subst (Digits (c ∷ cs)) (after_head c cs d) h))

whole_read : (t : Bytes) → is_whole_part (digits_of t) ≡ true → Whole t (after_digits t)
whole_read [] e = absurd (false≢true e)
whole_read (c ∷ cs) e = whole_head c cs (is_ascii_digit c) refl e

after_some : (t r : Bytes) (v : Bool) → is_empty (digits_of t) ≡ v → cond v None (Some (after_digits t)) ≡ Some r → Digits t r
after_some t r true e h = absurd (cc)
after_some t r false e h = let g : after_digits t ≡ r = cc in subst (Digits t) g (some_digits t e)

fraction_by : (c : ℕ) (cs r : Bytes) (v : Bool) → (c == 46) ≡ v → cond v (cond (is_empty (digits_of cs)) None (Some (after_digits cs))) (Some (c ∷ cs)) ≡ Some r → Fraction (c ∷ cs) r
fraction_by c cs r true e h = rw (eqb-true c 46 e) (grammar.fraction (after_some cs r (is_empty (digits_of cs)) refl h))
fraction_by c cs r false e h = let g : (c ∷ cs) ≡ r = cc in subst (Fraction (c ∷ cs)) g grammar.no_fraction

fraction_read : (t r : Bytes) → after_fraction t ≡ Some r → Fraction t r
fraction_read [] r h = let g : [] ≡ r = cc in subst (Fraction []) g grammar.no_fraction
fraction_read (c ∷ cs) r h = fraction_by c cs r (c == 46) refl h

sign_by : (c : ℕ) (cs : Bytes) (v : Bool) → ((c == 43) || (c == 45)) ≡ v → Sign (c ∷ cs) (cond v cs (c ∷ cs))
sign_by c cs true e = grammar.sign c e
sign_by c cs false e = grammar.no_sign

sign_read : (t : Bytes) → Sign t (numeral.unsigned t)
sign_read [] = grammar.no_sign
sign_read (c ∷ cs) = sign_by c cs ((c == 43) || (c == 45)) refl

exponent_by : (c : ℕ) (cs r : Bytes) (v : Bool) → ((c == 101) || (c == 69)) ≡ v → cond v (cond (is_empty (digits_of (numeral.unsigned cs))) None (Some (after_digits (numeral.unsigned cs)))) (Some (c ∷ cs)) ≡ Some r → Exponent (c ∷ cs) r
exponent_by c cs r true e h = grammar.exponent c e (sign_read cs) (after_some (numeral.unsigned cs) r (is_empty (digits_of (numeral.unsigned cs))) refl h)
exponent_by c cs r false e h = let g : (c ∷ cs) ≡ r = cc in subst (Exponent (c ∷ cs)) g grammar.no_exponent

exponent_read : (t r : Bytes) → after_exponent t ≡ Some r → Exponent t r
exponent_read [] r h = let g : [] ≡ r = cc in subst (Exponent []) g grammar.no_exponent
exponent_read (c ∷ cs) r h = exponent_by c cs r ((c == 101) || (c == 69)) refl h

parts_by : (t r : Bytes) (o : Option Bytes) → after_fraction (after_digits t) ≡ o → Whole t (after_digits t) → option_and_then after_exponent o ≡ Some r → Unsigned t r
parts_by t r None e w h = absurd (cc)
parts_by t r (Some u) e w h = grammar.unsigned w (fraction_read (after_digits t) u e) (exponent_read u r h)

unsigned_by : (t r : Bytes) (v : Bool) → is_whole_part (digits_of t) ≡ v → cond v (option_and_then after_exponent (after_fraction (after_digits t))) None ≡ Some r → Unsigned t r
unsigned_by t r true e h = parts_by t r (after_fraction (after_digits t)) refl (whole_read t e) h
unsigned_by t r false e h = absurd (cc)

number_by : (c : ℕ) (cs r : Bytes) (v : Bool) → (c == 45) ≡ v → (let body = cond v cs (c ∷ cs) in cond (is_whole_part (digits_of body)) (option_and_then after_exponent (after_fraction (after_digits body))) None) ≡ Some r → Number (c ∷ cs) r
number_by c cs r true e h = rw (eqb-true c 45 e) (grammar.minus (unsigned_by cs r (is_whole_part (digits_of cs)) refl h))
number_by c cs r false e h = grammar.plus (unsigned_by (c ∷ cs) r (is_whole_part (digits_of (c ∷ cs))) refl h)

pub number_read : (t r : Bytes) → after_number t ≡ Some r → Number t r
number_read [] r h = absurd (cc)
number_read (c ∷ cs) r h = number_by c cs r (c == 45) refl h

-- what a rule derives stands in front
abbrev Front_of : Bytes → Bytes → Type 0
Front_of s r = (n : Bytes) × (s ≡ n ++ r)

front_join : (s t r : Bytes) → Front_of s t → Front_of t r → Front_of s r
front_join s t r a b = (a.0 ++ b.0, a.1 ∙ ap (λ x. a.0 ++ x) b.1 ∙ sym (append_assoc a.0 b.0 r))

digits_front : {s r : Bytes} → Digits s r → Front_of s r
digits_front (grammar.digit c e) = (c ∷ [], refl)
digits_front (grammar.digits c e h) = let g = digits_front h in (c ∷ g.0, ap (λ x. c ∷ x) g.1)

whole_front : {s r : Bytes} → Whole s r → Front_of s r
whole_front grammar.zero_alone = (48 ∷ [], refl)
whole_front (grammar.first_digit c e h) = digits_front h

fraction_front : {s r : Bytes} → Fraction s r → Front_of s r
fraction_front grammar.no_fraction = ([], refl)
fraction_front (grammar.fraction h) = let g = digits_front h in (46 ∷ g.0, ap (λ x. 46 ∷ x) g.1)

sign_front : {s r : Bytes} → Sign s r → Front_of s r
sign_front grammar.no_sign = ([], refl)
sign_front (grammar.sign c e) = (c ∷ [], refl)

exponent_front : {s r : Bytes} → Exponent s r → Front_of s r
exponent_front grammar.no_exponent = ([], refl)
exponent_front (grammar.exponent {s} {t} {r} c e a h) =
    let g : Front_of s r = front_join s t r (sign_front a) (digits_front h) in
    (c ∷ g.0, ap (λ x. c ∷ x) g.1)

unsigned_front : {s r : Bytes} → Unsigned s r → Front_of s r
unsigned_front (grammar.unsigned {s} {t} {u} {r} w f x) = front_join s t r (whole_front w) (front_join t u r (fraction_front f) (exponent_front x))

number_front : {s r : Bytes} → Number s r → Front_of s r
number_front (grammar.plus h) = unsigned_front h
number_front (grammar.minus h) = let g = unsigned_front h in (45 ∷ g.0, ap (λ x. 45 ∷ x) g.1)

pub number_taken : (n r : Bytes) → take (length (n ++ r) - length r) (n ++ r) ≡ n
number_taken n r = take_at n r (length (n ++ r) - length r) (omega (arith, length-append n r))

-- ---- texts

abbrev pub Reads : {A : Type 0} → (A → Bytes → Type 0) → Front A → Type 0
Reads R None = Unit {0}
Reads R (Some p) = R p.0 p.1

Reads-more : {A : Type 0} (R S : A → Bytes → Type 0) (o : Front A) → Reads R o → ((x : A) (r : Bytes) → R x r → S x r) → Reads S o
Reads-more R S None h f = tt
Reads-more R S (Some p) h f = f p.0 p.1 h

map_reads : {A B : Type 0} (R : A → Bytes → Type 0) (S : B → Bytes → Type 0) (g : A → B) (o : Front A) → Reads R o → ((x : A) (r : Bytes) → R x r → S (g x) r) → Reads S (option_map (λ q. (g q.0, q.1)) o)
map_reads R S g None h f = tt
map_reads R S g (Some p) h f = f p.0 p.1 h

mark_map_reads : {B : Type 0} (S : B → Bytes → Type 0) (x : B) (o : Option Bytes) → ((r : Bytes) → o ≡ Some r → S x r) → Reads S (option_map (λ after. (x, after)) o)
mark_map_reads S x None f = tt
mark_map_reads S x (Some r) f = f r refl

bind_reads : {A B : Type 0} (R : A → Bytes → Type 0) (S : B → Bytes → Type 0) (o : Front A) (f : A → Bytes → Front B) → Reads R o → ((x : A) (r : Bytes) → R x r → Reads S (f x r)) → Reads S (json.then_read o f)
bind_reads R S None f h g = tt
bind_reads R S (Some p) f h g = g p.0 p.1 h

bind_mark_reads : {B : Type 0} (S : B → Bytes → Type 0) (o : Option Bytes) (f : Bytes → Front B) → ((r : Bytes) → o ≡ Some r → Reads S (f r)) → Reads S (option_and_then f o)
bind_mark_reads S None f g = tt
bind_mark_reads S (Some r) f g = g r refl

on_mark_reads : {B : Type 0} (S : B → Bytes → Type 0) (o : Option Bytes) (f : Bytes → Front B) (x : Front B) → ((r : Bytes) → o ≡ Some r → Reads S (f r)) → Reads S x → Reads S (on_mark o f x)
on_mark_reads S None f x g h = h
on_mark_reads S (Some r) f x g h = g r refl

or_reads : {A : Type 0} (R : A → Bytes → Type 0) (o p : Front A) → Reads R o → Reads R p → Reads R (or_front o p)
or_reads R None p h g = g
or_reads R (Some q) p h g = h

-- ---- pieces

-- a piece that was read can stand before more of them
abbrev PieceOk : Bytes → Front Piece → Type 0
PieceOk s None = Unit {0}
PieceOk s (Some p) = (ps : List Piece) (e : Bytes) → Chars ps p.1 e → Chars (p.0 ∷ ps) s e

unit_ok_by : (a b c d : ℕ) (rest : Bytes) (o : Option ℕ) → code_unit a b c d ≡ o → PieceOk (92 ∷ 117 ∷ a ∷ b ∷ c ∷ d ∷ rest) (option_map (λ u. (json.unit u, rest)) o)
unit_ok_by a b c d rest None e = tt
unit_ok_by a b c d rest (Some u) e = λ ps end h. grammar.unit_escaped a b c d u e h

unit_ok : (t : Bytes) → PieceOk (92 ∷ 117 ∷ t) (unit_at t)
unit_ok [] = tt
unit_ok (a ∷ []) = tt
unit_ok (a ∷ b ∷ []) = tt
unit_ok (a ∷ b ∷ c ∷ []) = tt
unit_ok (a ∷ b ∷ c ∷ d ∷ rest) = unit_ok_by a b c d rest (code_unit a b c d) refl

short_ok : (c : ℕ) (cs : Bytes) (o : Option ℕ) → (c == 117) ≡ false → short_escape c ≡ o → PieceOk (92 ∷ c ∷ cs) (option_map (λ b. (json.plain b, cs)) o)
short_ok c cs None n e = tt
short_ok c cs (Some b) n e = λ ps end h. grammar.escaped c b n e h

escape_ok_by : (c : ℕ) (cs : Bytes) (v : Bool) → (c == 117) ≡ v → PieceOk (92 ∷ c ∷ cs) (cond v (unit_at cs) (option_map (λ b. (json.plain b, cs)) (short_escape c)))
escape_ok_by c cs true e = subst (λ x. PieceOk (92 ∷ x ∷ cs) (unit_at cs)) (sym (eqb-true c 117 e)) (unit_ok cs)
escape_ok_by c cs false e = short_ok c cs (short_escape c) e refl

escape_ok : (t : Bytes) → PieceOk (92 ∷ t) (escape_at t)
escape_ok [] = tt
escape_ok (c ∷ cs) = escape_ok_by c cs (c == 117) refl

plain_ok : (c : ℕ) (cs : Bytes) (v : Bool) → (c == 34) ≡ false → (c == 92) ≡ false → nat_lt c 32 ≡ v → PieceOk (c ∷ cs) (cond v None (Some (json.plain c, cs)))
plain_ok c cs true q b e = tt
plain_ok c cs false q b e = λ ps end h. grammar.unescaped c (ltb-false c 32 e) q b h

piece_ok_by : (c : ℕ) (cs : Bytes) (v : Bool) → (c == 34) ≡ false → (c == 92) ≡ v → PieceOk (c ∷ cs) (cond v (escape_at cs) (cond (nat_lt c 32) None (Some (json.plain c, cs))))
piece_ok_by c cs true q e = subst (λ x. PieceOk (x ∷ cs) (escape_at cs)) (sym (eqb-true c 92 e)) (escape_ok cs)
piece_ok_by c cs false q e = plain_ok c cs (nat_lt c 32) q e refl

piece_ok : (c : ℕ) (cs : Bytes) → (c == 34) ≡ false → PieceOk (c ∷ cs) (piece_at (c ∷ cs))
piece_ok c cs q = piece_ok_by c cs (c == 92) q refl

abbrev CharsTo : Bytes → List Piece → Bytes → Type 0
CharsTo s ps r = Chars ps s (34 ∷ r)

cons_reads : (s t : Bytes) (p : Piece) (o : Front (List Piece)) → ((ps : List Piece) (e : Bytes) → Chars ps t e → Chars (p ∷ ps) s e) → Reads (CharsTo t) o → Reads (CharsTo s) (option_map (λ q. (p ∷ q.0, q.1)) o)
cons_reads s t p None f h = tt
cons_reads s t p (Some q) f h = f q.0 (34 ∷ q.1) h

more_reads : (s : Bytes) (P : Bytes → Front (List Piece)) (o : Front Piece) → PieceOk s o → ((t : Bytes) → Reads (CharsTo t) (P t)) → Reads (CharsTo s) (option_and_then (λ p. option_map (λ q. (p.0 ∷ q.0, q.1)) (P p.1)) o)
more_reads s P None h f = tt
more_reads s P (Some p) h f = cons_reads s p.1 p.0 (P p.1) h (f p.1)

abbrev pieces_choice : Bool → Bytes → Front (List Piece) → Front (List Piece)
pieces_choice v cs more = elim v [ true ↦ Some ([], cs) | false ↦ more ]

pieces_by : (c : ℕ) (cs : Bytes) (P : Bytes → Front (List Piece)) (v : Bool) → (c == 34) ≡ v → ((t : Bytes) → Reads (CharsTo t) (P t)) → Reads (CharsTo (c ∷ cs)) (pieces_choice v cs (option_and_then (λ p. option_map (λ q. (p.0 ∷ q.0, q.1)) (P p.1)) (piece_at (c ∷ cs))))
pieces_by c cs P true e f = subst (λ x. Chars [] (x ∷ cs) (34 ∷ cs)) (sym (eqb-true c 34 e)) grammar.no_chars
pieces_by c cs P false e f = more_reads (c ∷ cs) P (piece_at (c ∷ cs)) (piece_ok c cs e) f

pieces_read : (k : ℕ) (t : Bytes) → Reads (CharsTo t) (pieces_within k t)
pieces_read zero t = tt
pieces_read (suc k) [] = tt
pieces_read (suc k) (c ∷ cs) = pieces_by c cs (pieces_within k) (c == 34) refl (pieces_read k)

-- ---- plain values

word_split : (s w : Bytes) → starts_with nat_eq s w ≡ true → s ≡ w ++ drop (length w) s
word_split s w e =
    let h : w ≡ take (length w) s = (bytes_decides w (take (length w) s)).0 e in
    sym (ap (λ x. x ++ drop (length w) s) h ∙ take-append-drop (length w) s)

word_by : (d : ℕ) (w : Bytes) (j : Json) (s : Bytes) (v : Bool) → starts_with nat_eq s w ≡ v → ((r : Bytes) → Value d j (w ++ r) r) → Reads (λ i r. Value d i s r) (cond v (Some (j, drop (length w) s)) None)
word_by d w j s true e h = subst (λ x. Value d j x (drop (length w) s)) (sym (word_split s w e)) (h (drop (length w) s))
word_by d w j s false e h = tt

number_value : (d : ℕ) (s r : Bytes) → Number s r → Value d (json.Number (take (length s - length r) s)) s r
number_value d s r h =
    let f = number_front h in
    subst (λ x. Value d (json.Number (take (length x - length r) x)) x r) (sym f.1)
    (subst (λ m. Value d (json.Number m) (f.0 ++ r) r) (sym (number_taken f.0 r)) (grammar.number f.0 (subst (λ x. Number x r) f.1 h)))

number_reads : (d : ℕ) (s : Bytes) (o : Option Bytes) → after_number s ≡ o → Reads (λ i r. Value d i s r) (option_map (λ rest. (json.Number (take (length s - length rest) s), rest)) o)
number_reads d s None e = tt
number_reads d s (Some r) e = number_value d s r (number_read s r e)

plain_reads : (d : ℕ) (s : Bytes) → Reads (λ i r. Value d i s r) (plain_value_at s)
plain_reads d s =
    or_reads (λ i r. Value d i s r) (word_at (codes "null") json.Null s) _ (word_by d (codes "null") json.Null s (starts_with nat_eq s (codes "null")) refl (λ r. grammar.null))
    (or_reads (λ i r. Value d i s r) (word_at (codes "true") (json.Truth true) s) _ (word_by d (codes "true") (json.Truth true) s (starts_with nat_eq s (codes "true")) refl (λ r. grammar.true_word))
    (or_reads (λ i r. Value d i s r) (word_at (codes "false") (json.Truth false) s) _ (word_by d (codes "false") (json.Truth false) s (starts_with nat_eq s (codes "false")) refl (λ r. grammar.false_word))
    (number_reads d s (after_number s) refl)))

-- ---- values, items and members

abbrev SpacedValue : ℕ → Bytes → Json → Bytes → Type 0
SpacedValue d t j r = (s : Bytes) × Space t s × Value d j s r

abbrev ListEnd : ℕ → Bytes → Items → Bytes → Type 0
ListEnd d t js r = (s : Bytes) × (u : Bytes) × Space t s × Values d js s u × Space u (93 ∷ r)

abbrev PairsEnd : ℕ → Bytes → Members → Bytes → Type 0
PairsEnd d t ms r = (s : Bytes) × (u : Bytes) × Space t s × Pairs d ms s u × Space u (125 ∷ r)

array_reads : (I : ℕ → Bytes → Front Items) (t rest : Bytes) → mark_at 91 t ≡ Some rest → ((e : ℕ) (s : Bytes) → Reads (ListEnd e s) (I e s)) → (d : ℕ) → Reads (SpacedValue d t) (on_depth d (λ e. on_mark (mark_at 93 rest) (λ after. Some (json.Array json.no_items, after)) (option_map (λ q. (json.Array q.0, q.1)) (I e rest))))
array_reads I t rest m i zero = tt
array_reads I t rest m i (suc e) =
    on_mark_reads (SpacedValue (suc e) t) (mark_at 93 rest) (λ after. Some (json.Array json.no_items, after)) (option_map (λ q. (json.Array q.0, q.1)) (I e rest))
    (λ after h. (91 ∷ rest, marked 91 t rest m, grammar.empty_array (rest, no_space, no_space) (after, marked 93 rest after h, no_space)))
    (map_reads (ListEnd e rest) (SpacedValue (suc e) t) json.Array (I e rest) (i e rest)
    (λ js r h. (91 ∷ rest, marked 91 t rest m, grammar.array (rest, no_space, h.2) h.3 (r, h.4, no_space))))

object_reads : (M : ℕ → Bytes → Front Members) (t rest : Bytes) → mark_at 123 t ≡ Some rest → ((e : ℕ) (s : Bytes) → Reads (PairsEnd e s) (M e s)) → (d : ℕ) → Reads (SpacedValue d t) (on_depth d (λ e. on_mark (mark_at 125 rest) (λ after. Some (json.Object json.no_members, after)) (option_map (λ q. (json.Object q.0, q.1)) (M e rest))))
object_reads M t rest m i zero = tt
object_reads M t rest m i (suc e) =
    on_mark_reads (SpacedValue (suc e) t) (mark_at 125 rest) (λ after. Some (json.Object json.no_members, after)) (option_map (λ q. (json.Object q.0, q.1)) (M e rest))
    (λ after h. (123 ∷ rest, marked 123 t rest m, grammar.empty_object (rest, no_space, no_space) (after, marked 125 rest after h, no_space)))
    (map_reads (PairsEnd e rest) (SpacedValue (suc e) t) json.Object (M e rest) (i e rest)
    (λ ms r h. (123 ∷ rest, marked 123 t rest m, grammar.object (rest, no_space, h.2) h.3 (r, h.4, no_space))))

value_body_reads : (P : Bytes → Front (List Piece)) (I : ℕ → Bytes → Front Items) (M : ℕ → Bytes → Front Members) (d : ℕ) (t : Bytes) → ((s : Bytes) → Reads (CharsTo s) (P s)) → ((e : ℕ) (s : Bytes) → Reads (ListEnd e s) (I e s)) → ((e : ℕ) (s : Bytes) → Reads (PairsEnd e s) (M e s)) → Reads (SpacedValue d t) (value_body P I M d t)
value_body_reads P I M d t p i m =
    on_mark_reads (SpacedValue d t) (mark_at 34 t) _ _
    (λ rest e. map_reads (CharsTo rest) (SpacedValue d t) (λ ps. json.Text (bytes_of ps)) (P rest) (p rest) (λ ps r h. (34 ∷ rest, marked 34 t rest e, grammar.string (rest, refl, h))))
    (on_mark_reads (SpacedValue d t) (mark_at 91 t) _ _ (λ rest e. array_reads I t rest e i d)
    (on_mark_reads (SpacedValue d t) (mark_at 123 t) _ _ (λ rest e. object_reads M t rest e m d)
    (Reads-more (λ j r. Value d j (skip_space t) r) (SpacedValue d t) (plain_value_at (skip_space t)) (plain_reads d (skip_space t)) (λ j r h. (skip_space t, skipped t, h)))))

items_body_reads : (V : ℕ → Bytes → Front Json) (I : ℕ → Bytes → Front Items) (d : ℕ) (t : Bytes) → ((e : ℕ) (s : Bytes) → Reads (SpacedValue e s) (V e s)) → ((e : ℕ) (s : Bytes) → Reads (ListEnd e s) (I e s)) → Reads (ListEnd d t) (items_body V I d t)
items_body_reads V I d t v i =
    bind_reads (SpacedValue d t) (ListEnd d t) (V d t) _ (v d t)
    (λ j rest h. on_mark_reads (ListEnd d t) (mark_at 44 rest) _ _
    (λ more e. map_reads (ListEnd d more) (ListEnd d t) (json.item j) (I d more) (i d more) (λ js r g. (h.0, g.1, h.1, grammar.values h.2 (more, marked 44 rest more e, g.2) g.3, g.4)))
    (mark_map_reads (ListEnd d t) (json.item j json.no_items) (mark_at 93 rest) (λ after e. (h.0, rest, h.1, grammar.value h.2, marked 93 rest after e))))

members_body_reads : (P : Bytes → Front (List Piece)) (V : ℕ → Bytes → Front Json) (M : ℕ → Bytes → Front Members) (d : ℕ) (t : Bytes) → ((s : Bytes) → Reads (CharsTo s) (P s)) → ((e : ℕ) (s : Bytes) → Reads (SpacedValue e s) (V e s)) → ((e : ℕ) (s : Bytes) → Reads (PairsEnd e s) (M e s)) → Reads (PairsEnd d t) (members_body P V M d t)
members_body_reads P V M d t p v m =
    bind_mark_reads (PairsEnd d t) (mark_at 34 t) _ (λ begun e.
    bind_reads (CharsTo begun) (PairsEnd d t) (P begun) _ (p begun) (λ name rest c.
    bind_mark_reads (PairsEnd d t) (mark_at 58 rest) _ (λ colon f.
    bind_reads (SpacedValue d colon) (PairsEnd d t) (V d colon) _ (v d colon) (λ j last h.
    on_mark_reads (PairsEnd d t) (mark_at 44 last) _ _
    (λ more g. map_reads (PairsEnd d more) (PairsEnd d t) (json.member (bytes_of name) j) (M d more) (m d more)
    (λ ms r q. (34 ∷ begun, q.1, marked 34 t begun e, grammar.pairs (begun, refl, c) (colon, marked 58 rest colon f, h.1) h.2 (more, marked 44 last more g, q.2) q.3, q.4)))
    (mark_map_reads (PairsEnd d t) (json.member (bytes_of name) j json.no_members) (mark_at 125 last)
    (λ after g. (34 ∷ begun, last, marked 34 t begun e, grammar.pair (begun, refl, c) (colon, marked 58 rest colon f, h.1) h.2, marked 125 last after g)))))))

record AllRead (k : ℕ) : Type 0 where
  values : (d : ℕ) (t : Bytes) → Reads (SpacedValue d t) (value_within k d t)
  items : (d : ℕ) (t : Bytes) → Reads (ListEnd d t) (items_within k d t)
  members : (d : ℕ) (t : Bytes) → Reads (PairsEnd d t) (members_within k d t)

all_read : (k : ℕ) → AllRead k
all_read zero = record { values = λ d t. tt; items = λ d t. tt; members = λ d t. tt }
all_read (suc k) =
    let h : AllRead k = all_read k in
    record {
      values = λ d t. value_body_reads (pieces_within k) (items_within k) (members_within k) d t (pieces_read k) h.items h.members;
      items = λ d t. items_body_reads (value_within k) (items_within k) d t h.values h.items;
      members = λ d t. members_body_reads (pieces_within k) (value_within k) (members_within k) d t (pieces_read k) h.values h.members;
    }

-- ---- whole texts

whole_end : (s : Bytes) (j : Json) (p : Json × Bytes) (v : Bool) → is_utf8 s ≡ true → SpacedValue max_json_depth s p.0 p.1 → is_empty (skip_space p.1) ≡ v → cond v (Some p.0) None ≡ Some j → Derived s j
whole_end s j p false u h e f = absurd (cc)
whole_end s j p true u h e f =
    let g : p.0 ≡ j = cc in
    record {
      utf8 = u;
      at = h.0;
      rest = p.1;
      before = h.1;
      spelled = subst (λ i. Value max_json_depth i h.0 p.1) g h.2;
      after = subst (Space p.1) (no_bytes (skip_space p.1) e) (skipped p.1);
    }

whole_read_by : (s : Bytes) (j : Json) (o : Front Json) → is_utf8 s ≡ true → Reads (SpacedValue max_json_depth s) o → whole_value o ≡ Some j → Derived s j
whole_read_by s j None u h e = absurd (cc)
whole_read_by s j (Some p) u h e = whole_end s j p (is_empty (skip_space p.1)) u h refl e

abbrev json_by : Bool → Bytes → Option Json
json_by v s = elim v [ true ↦ whole_value (value_within (2 * length s + 2) max_json_depth s) | false ↦ None ]

read_by : (s : Bytes) (j : Json) (v : Bool) → is_utf8 s ≡ v → json_by v s ≡ Some j → Derived s j
read_by s j true u e = whole_read_by s j (value_within (2 * length s + 2) max_json_depth s) u ((all_read (2 * length s + 2)).values max_json_depth s) e
read_by s j false u e = absurd (cc)

pub read_is_derived : (s : Bytes) (j : Json) → json_of s ≡ Some j → Derived s j
read_is_derived s j e = read_by s j (is_utf8 s) refl e
