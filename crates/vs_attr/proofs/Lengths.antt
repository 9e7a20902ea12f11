-- What is read leaves no more than was there.
use Rattle.std.proofs.Common.{◌≡◌, ℕ, zero, suc, ◌<◌, ◌≤◌, ◌==◌, true, false, cond, ◌||◌, List, [], ◌∷◌, Option, Some, None, length, drop, ap, arith, option_map, option_and_then, codes, nat_lt}
use Rattle.std.specs.List.{starts_with}
use Rattle.std.specs.Bool.{nat_eq}
use Rattle.vs_defs.specs.Bytes.{Bytes}
use Rattle.vs_defs.specs.Numeral.{begins_with, without, unsigned, digits_of, after_digits, is_empty}
use Rattle.vs_defs.specs.Json.{Json, Null, Truth, Text, Array, Object, Items, no_items, item, Members, no_members, member, Front, Piece, plain, unit, mark_at, skip_space, is_space, piece_at, escape_at, unit_at, code_unit, short_escape, plain_value_at, word_at, or_front, after_number, after_fraction, after_exponent, is_whole_part, bytes_of, pieces_within, value_within, items_within, members_within}
use Rattle.vs_defs.proofs.StreamLaws.{drop_leaves}
use Rattle.vs_attr.proofs.Bodies.{on_mark, on_depth, value_body, items_body, members_body}

-- what is left, where something was read, has at most n bytes
abbrev pub Leaves : {A : Type 0} → ℕ → Front A → Type 0
Leaves n None = Unit {0}
Leaves n (Some p) = length p.1 ≤ n

-- the rest has fewer than n bytes
abbrev pub Short : ℕ → Option Bytes → Type 0
Short n None = Unit {0}
Short n (Some r) = length r < n

-- the rest has at most n bytes
abbrev pub Rest : ℕ → Option Bytes → Type 0
Rest n None = Unit {0}
Rest n (Some r) = length r ≤ n

-- ---- marks

pub skip_le : (t : Bytes) → length (skip_space t) ≤ length t
skip_le [] = omega arith
skip_le (c ∷ cs) =
    let h : length (skip_space cs) ≤ length cs = skip_le cs in
    elim (is_space c) as (λ v. length (cond v (skip_space cs) (c ∷ cs)) ≤ length (c ∷ cs)) [ true ↦ omega arith | false ↦ omega arith ]

Short-more : (m n : ℕ) (o : Option Bytes) → m ≤ n → Short m o → Short n o
Short-more m n None h s = tt
Short-more m n (Some r) h s = omega arith

short_head : (b : ℕ) (s : Bytes) → Short (length s) (cond (begins_with b s) (Some (drop 1 s)) None)
short_head b [] = tt
short_head b (c ∷ cs) = elim (c == b) as (λ v. Short (length (c ∷ cs)) (cond v (Some cs) None)) [ true ↦ omega arith | false ↦ tt ]

pub mark_short : (b : ℕ) (t : Bytes) → Short (length t) (mark_at b t)
mark_short b t = Short-more (length (skip_space t)) (length t) (mark_at b t) (skip_le t) (short_head b (skip_space t))

pub Short-at : (n : ℕ) (o : Option Bytes) (r : Bytes) → Short n o → o ≡ Some r → length r < n
Short-at n None r s e = absurd (cc)
Short-at n (Some q) r s e = let h : q ≡ r = cc in omega (arith, ap length h)

-- ---- the parts of a reader

pub Leaves-more : {A : Type 0} (m n : ℕ) (o : Front A) → m ≤ n → Leaves m o → Leaves n o
Leaves-more m n None h s = tt
Leaves-more m n (Some p) h s = omega arith

pub Leaves-at : {A : Type 0} (n : ℕ) (o : Front A) (p : A × Bytes) → Leaves n o → o ≡ Some p → length p.1 ≤ n
Leaves-at n None p s e = absurd (cc)
Leaves-at n (Some q) p s e = let h : q ≡ p = cc in omega (arith, ap (λ x. length x.1) h)

pub Leaves-map : {A B : Type 0} (n : ℕ) (o : Front A) (g : A → B) → Leaves n o → Leaves n (option_map (λ q. (g q.0, q.1)) o)
Leaves-map n None g s = tt
Leaves-map n (Some p) g s = s

pub Leaves-mark : {A : Type 0} (m n : ℕ) (o : Option Bytes) (x : A) → m ≤ n → Short m o → Leaves n (option_map (λ after. (x, after)) o)
Leaves-mark m n None x h s = tt
Leaves-mark m n (Some r) x h s = omega arith

pub Leaves-rest : {A : Type 0} (n : ℕ) (o : Option Bytes) (f : Bytes → A) → Rest n o → Leaves n (option_map (λ r. (f r, r)) o)
Leaves-rest n None f s = tt
Leaves-rest n (Some r) f s = s

pub Leaves-bind : {A B : Type 0} (m n : ℕ) (o : Front A) (f : A × Bytes → Front B) → Leaves m o → ((p : A × Bytes) → length p.1 ≤ m → Leaves n (f p)) → Leaves n (option_and_then f o)
Leaves-bind m n None f s h = tt
Leaves-bind m n (Some p) f s h = h p s

pub Leaves-bind_mark : {A : Type 0} (m n : ℕ) (o : Option Bytes) (f : Bytes → Front A) → Short m o → ((r : Bytes) → length r < m → Leaves n (f r)) → Leaves n (option_and_then f o)
Leaves-bind_mark m n None f s h = tt
Leaves-bind_mark m n (Some r) f s h = h r s

pub Leaves-on_mark : {A : Type 0} (m n : ℕ) (o : Option Bytes) (f : Bytes → Front A) (x : Front A) → Short m o → ((r : Bytes) → length r < m → Leaves n (f r)) → Leaves n x → Leaves n (on_mark o f x)
Leaves-on_mark m n None f x s h q = q
Leaves-on_mark m n (Some r) f x s h q = h r s

pub Leaves-on_depth : {A : Type 0} (n d : ℕ) (f : ℕ → Front A) → ((e : ℕ) → Leaves n (f e)) → Leaves n (on_depth d f)
Leaves-on_depth n zero f h = tt
Leaves-on_depth n (suc d) f h = h d

Leaves-or : {A : Type 0} (n : ℕ) (o r : Front A) → Leaves n o → Leaves n r → Leaves n (or_front o r)
Leaves-or n None r s h = h
Leaves-or n (Some p) r s h = s

-- ---- plain values

Rest-more : (m n : ℕ) (o : Option Bytes) → m ≤ n → Rest m o → Rest n o
Rest-more m n None h s = tt
Rest-more m n (Some r) h s = omega arith

Rest-bind : (m n : ℕ) (o : Option Bytes) (f : Bytes → Option Bytes) → Rest m o → ((r : Bytes) → length r ≤ m → Rest n (f r)) → Rest n (option_and_then f o)
Rest-bind m n None f s h = tt
Rest-bind m n (Some r) f s h = h r s

without_le : (b : ℕ) (t : Bytes) → length (without b t) ≤ length t
without_le b [] = omega arith
without_le b (c ∷ cs) = elim (c == b) as (λ v. length (cond v cs (c ∷ cs)) ≤ length (c ∷ cs)) [ true ↦ omega arith | false ↦ omega arith ]

unsigned_le : (t : Bytes) → length (unsigned t) ≤ length t
unsigned_le [] = omega arith
unsigned_le (c ∷ cs) = elim ((c == 43) || (c == 45)) as (λ v. length (cond v cs (c ∷ cs)) ≤ length (c ∷ cs)) [ true ↦ omega arith | false ↦ omega arith ]

fraction_rest : (t : Bytes) → Rest (length t) (after_fraction t)
fraction_rest [] = omega arith
fraction_rest (c ∷ cs) =
    let h : length (after_digits cs) ≤ length cs = drop_leaves (length (digits_of cs)) cs in
    elim (c == 46) as (λ v. Rest (length (c ∷ cs)) (cond v (cond (is_empty (digits_of cs)) None (Some (after_digits cs))) (Some (c ∷ cs)))) [
      | true ↦ elim (is_empty (digits_of cs)) as (λ v. Rest (length (c ∷ cs)) (cond v None (Some (after_digits cs)))) [ true ↦ tt | false ↦ omega arith ]
      | false ↦ omega arith
    ]

exponent_rest : (t : Bytes) → Rest (length t) (after_exponent t)
exponent_rest [] = omega arith
exponent_rest (c ∷ cs) =
    let h : length (after_digits (unsigned cs)) ≤ length (unsigned cs) = drop_leaves (length (digits_of (unsigned cs))) (unsigned cs) in
    let g : length (unsigned cs) ≤ length cs = unsigned_le cs in
    elim ((c == 101) || (c == 69)) as (λ v. Rest (length (c ∷ cs)) (cond v (cond (is_empty (digits_of (unsigned cs))) None (Some (after_digits (unsigned cs)))) (Some (c ∷ cs)))) [
      | true ↦ elim (is_empty (digits_of (unsigned cs))) as (λ v. Rest (length (c ∷ cs)) (cond v None (Some (after_digits (unsigned cs))))) [ true ↦ tt | false ↦ omega arith ]
      | false ↦ omega arith
    ]

pub number_rest : (t : Bytes) → Rest (length t) (after_number t)
number_rest t =
    let body = without 45 t in
    let h : length (after_digits (without 45 t)) ≤ length (without 45 t) = drop_leaves (length (digits_of (without 45 t))) (without 45 t) in
    let g : length (without 45 t) ≤ length t = without_le 45 t in
    elim (is_whole_part (digits_of (without 45 t))) as (λ v. Rest (length t) (cond v (option_and_then after_exponent (after_fraction (after_digits (without 45 t)))) None)) [
      | true ↦ Rest-bind (length (after_digits (without 45 t))) (length t) (after_fraction (after_digits (without 45 t))) after_exponent (fraction_rest (after_digits (without 45 t)))
          (λ r l. Rest-more (length r) (length t) (after_exponent r) (omega arith) (exponent_rest r))
      | false ↦ tt
    ]

word_leaves : (w : Bytes) (j : Json) (t : Bytes) → Leaves (length t) (word_at w j t)
word_leaves w j t =
    let h : length (drop (length w) t) ≤ length t = drop_leaves (length w) t in
    elim (starts_with nat_eq t w) as (λ v. Leaves (length t) (cond v (Some (j, drop (length w) t)) None)) [ true ↦ h | false ↦ tt ]

pub plain_leaves : (t : Bytes) → Leaves (length t) (plain_value_at t)
plain_leaves t =
    Leaves-or (length t) (word_at (codes "null") Null t) _ (word_leaves (codes "null") Null t)
    (Leaves-or (length t) (word_at (codes "true") (Truth true) t) _ (word_leaves (codes "true") (Truth true) t)
    (Leaves-or (length t) (word_at (codes "false") (Truth false) t) _ (word_leaves (codes "false") (Truth false) t)
    (Leaves-rest (length t) (after_number t) _ (number_rest t))))

-- ---- pieces

unit_leaves : (t : Bytes) → Leaves (length t) (unit_at t)
unit_leaves [] = tt
unit_leaves (a ∷ []) = tt
unit_leaves (a ∷ b ∷ []) = tt
unit_leaves (a ∷ b ∷ c ∷ []) = tt
unit_leaves (a ∷ b ∷ c ∷ d ∷ rest) =
    elim (code_unit a b c d) as (λ o. Leaves (length (a ∷ b ∷ c ∷ d ∷ rest)) (option_map (λ u. (unit u, rest)) o)) [ Some u ↦ omega arith | None ↦ tt ]

escape_leaves : (t : Bytes) → Leaves (length t) (escape_at t)
escape_leaves [] = tt
escape_leaves (c ∷ cs) =
    elim (c == 117) as (λ v. Leaves (length (c ∷ cs)) (cond v (unit_at cs) (option_map (λ b. (plain b, cs)) (short_escape c)))) [
      | true ↦ Leaves-more (length cs) (length (c ∷ cs)) (unit_at cs) (omega arith) (unit_leaves cs)
      | false ↦ elim (short_escape c) as (λ o. Leaves (length (c ∷ cs)) (option_map (λ b. (plain b, cs)) o)) [ Some b ↦ omega arith | None ↦ tt ]
    ]

pub piece_leaves : (c : ℕ) (cs : Bytes) → Leaves (length cs) (piece_at (c ∷ cs))
piece_leaves c cs =
    elim (c == 92) as (λ v. Leaves (length cs) (cond v (escape_at cs) (cond (nat_lt c 32) None (Some (plain c, cs))))) [
      | true ↦ escape_leaves cs
      | false ↦ elim (nat_lt c 32) as (λ v. Leaves (length cs) (cond v None (Some (plain c, cs)))) [ true ↦ tt | false ↦ omega arith ]
    ]

-- ---- values

pub pieces_leaves : (k : ℕ) (t : Bytes) → Leaves (length t) (pieces_within k t)
pieces_leaves zero t = tt
pieces_leaves (suc k) [] = tt
pieces_leaves (suc k) (c ∷ cs) =
    elim (c == 34) as (λ v. Leaves (length (c ∷ cs)) (elim v [ true ↦ Some ([], cs) | false ↦ option_and_then (λ p. option_map (λ q. (p.0 ∷ q.0, q.1)) (pieces_within k p.1)) (piece_at (c ∷ cs)) ])) [
      | true ↦ omega arith
      | false ↦ Leaves-bind (length cs) (length (c ∷ cs)) (piece_at (c ∷ cs)) (λ p. option_map (λ q. (p.0 ∷ q.0, q.1)) (pieces_within k p.1)) (piece_leaves c cs)
          (λ p l. Leaves-map (length (c ∷ cs)) (pieces_within k p.1) (λ ps. p.0 ∷ ps) (Leaves-more (length p.1) (length (c ∷ cs)) (pieces_within k p.1) (omega arith) (pieces_leaves k p.1)))
    ]

abbrev LeavesAll : {A : Type 0} → (Bytes → Front A) → Type 0
LeavesAll f = (t : Bytes) → Leaves (length t) (f t)

value_body_leaves : (P : Bytes → Front (List Piece)) (I : ℕ → Bytes → Front Items) (M : ℕ → Bytes → Front Members) (d : ℕ) (t : Bytes) → LeavesAll P → ((e : ℕ) → LeavesAll (I e)) → ((e : ℕ) → LeavesAll (M e)) → Leaves (length t) (value_body P I M d t)
value_body_leaves P I M d t p i m =
    Leaves-on_mark (length t) (length t) (mark_at 34 t) _ _ (mark_short 34 t)
    (λ r l. Leaves-map (length t) (P r) (λ ps. Text (bytes_of ps)) (Leaves-more (length r) (length t) (P r) (omega arith) (p r)))
    (Leaves-on_mark (length t) (length t) (mark_at 91 t) _ _ (mark_short 91 t)
    (λ r l. Leaves-on_depth (length t) d _ (λ e. Leaves-on_mark (length r) (length t) (mark_at 93 r) _ _ (mark_short 93 r) (λ a g. omega arith)
    (Leaves-map (length t) (I e r) Array (Leaves-more (length r) (length t) (I e r) (omega arith) (i e r)))))
    (Leaves-on_mark (length t) (length t) (mark_at 123 t) _ _ (mark_short 123 t)
    (λ r l. Leaves-on_depth (length t) d _ (λ e. Leaves-on_mark (length r) (length t) (mark_at 125 r) _ _ (mark_short 125 r) (λ a g. omega arith)
    (Leaves-map (length t) (M e r) Object (Leaves-more (length r) (length t) (M e r) (omega arith) (m e r)))))
    (Leaves-more (length (skip_space t)) (length t) (plain_value_at (skip_space t)) (skip_le t) (plain_leaves (skip_space t)))))

items_body_leaves : (V : ℕ → Bytes → Front Json) (I : ℕ → Bytes → Front Items) (d : ℕ) (t : Bytes) → ((e : ℕ) → LeavesAll (V e)) → ((e : ℕ) → LeavesAll (I e)) → Leaves (length t) (items_body V I d t)
items_body_leaves V I d t v i =
    Leaves-bind (length t) (length t) (V d t) _ (v d t)
    (λ p l. Leaves-on_mark (length p.1) (length t) (mark_at 44 p.1) _ _ (mark_short 44 p.1)
    (λ r g. Leaves-map (length t) (I d r) (item p.0) (Leaves-more (length r) (length t) (I d r) (omega arith) (i d r)))
    (Leaves-mark (length p.1) (length t) (mark_at 93 p.1) (item p.0 no_items) l (mark_short 93 p.1)))

members_body_leaves : (P : Bytes → Front (List Piece)) (V : ℕ → Bytes → Front Json) (M : ℕ → Bytes → Front Members) (d : ℕ) (t : Bytes) → LeavesAll P → ((e : ℕ) → LeavesAll (V e)) → ((e : ℕ) → LeavesAll (M e)) → Leaves (length t) (members_body P V M d t)
members_body_leaves P V M d t p v m =
    Leaves-bind_mark (length t) (length t) (mark_at 34 t) _ (mark_short 34 t)
    (λ begun l. Leaves-bind (length begun) (length t) (P begun) _ (p begun)
    (λ n g. Leaves-bind_mark (length n.1) (length t) (mark_at 58 n.1) _ (mark_short 58 n.1)
    (λ colon h. Leaves-bind (length colon) (length t) (V d colon) _ (v d colon)
    (λ j f. Leaves-on_mark (length j.1) (length t) (mark_at 44 j.1) _ _ (mark_short 44 j.1)
    (λ r e. Leaves-map (length t) (M d r) (member (bytes_of n.0) j.0) (Leaves-more (length r) (length t) (M d r) (omega arith) (m d r)))
    (Leaves-mark (length j.1) (length t) (mark_at 125 j.1) (member (bytes_of n.0) j.0 no_members) (omega arith) (mark_short 125 j.1))))))

pub record AllLeave (k : ℕ) : Type 0 where
  pub values : (d : ℕ) → LeavesAll (value_within k d)
  pub items : (d : ℕ) → LeavesAll (items_within k d)
  pub members : (d : ℕ) → LeavesAll (members_within k d)

pub all_leave : (k : ℕ) → AllLeave k
all_leave zero = record { values = λ d t. tt; items = λ d t. tt; members = λ d t. tt }
all_leave (suc k) =
    let h : AllLeave k = all_leave k in
    record {
      values = λ d t. value_body_leaves (pieces_within k) (items_within k) (members_within k) d t (pieces_leaves k) h.items h.members;
      items = λ d t. items_body_leaves (value_within k) (items_within k) d t h.values h.items;
      members = λ d t. members_body_leaves (pieces_within k) (value_within k) (members_within k) d t (pieces_leaves k) h.values h.members;
    }

pub Leaves-rest_of : {A : Type 0} (n : ℕ) (o : Front A) (r : Bytes) → Leaves n o → option_map (λ p. p.1) o ≡ Some r → length r ≤ n
Leaves-rest_of n None r s e = absurd (cc)
Leaves-rest_of n (Some p) r s e = let h : p.1 ≡ r = cc in omega (arith, ap length h)

pub Rest-at : (n : ℕ) (o : Option Bytes) (r : Bytes) → Rest n o → o ≡ Some r → length r ≤ n
Rest-at n None r s e = absurd (cc)
Rest-at n (Some q) r s e = let h : q ≡ r = cc in omega (arith, ap length h)
