-- What kind of field a value is, by its first byte.
use Rattle.std.proofs.Common.{◌≡◌, ℕ, zero, suc, ◌+◌, ◌-◌, ◌*◌, ◌==◌, Bool, true, false, cond, List, [], ◌∷◌, Option, Some, None, IsSome, length, drop, take, refl, ap, sym, ◌∙◌, subst, arith, option_map, option_and_then, unwrap_or, codes, nat_eq, Result, Ok, Err, MatchResult, is_ok}
use Rattle.std.specs.Str.{IsUtf8, is_utf8}
use Rattle.std.proofs.lemmas.Str.{is_utf8-from_IsUtf8, IsUtf8-from_is_utf8}
use Rattle.std.specs.List.{starts_with}
use Rattle.std.proofs.lemmas.Bool.{eqb-true, false≢true}
use Rattle.std.proofs.lemmas.Bool.Decides.{nat_tests}
use Rattle.vs_defs.specs.Limits.{max_json_depth}
use Rattle.vs_defs.specs.Bytes.{Bytes, first_in}
use Rattle.vs_defs.specs.Numeral.{begins_with, is_empty}
use Rattle.vs_defs.specs.Decimal.{read_fixed}
use Rattle.vs_defs.specs.Json as json
use Rattle.vs_defs.specs.Json.{Json, Items, Members, Front, Piece, bytes_of, mark_at, skip_space, plain_value_at, word_at, or_front, number_at, after_number, whole_value, value_within}
use Rattle.vs_defs.specs.AttributeField as field
use Rattle.vs_defs.specs.AttributeField.{is_object, is_object_of, is_object_value, Single, NoKind, single_of, singles_of, field_of_value, number_field, text_field, member_value, option_field, field_of}
use Rattle.vs_attr.specs.Reading.{pieces_at, value_at, items_at, members_at, rest_of, value_of, string_at, text_at, array_at, object_at, value_from, member_depth, item_depth}
use Rattle.vs_attr.specs.Listed.{items_from, items_left, AreItems, begun, items_inside, IsArrayInside, item_next}
use Rattle.vs_attr.specs.Fields.{named_in, found_whole, member_found, number_single, plain_single, single_from}
use Rattle.vs_attr.proofs.Bodies.{on_mark}
use Rattle.vs_attr.proofs.Turns.{value_whole}
use Rattle.vs_attr.proofs.Values.{value_from_is, items_read, items_none}

-- a fact of the value, where one was read
abbrev pub OnRead : {A : Type 0} → (A → Type 0) → Front A → Type 0
OnRead Q None = Unit {0}
OnRead Q (Some p) = Q p.0

pub OnRead-at : {A : Type 0} (Q : A → Type 0) (o : Front A) (p : A × Bytes) → OnRead Q o → o ≡ Some p → Q p.0
OnRead-at Q None p h e = absurd (cc)
OnRead-at Q (Some q) p h e = let g : q.0 ≡ p.0 = cc in subst Q g h

pub OnRead-value : {A : Type 0} (Q : A → Type 0) (o : Front A) (x : A) → OnRead Q o → value_of o ≡ Some x → Q x
OnRead-value Q None x h e = absurd (cc)
OnRead-value Q (Some q) x h e = let g : q.0 ≡ x = cc in subst Q g h

OnRead-cond : {A : Type 0} (Q : A → Type 0) (v : Bool) (p : A × Bytes) → Q p.0 → OnRead Q (cond v (Some p) None)
OnRead-cond Q true p h = h
OnRead-cond Q false p h = tt

OnRead-or : {A : Type 0} (Q : A → Type 0) (o r : Front A) → OnRead Q o → OnRead Q r → OnRead Q (or_front o r)
OnRead-or Q None r h g = g
OnRead-or Q (Some p) r h g = h

OnRead-map : {A B : Type 0} (Q : B → Type 0) (g : A → B) (o : Front A) → ((x : A) → Q (g x)) → OnRead Q (option_map (λ q. (g q.0, q.1)) o)
OnRead-map Q g None h = tt
OnRead-map Q g (Some p) h = h p.0

OnRead-rest : {A : Type 0} (Q : A → Type 0) (f : Bytes → A) (o : Option Bytes) → ((r : Bytes) → Q (f r)) → OnRead Q (option_map (λ r. (f r, r)) o)
OnRead-rest Q f None h = tt
OnRead-rest Q f (Some r) h = h r

word_read : (Q : Json → Type 0) (w : Bytes) (j : Json) (t : Bytes) → Q j → OnRead Q (word_at w j t)
word_read Q w j t h = OnRead-cond Q (starts_with nat_eq t w) (j, drop (length w) t) h

-- what is read of neither text, array nor object
plain_read : (Q : Json → Type 0) (t : Bytes) → Q json.Null → ((b : Bool) → Q (json.Truth b)) → ((n : Bytes) → Q (json.Number n)) → OnRead Q (plain_value_at t)
plain_read Q t a b n =
    OnRead-or Q (word_at (codes "null") json.Null t) _ (word_read Q (codes "null") json.Null t a)
    (OnRead-or Q (word_at (codes "true") (json.Truth true) t) _ (word_read Q (codes "true") (json.Truth true) t (b true))
    (OnRead-or Q (word_at (codes "false") (json.Truth false) t) _ (word_read Q (codes "false") (json.Truth false) t (b false))
    (OnRead-rest Q (λ rest. json.Number (take (length t - length rest) t)) (after_number t) (λ r. n _))))

or_none : {A : Type 0} (o : Front A) → or_front o None ≡ o
or_none None = refl
or_none (Some p) = refl

head_other : (c b : ℕ) → (c == b) ≡ false → nat_eq b c ≡ false
head_other c b h = grind (arith, nat_tests)

plain_null : (c : ℕ) (cs : Bytes) → (c == 110) ≡ true → plain_value_at (c ∷ cs) ≡ word_at (codes "null") json.Null (c ∷ cs)
plain_null c cs e = let h : c ≡ 110 = eqb-true c 110 e in rw h (or_none _)

plain_true : (c : ℕ) (cs : Bytes) → (c == 116) ≡ true → plain_value_at (c ∷ cs) ≡ word_at (codes "true") (json.Truth true) (c ∷ cs)
plain_true c cs e = let h : c ≡ 116 = eqb-true c 116 e in rw h (or_none _)

plain_false : (c : ℕ) (cs : Bytes) → (c == 102) ≡ true → plain_value_at (c ∷ cs) ≡ word_at (codes "false") (json.Truth false) (c ∷ cs)
plain_false c cs e = let h : c ≡ 102 = eqb-true c 102 e in rw h (or_none _)

pub plain_number : (c : ℕ) (cs : Bytes) → (c == 110) ≡ false → (c == 116) ≡ false → (c == 102) ≡ false → plain_value_at (c ∷ cs) ≡ number_at (c ∷ cs)
plain_number c cs n r f =
    let a : nat_eq 110 c ≡ false = head_other c 110 n in
    let b : nat_eq 116 c ≡ false = head_other c 116 r in
    let d : nat_eq 102 c ≡ false = head_other c 102 f in
    rw (a, b, d) refl

-- ---- the kind of a value that is no list

abbrev KindIs : Single → Front Json → Type 0
KindIs s o = OnRead (λ j. single_of j ≡ s) o

KindIs-along : (s : Single) (o r : Front Json) → o ≡ r → KindIs s r → KindIs s o
KindIs-along s o r e h = subst (KindIs s) (sym e) h

number_kind : (t : Bytes) (o : Option Bytes) → KindIs (number_field (option_and_then read_fixed (option_map (λ rest. take (length t - length rest) t) o))) (option_map (λ rest. (json.Number (take (length t - length rest) t), rest)) o)
number_kind t None = tt
number_kind t (Some rest) = refl

false_kind : (c : ℕ) (cs : Bytes) (v : Bool) → (c == 110) ≡ false → (c == 116) ≡ false → (c == 102) ≡ v → KindIs (cond v (field.Truth false) (number_single (c ∷ cs))) (plain_value_at (c ∷ cs))
false_kind c cs true n r f =
    KindIs-along (field.Truth false) (plain_value_at (c ∷ cs)) (word_at (codes "false") (json.Truth false) (c ∷ cs)) (plain_false c cs f) (word_read (λ j. single_of j ≡ field.Truth false) (codes "false") (json.Truth false) (c ∷ cs) refl)
false_kind c cs false n r f =
    KindIs-along (number_single (c ∷ cs)) (plain_value_at (c ∷ cs)) (number_at (c ∷ cs)) (plain_number c cs n r f) (number_kind (c ∷ cs) (after_number (c ∷ cs)))

true_kind : (c : ℕ) (cs : Bytes) (v : Bool) → (c == 110) ≡ false → (c == 116) ≡ v → KindIs (cond v (field.Truth true) (cond (c == 102) (field.Truth false) (number_single (c ∷ cs)))) (plain_value_at (c ∷ cs))
true_kind c cs true n r =
    KindIs-along (field.Truth true) (plain_value_at (c ∷ cs)) (word_at (codes "true") (json.Truth true) (c ∷ cs)) (plain_true c cs r) (word_read (λ j. single_of j ≡ field.Truth true) (codes "true") (json.Truth true) (c ∷ cs) refl)
true_kind c cs false n r = false_kind c cs (c == 102) n r refl

plain_kind : (c : ℕ) (cs : Bytes) (v : Bool) → (c == 110) ≡ v → KindIs (cond v NoKind (cond (c == 116) (field.Truth true) (cond (c == 102) (field.Truth false) (number_single (c ∷ cs))))) (plain_value_at (c ∷ cs))
plain_kind c cs true n =
    KindIs-along NoKind (plain_value_at (c ∷ cs)) (word_at (codes "null") json.Null (c ∷ cs)) (plain_null c cs n) (word_read (λ j. single_of j ≡ NoKind) (codes "null") json.Null (c ∷ cs) refl)
plain_kind c cs false n = true_kind c cs (c == 116) n refl

text_kind_of : (o : Front (List Piece)) → KindIs (text_field (option_and_then bytes_of (value_of o))) (option_map (λ q. (json.Text (bytes_of q.0), q.1)) o)
text_kind_of None = tt
text_kind_of (Some p) = refl

text_kind : (cs : Bytes) → KindIs (text_field (string_at cs)) (text_at cs)
unfolding string_at
text_kind cs = text_kind_of (pieces_at cs)

array_kind_by : (Q : Json → Type 0) → ((js : Items) → Q (json.Array js)) → (d : ℕ) (inside : Bytes) (o : Option Bytes) → OnRead Q (elim o [ Some rest ↦ Some (json.Array json.no_items, rest) | None ↦ option_map (λ q. (json.Array q.0, q.1)) (items_at d inside) ])
array_kind_by Q h d inside None = OnRead-map Q json.Array (items_at d inside) h
array_kind_by Q h d inside (Some rest) = h json.no_items

array_read : (Q : Json → Type 0) → ((js : Items) → Q (json.Array js)) → (d : ℕ) (inside : Bytes) → OnRead Q (array_at d inside)
array_read Q h zero inside = tt
array_read Q h (suc d) inside = array_kind_by Q h d inside (mark_at 93 inside)

object_kind_by : (Q : Json → Type 0) → ((ms : Members) → Q (json.Object ms)) → (d : ℕ) (inside : Bytes) (o : Option Bytes) → OnRead Q (elim o [ Some rest ↦ Some (json.Object json.no_members, rest) | None ↦ option_map (λ q. (json.Object q.0, q.1)) (members_at d inside) ])
object_kind_by Q h d inside None = OnRead-map Q json.Object (members_at d inside) h
object_kind_by Q h d inside (Some rest) = h json.no_members

object_read : (Q : Json → Type 0) → ((ms : Members) → Q (json.Object ms)) → (d : ℕ) (inside : Bytes) → OnRead Q (object_at d inside)
object_read Q h zero inside = tt
object_read Q h (suc d) inside = object_kind_by Q h d inside (mark_at 125 inside)

single_kind : (d : ℕ) (s : Bytes) → KindIs (single_from s) (value_from d s)
single_kind d [] = tt
single_kind d (c ∷ cs) =
    elim (c == 34) as (λ v. KindIs (cond v (text_field (string_at cs)) (cond (c == 91) NoKind (cond (c == 123) NoKind (plain_single (c ∷ cs))))) (cond v (text_at cs) (cond (c == 91) (array_at d cs) (cond (c == 123) (object_at d cs) (plain_value_at (c ∷ cs)))))) [
      | true ↦ text_kind cs
      | false ↦ elim (c == 91) as (λ v. KindIs (cond v NoKind (cond (c == 123) NoKind (plain_single (c ∷ cs)))) (cond v (array_at d cs) (cond (c == 123) (object_at d cs) (plain_value_at (c ∷ cs))))) [
        | true ↦ array_read (λ j. single_of j ≡ NoKind) (λ js. refl) d cs
        | false ↦ elim (c == 123) as (λ v. KindIs (cond v NoKind (plain_single (c ∷ cs))) (cond v (object_at d cs) (plain_value_at (c ∷ cs)))) [
          | true ↦ object_read (λ j. single_of j ≡ NoKind) (λ ms. refl) d cs
          | false ↦ plain_kind c cs (c == 110) refl
        ]
      ]
    ]

-- the kind of the value that a text begins with
pub kind_at : (d : ℕ) (t : Bytes) (j : Json) → value_of (value_at d t) ≡ Some j → single_of j ≡ single_from (skip_space t)
kind_at d t j e = OnRead-value (λ j. single_of j ≡ single_from (skip_space t)) (value_at d t) j (KindIs-along (single_from (skip_space t)) (value_at d t) (value_from d (skip_space t)) (value_from_is d t) (single_kind d (skip_space t))) e

-- ---- lists

head_hit_by : (b c : ℕ) (cs inside : Bytes) (v : Bool) → (c == b) ≡ v → cond v (Some cs) None ≡ Some inside → (c ∷ cs) ≡ b ∷ inside
head_hit_by b c cs inside true h e = let g : cs ≡ inside = cc in rw (eqb-true c b h, g) refl
head_hit_by b c cs inside false h e = absurd (cc)

pub head_hit : (b : ℕ) (s inside : Bytes) → cond (begins_with b s) (Some (drop 1 s)) None ≡ Some inside → s ≡ b ∷ inside
head_hit b [] inside e = absurd (cc)
head_hit b (c ∷ cs) inside e = head_hit_by b c cs inside (c == b) refl e

pub value_array : (d : ℕ) (t inside : Bytes) → mark_at 91 t ≡ Some inside → value_at d t ≡ array_at d inside
value_array d t inside e = value_from_is d t ∙ ap (value_from d) (head_hit 91 (skip_space t) inside e)

pub value_object : (d : ℕ) (t inside : Bytes) → mark_at 123 t ≡ Some inside → value_at d t ≡ object_at d inside
value_object d t inside e = value_from_is d t ∙ ap (value_from d) (head_hit 123 (skip_space t) inside e)

none_by : (b c : ℕ) (cs : Bytes) (v : Bool) → cond v (Some cs) None ≡ None → v ≡ false
none_by b c cs true e = absurd (cc)
none_by b c cs false e = refl

-- no list stands there
not_array_from : (d : ℕ) (s : Bytes) → cond (begins_with 91 s) (Some (drop 1 s)) None ≡ None → OnRead (λ j. field_of_value j ≡ field.One (single_of j)) (value_from d s)
not_array_from d [] e = tt
not_array_from d (c ∷ cs) e =
    let n : (c == 91) ≡ false = none_by 91 c cs (c == 91) e in
    rw n (elim (c == 34) as (λ v. OnRead (λ j. field_of_value j ≡ field.One (single_of j)) (cond v (text_at cs) (cond (c == 123) (object_at d cs) (plain_value_at (c ∷ cs))))) [
      | true ↦ OnRead-map (λ j. field_of_value j ≡ field.One (single_of j)) (λ ps. json.Text (bytes_of ps)) (pieces_at cs) (λ ps. refl)
      | false ↦ elim (c == 123) as (λ v. OnRead (λ j. field_of_value j ≡ field.One (single_of j)) (cond v (object_at d cs) (plain_value_at (c ∷ cs)))) [
        | true ↦ object_read (λ j. field_of_value j ≡ field.One (single_of j)) (λ ms. refl) d cs
        | false ↦ plain_read (λ j. field_of_value j ≡ field.One (single_of j)) (c ∷ cs) refl (λ b. refl) (λ n. refl)
      ]
    ])

pub not_array : (d : ℕ) (t : Bytes) (j : Json) → mark_at 91 t ≡ None → value_of (value_at d t) ≡ Some j → field_of_value j ≡ field.One (single_of j)
not_array d t j m e =
    OnRead-value (λ j. field_of_value j ≡ field.One (single_of j)) (value_at d t) j
    (subst (OnRead (λ j. field_of_value j ≡ field.One (single_of j))) (sym (value_from_is d t)) (not_array_from d (skip_space t) m)) e

pub single_field : (d : ℕ) (t : Bytes) (o : Option Json) → value_of (value_at d t) ≡ o → IsSome o → mark_at 91 t ≡ None → Some (field.One (single_from (skip_space t))) ≡ option_map field_of_value o
single_field d t None e s m = absurd (false≢true s)
single_field d t (Some j) e s m = ap (λ f. Some f) (sym (not_array d t j m e ∙ ap field.One (kind_at d t j e)))

some_items : (o : Front Items) → IsSome (value_of (option_map (λ q. (json.Array q.0, q.1)) o)) → IsSome (value_of o)
some_items None s = absurd (false≢true s)
some_items (Some q) s = refl

inside_by : (inside : Bytes) (o : Option Bytes) → IsSome (value_of (elim o [ Some rest ↦ Some (json.Array json.no_items, rest) | None ↦ option_map (λ q. (json.Array q.0, q.1)) (items_at item_depth inside) ])) → AreItems (begun inside o)
inside_by inside None s = some_items (items_at item_depth inside) s
inside_by inside (Some rest) s = tt

pub array_inside : (t inside : Bytes) → mark_at 91 t ≡ Some inside → IsSome (value_of (value_at member_depth t)) → IsArrayInside inside
array_inside t inside m s = inside_by inside (mark_at 93 inside) (subst (λ o. IsSome (value_of o)) (value_array member_depth t inside m) s)

listed_items : (o : Front Items) → IsSome (value_of (option_map (λ q. (json.Array q.0, q.1)) o)) → Some (field.Listed (unwrap_or (option_map singles_of (value_of o)) [])) ≡ option_map field_of_value (value_of (option_map (λ q. (json.Array q.0, q.1)) o))
listed_items None s = absurd (false≢true s)
listed_items (Some q) s = refl

listed_by : (inside : Bytes) (o : Option Bytes) → IsSome (value_of (elim o [ Some rest ↦ Some (json.Array json.no_items, rest) | None ↦ option_map (λ q. (json.Array q.0, q.1)) (items_at item_depth inside) ])) → Some (field.Listed (items_left (begun inside o))) ≡ option_map field_of_value (value_of (elim o [ Some rest ↦ Some (json.Array json.no_items, rest) | None ↦ option_map (λ q. (json.Array q.0, q.1)) (items_at item_depth inside) ]))
listed_by inside None s = listed_items (items_at item_depth inside) s
listed_by inside (Some rest) s = refl

pub list_field : (t inside : Bytes) → mark_at 91 t ≡ Some inside → IsSome (value_of (value_at member_depth t)) → Some (field.Listed (items_inside inside)) ≡ option_map field_of_value (value_of (value_at member_depth t))
list_field t inside m s =
    listed_by inside (mark_at 93 inside) (subst (λ o. IsSome (value_of o)) (value_array member_depth t inside m) s)
    ∙ sym (ap (λ o. option_map field_of_value (value_of o)) (value_array member_depth t inside m))

-- ---- the items of a list, one by one

abbrev items_after : Json → Option Bytes → Bytes → Front Items
items_after j o rest = on_mark o (λ more. option_map (λ q. (json.item j q.0, q.1)) (items_at item_depth more)) (option_map (λ after. (json.item j json.no_items, after)) (mark_at 93 rest))

abbrev singles_in : Front Items → List Single
singles_in o = unwrap_or (option_map singles_of (value_of o)) []

-- where items were read, of which j is the first, the next begin behind the comma
after_first : (j : Json) (o : Front Items) → IsSome (value_of (option_map (λ q. (json.item j q.0, q.1)) o)) → (first_in (singles_in (option_map (λ q. (json.item j q.0, q.1)) o)) ≡ Some (single_of j)) × (drop 1 (singles_in (option_map (λ q. (json.item j q.0, q.1)) o)) ≡ singles_in o) × IsSome (value_of o)
after_first j None s = absurd (false≢true s)
after_first j (Some q) s = (refl, refl, refl)

after_last : (j : Json) (o : Option Bytes) → IsSome (value_of (option_map (λ after. (json.item j json.no_items, after)) o)) → (first_in (singles_in (option_map (λ after. (json.item j json.no_items, after)) o)) ≡ Some (single_of j)) × (drop 1 (singles_in (option_map (λ after. (json.item j json.no_items, after)) o)) ≡ [])
after_last j None s = absurd (false≢true s)
after_last j (Some r) s = (refl, refl)

record Turn (j : Json) (all : Front Items) (next : Option Bytes) : Type 0 where
  first : first_in (singles_in all) ≡ Some (single_of j)
  rest : drop 1 (singles_in all) ≡ items_left next
  valid : AreItems next

turn_behind : (j : Json) (o : Option Bytes) (rest : Bytes) → IsSome (value_of (items_after j o rest)) → Turn j (items_after j o rest) o
turn_behind j None rest s = let h = after_last j (mark_at 93 rest) s in record { first = h.0; rest = h.1; valid = tt }
turn_behind j (Some more) rest s = let h = after_first j (items_at item_depth more) s in record { first = h.0; rest = h.1; valid = h.2 }

turn_by : (t : Bytes) (o : Front Json) → value_at item_depth t ≡ o → IsSome (items_from t) → (j : Json) × (value_of o ≡ Some j) × Turn j (items_at item_depth t) (option_and_then (mark_at 44) (rest_of o))
turn_by t None v s = absurd (false≢true (subst (λ o. IsSome (value_of o)) (items_none item_depth t v) s))
turn_by t (Some p) v s =
    let e : items_at item_depth t ≡ items_after p.0 (mark_at 44 p.1) p.1 = items_read item_depth t p v in
    (p.0, refl, subst (λ o. Turn p.0 o (mark_at 44 p.1)) (sym e) (turn_behind p.0 (mark_at 44 p.1) p.1 (subst (λ o. IsSome (value_of o)) e s)))

item_turn : (t : Bytes) → IsSome (items_from t) → (j : Json) × (value_of (value_at item_depth t) ≡ Some j) × Turn j (items_at item_depth t) (item_next t)
item_turn t s = turn_by t (value_at item_depth t) refl s

pub item_first : (t : Bytes) → AreItems (Some t) → first_in (items_left (Some t)) ≡ Some (single_from (skip_space t))
item_first t s = let h = item_turn t s in h.2.first ∙ ap (λ k. Some k) (kind_at item_depth t h.0 h.1)

pub item_rest : (t : Bytes) → AreItems (Some t) → drop 1 (items_left (Some t)) ≡ items_left (item_next t)
item_rest t s = let h = item_turn t s in h.2.rest

pub item_valid : (t : Bytes) → AreItems (Some t) → AreItems (item_next t)
item_valid t s = let h = item_turn t s in h.2.valid

-- ---- the members of a whole text

not_object_from : (name : Bytes) (d : ℕ) (s : Bytes) → cond (begins_with 123 s) (Some (drop 1 s)) None ≡ None → OnRead (λ j. member_value name j ≡ None) (value_from d s)
not_object_from name d [] e = tt
not_object_from name d (c ∷ cs) e =
    let n : (c == 123) ≡ false = none_by 123 c cs (c == 123) e in
    rw n (elim (c == 34) as (λ v. OnRead (λ j. member_value name j ≡ None) (cond v (text_at cs) (cond (c == 91) (array_at d cs) (plain_value_at (c ∷ cs))))) [
      | true ↦ OnRead-map (λ j. member_value name j ≡ None) (λ ps. json.Text (bytes_of ps)) (pieces_at cs) (λ ps. refl)
      | false ↦ elim (c == 91) as (λ v. OnRead (λ j. member_value name j ≡ None) (cond v (array_at d cs) (plain_value_at (c ∷ cs)))) [
        | true ↦ array_read (λ j. member_value name j ≡ None) (λ js. refl) d cs
        | false ↦ plain_read (λ j. member_value name j ≡ None) (c ∷ cs) refl (λ b. refl) (λ n. refl)
      ]
    ])

whole_none : (name : Bytes) (o : Front Json) → OnRead (λ j. member_value name j ≡ None) o → option_and_then (member_value name) (whole_value o) ≡ None
whole_none name None h = refl
whole_none name (Some p) h = elim (is_empty (skip_space p.1)) as (λ v. option_and_then (member_value name) (cond v (Some p.0) None) ≡ None) [ true ↦ h | false ↦ refl ]

pub found_none : (name t : Bytes) → mark_at 123 t ≡ None → None ≡ member_found name t
found_none name t m =
    sym (whole_none name (value_at max_json_depth t) (subst (OnRead (λ j. member_value name j ≡ None)) (sym (value_from_is max_json_depth t)) (not_object_from name max_json_depth (skip_space t) m)))

abbrev object_by : Bytes → Option Bytes → Front Json
object_by inside o = elim o [ Some rest ↦ Some (json.Object json.no_members, rest) | None ↦ option_map (λ q. (json.Object q.0, q.1)) (members_at member_depth inside) ]

whole_members : (name : Bytes) (o : Front Members) → found_whole (named_in name None o) ≡ option_and_then (member_value name) (whole_value (option_map (λ q. (json.Object q.0, q.1)) o))
whole_members name None = refl
whole_members name (Some q) = elim (is_empty (skip_space q.1)) as (λ v. cond v (field.last_named name None q.0) None ≡ option_and_then (member_value name) (cond v (Some (json.Object q.0)) None)) [ true ↦ refl | false ↦ refl ]

pub found_members : (name t inside : Bytes) → mark_at 123 t ≡ Some inside → mark_at 125 inside ≡ None → found_whole (named_in name None (members_at member_depth inside)) ≡ member_found name t
found_members name t inside m e =
    whole_members name (members_at member_depth inside)
    ∙ sym (ap (λ o. option_and_then (member_value name) (whole_value o)) (value_object max_json_depth t inside m ∙ ap (object_by inside) e))

pub found_empty : (name t inside rest : Bytes) → mark_at 123 t ≡ Some inside → mark_at 125 inside ≡ Some rest → None ≡ member_found name t
found_empty name t inside rest m e =
    sym (ap (λ o. option_and_then (member_value name) (whole_value o)) (value_object max_json_depth t inside m ∙ ap (object_by inside) e)
    ∙ whole_none name (Some (json.Object json.no_members, rest)) refl)

-- ---- texts in UTF-8

not_utf8 : (text : Bytes) (v : Bool) → is_utf8 text ≡ v → ¬ (IsUtf8 text) → false ≡ v
not_utf8 text true e n = absurd (n (IsUtf8-from_is_utf8 text e))
not_utf8 text false e n = refl

pub utf8_ok : {T E : Type 0} (P : T → Type 0) (Q : E → Type 0) (r : Result T E) (text : Bytes) → MatchResult r (λ s. P s × IsUtf8 text) (λ e. ¬ (IsUtf8 text) × Q e) → is_ok r ≡ is_utf8 text
utf8_ok P Q (Ok s) text h = sym (is_utf8-from_IsUtf8 text h.1)
utf8_ok P Q (Err e) text h = not_utf8 text (is_utf8 text) refl h.0

pub field_whole : (text name : Bytes) → is_utf8 text ≡ true → option_field (member_found name text) ≡ field_of text name
field_whole text name u =
    sym (ap (λ v. option_field (option_and_then (λ j. member_value name j) (elim v [ true ↦ whole_value (value_within (2 * length text + 2) max_json_depth text) | false ↦ None ]))) u
    ∙ ap (λ o. option_field (option_and_then (λ j. member_value name j) (whole_value o))) (value_whole max_json_depth text))

pub field_not_utf8 : (text name : Bytes) → is_utf8 text ≡ false → None ≡ field_of text name
field_not_utf8 text name u =
    sym (ap (λ v. option_field (option_and_then (λ j. member_value name j) (elim v [ true ↦ whole_value (value_within (2 * length text + 2) max_json_depth text) | false ↦ None ]))) u)

pub option_field_is : (o : Option Json) → option_map field_of_value o ≡ option_field o
option_field_is None = refl
option_field_is (Some j) = refl

-- ---- whether a whole text is an object

not_object_value_from : (d : ℕ) (s : Bytes) → cond (begins_with 123 s) (Some (drop 1 s)) None ≡ None → OnRead (λ j. is_object_value j ≡ false) (value_from d s)
not_object_value_from d [] e = tt
not_object_value_from d (c ∷ cs) e =
    let n : (c == 123) ≡ false = none_by 123 c cs (c == 123) e in
    rw n (elim (c == 34) as (λ v. OnRead (λ j. is_object_value j ≡ false) (cond v (text_at cs) (cond (c == 91) (array_at d cs) (plain_value_at (c ∷ cs))))) [
      | true ↦ OnRead-map (λ j. is_object_value j ≡ false) (λ ps. json.Text (bytes_of ps)) (pieces_at cs) (λ ps. refl)
      | false ↦ elim (c == 91) as (λ v. OnRead (λ j. is_object_value j ≡ false) (cond v (array_at d cs) (plain_value_at (c ∷ cs)))) [
        | true ↦ array_read (λ j. is_object_value j ≡ false) (λ js. refl) d cs
        | false ↦ plain_read (λ j. is_object_value j ≡ false) (c ∷ cs) refl (λ b. refl) (λ n. refl)
      ]
    ])

whole_other : (o : Front Json) → OnRead (λ j. is_object_value j ≡ false) o → is_object_of (whole_value o) ≡ false
whole_other None h = refl
whole_other (Some p) h = elim (is_empty (skip_space p.1)) as (λ v. is_object_of (cond v (Some p.0) None) ≡ false) [ true ↦ h | false ↦ refl ]

object_whole : (text : Bytes) → is_utf8 text ≡ true → is_object_of (whole_value (value_at max_json_depth text)) ≡ is_object text
object_whole text u =
    sym (ap (λ v. is_object_of (elim v [ true ↦ whole_value (value_within (2 * length text + 2) max_json_depth text) | false ↦ None ])) u
    ∙ ap (λ o. is_object_of (whole_value o)) (value_whole max_json_depth text))

pub object_not_utf8 : (text : Bytes) → is_utf8 text ≡ false → false ≡ is_object text
object_not_utf8 text u =
    sym (ap (λ v. is_object_of (elim v [ true ↦ whole_value (value_within (2 * length text + 2) max_json_depth text) | false ↦ None ])) u)

pub object_none : (text : Bytes) → is_utf8 text ≡ true → mark_at 123 text ≡ None → false ≡ is_object text
object_none text u m =
    sym (whole_other (value_at max_json_depth text) (subst (OnRead (λ j. is_object_value j ≡ false)) (sym (value_from_is max_json_depth text)) (not_object_value_from max_json_depth (skip_space text) m)))
    ∙ object_whole text u

whole_rest : (o : Front Json) (rest : Option Bytes) → OnRead (λ j. is_object_value j ≡ true) o → rest_of o ≡ rest
    → elim rest [ Some r ↦ is_empty (skip_space r) | None ↦ false ] ≡ is_object_of (whole_value o)
whole_rest None rest h e = sym (ap (λ (r : Option Bytes). elim r [ Some s ↦ is_empty (skip_space s) | None ↦ false ]) e)
whole_rest (Some p) rest h e =
    sym (ap (λ (r : Option Bytes). elim r [ Some s ↦ is_empty (skip_space s) | None ↦ false ]) e)
    ∙ elim (is_empty (skip_space p.1)) as (λ v. v ≡ is_object_of (cond v (Some p.0) None)) [ true ↦ sym h | false ↦ refl ]

object_here : (text inside : Bytes) → mark_at 123 text ≡ Some inside → OnRead (λ j. is_object_value j ≡ true) (value_at max_json_depth text)
object_here text inside m = subst (OnRead (λ j. is_object_value j ≡ true)) (sym (value_object max_json_depth text inside m)) (object_read (λ j. is_object_value j ≡ true) (λ ms. refl) 64 inside)

pub object_end : (text inside rest : Bytes) → is_utf8 text ≡ true → mark_at 123 text ≡ Some inside → rest_of (value_at max_json_depth text) ≡ Some rest
    → is_empty (skip_space rest) ≡ is_object text
object_end text inside rest u m e = whole_rest (value_at max_json_depth text) (Some rest) (object_here text inside m) e ∙ object_whole text u

pub object_cut : (text inside : Bytes) → is_utf8 text ≡ true → mark_at 123 text ≡ Some inside → rest_of (value_at max_json_depth text) ≡ None → false ≡ is_object text
object_cut text inside u m e = whole_rest (value_at max_json_depth text) None (object_here text inside m) e ∙ object_whole text u
