-- Values, items and members, one at a time.
use Rattle.std.proofs.Common.{◌≡◌, ℕ, ◌≤◌, ◌==◌, Bool, true, false, cond, List, [], ◌∷◌, Option, Some, None, length, drop, refl, ap, sym, ◌∙◌, option_map, option_and_then, IsSome}
use Rattle.vs_defs.specs.Bytes.{Bytes}
use Rattle.vs_defs.specs.Numeral.{begins_with}
use Rattle.vs_defs.specs.Json.{Json, Items, no_items, item, Members, no_members, member, Front, then_read, Piece, bytes_of, mark_at, skip_space, plain_value_at}
use Rattle.vs_defs.specs.AttributeField.{is_named}
use Rattle.vs_attr.specs.Reading.{pieces_at, value_at, items_at, members_at, rest_of, value_of, string_at, after_name, member_at, text_at, array_at, object_at, value_from, member_depth}
use Rattle.vs_attr.specs.Fields.{named_in, found_value, IsReadable}
use Rattle.vs_attr.proofs.Bodies.{on_mark}
use Rattle.vs_attr.proofs.Lengths.{Leaves-rest_of}
use Rattle.vs_attr.proofs.Turns.{value_leaves, value_is, items_is, members_is}

on_mark_cond : {A : Type 0} (v : Bool) (r : Bytes) (f : Bytes → A) (x : A) → on_mark (cond v (Some r) None) f x ≡ cond v (f r) x
on_mark_cond true r f x = refl
on_mark_cond false r f x = refl

-- a value, by the first byte past white space
marks_are : (s : Bytes) (d : ℕ) → on_mark (cond (begins_with 34 s) (Some (drop 1 s)) None) text_at (on_mark (cond (begins_with 91 s) (Some (drop 1 s)) None) (array_at d) (on_mark (cond (begins_with 123 s) (Some (drop 1 s)) None) (object_at d) (plain_value_at s))) ≡ value_from d s
marks_are [] d = refl
marks_are (c ∷ cs) d =
    on_mark_cond (c == 34) cs text_at _
    ∙ ap (cond (c == 34) (text_at cs)) (on_mark_cond (c == 91) cs (array_at d) _
    ∙ ap (cond (c == 91) (array_at d cs)) (on_mark_cond (c == 123) cs (object_at d) (plain_value_at (c ∷ cs))))

pub value_from_is : (d : ℕ) (t : Bytes) → value_at d t ≡ value_from d (skip_space t)
value_from_is d t = value_is d t ∙ marks_are (skip_space t) d

-- ---- items

abbrev items_behind : ℕ → Json → Bytes → Front Items
items_behind d j rest = on_mark (mark_at 44 rest) (λ more. option_map (λ q. (item j q.0, q.1)) (items_at d more)) (option_map (λ after. (item j no_items, after)) (mark_at 93 rest))

pub items_read : (d : ℕ) (t : Bytes) (p : Json × Bytes) → value_at d t ≡ Some p → items_at d t ≡ items_behind d p.0 p.1
items_read d t p e = items_is d t ∙ ap (λ o. then_read o (items_behind d)) e

pub items_none : (d : ℕ) (t : Bytes) → value_at d t ≡ None → items_at d t ≡ None
items_none d t e = items_is d t ∙ ap (λ o. then_read o (items_behind d)) e

pub rest_of-map : {A B : Type 0} (g : A → B) (o : Front A) → rest_of (option_map (λ q. (g q.0, q.1)) o) ≡ rest_of o
rest_of-map g None = refl
rest_of-map g (Some q) = refl

pub rest_of-mark : {A : Type 0} (x : A) (o : Option Bytes) → rest_of (option_map (λ after. (x, after)) o) ≡ o
rest_of-mark x None = refl
rest_of-mark x (Some r) = refl

-- what was read, where only what follows it is known
rest_read : {A : Type 0} (o : Front A) (r : Bytes) → rest_of o ≡ Some r → (x : A) × (o ≡ Some (x, r))
rest_read None r e = absurd (cc)
rest_read (Some p) r e = (p.0, let h : p.1 ≡ r = cc in ap (λ b. Some (p.0, b)) h)

rest_none : {A : Type 0} (o : Front A) → rest_of o ≡ None → o ≡ None
rest_none None e = refl
rest_none (Some p) e = absurd (cc)

pub items_end_more : (d : ℕ) (t r more : Bytes) → rest_of (value_at d t) ≡ Some r → mark_at 44 r ≡ Some more → rest_of (items_at d t) ≡ rest_of (items_at d more)
items_end_more d t r more e m =
    let v : (x : Json) × (value_at d t ≡ Some (x, r)) = rest_read (value_at d t) r e in
    ap rest_of (items_read d t (v.0, r) v.1 ∙ ap (λ o. on_mark o (λ more. option_map (λ q. (item v.0 q.0, q.1)) (items_at d more)) (option_map (λ after. (item v.0 no_items, after)) (mark_at 93 r))) m)
    ∙ rest_of-map (item v.0) (items_at d more)

pub items_end_last : (d : ℕ) (t r : Bytes) → rest_of (value_at d t) ≡ Some r → mark_at 44 r ≡ None → rest_of (items_at d t) ≡ mark_at 93 r
items_end_last d t r e m =
    let v : (x : Json) × (value_at d t ≡ Some (x, r)) = rest_read (value_at d t) r e in
    ap rest_of (items_read d t (v.0, r) v.1 ∙ ap (λ o. on_mark o (λ more. option_map (λ q. (item v.0 q.0, q.1)) (items_at d more)) (option_map (λ after. (item v.0 no_items, after)) (mark_at 93 r))) m)
    ∙ rest_of-mark (item v.0 no_items) (mark_at 93 r)

pub items_end_none : (d : ℕ) (t : Bytes) → rest_of (value_at d t) ≡ None → rest_of (items_at d t) ≡ None
items_end_none d t e = ap rest_of (items_none d t (rest_none (value_at d t) e))

-- ---- members

-- a member's value, and the members behind it
abbrev value_member : ℕ → Option Bytes → Bytes → Front Members
value_member d name colon = then_read (value_at d colon) λ j rest. on_mark (mark_at 44 rest) (λ more. option_map (λ q. (member name j q.0, q.1)) (members_at d more)) (option_map (λ after. (member name j no_members, after)) (mark_at 125 rest))

abbrev read_member : Option Bytes → (Option Bytes → Bytes → Front Members) → Front Members
read_member o L = option_and_then (λ begun. then_read (pieces_at begun) λ name rest. option_and_then (λ colon. L (bytes_of name) colon) (mark_at 58 rest)) o

begun_at : Option Bytes → Option (Bytes × Bytes)
begun_at o = option_and_then (λ begun. after_name begun (rest_of (pieces_at begun))) o

abbrev with_begun : Bytes → Option Bytes → Option (Bytes × Bytes)
with_begun begun o = option_map (λ c. (begun, c)) o

colon_cases : (o : Option Bytes) (begun b colon : Bytes) → with_begun begun o ≡ Some (b, colon) → (o ≡ Some colon) × (begun ≡ b)
colon_cases None begun b colon e = absurd (cc)
colon_cases (Some c) begun b colon e =
    let g : Some begun ≡ Some b = ap (λ o. option_map (λ p. p.0) o) e in
    (ap (λ o. option_map (λ p. p.1) o) e, cc)

name_cases : (o : Front (List Piece)) (begun b colon : Bytes) (L : Option Bytes → Bytes → Front Members) → pieces_at begun ≡ o → after_name begun (rest_of o) ≡ Some (b, colon) → then_read o (λ name rest. option_and_then (λ c. L (bytes_of name) c) (mark_at 58 rest)) ≡ L (string_at b) colon
unfolding string_at
name_cases None begun b colon L p e = absurd (cc)
name_cases (Some n) begun b colon L p e =
    let h : (mark_at 58 n.1 ≡ Some colon) × (begun ≡ b) = colon_cases (mark_at 58 n.1) begun b colon e in
    ap (option_and_then (λ c. L (bytes_of n.0) c)) h.0
    ∙ ap (λ s. L s colon) (ap (λ o. option_and_then bytes_of (value_of o)) (sym p ∙ ap pieces_at h.1))

member_cases : (o : Option Bytes) (b colon : Bytes) (L : Option Bytes → Bytes → Front Members) → option_and_then (λ begun. after_name begun (rest_of (pieces_at begun))) o ≡ Some (b, colon) → read_member o L ≡ L (string_at b) colon
member_cases None b colon L e = absurd (cc)
member_cases (Some begun) b colon L e = name_cases (pieces_at begun) begun b colon L refl e

pub members_read : (d : ℕ) (t b colon : Bytes) → member_at t ≡ Some (b, colon) → members_at d t ≡ value_member d (string_at b) colon
unfolding member_at
members_read d t b colon e = members_is d t ∙ member_cases (mark_at 34 t) b colon (value_member d) e

colon_none : (o : Option Bytes) (begun : Bytes) → with_begun begun o ≡ None → o ≡ None
colon_none None begun e = refl
colon_none (Some c) begun e = absurd (cc)

name_none : (o : Front (List Piece)) (begun : Bytes) (L : Option Bytes → Bytes → Front Members) → after_name begun (rest_of o) ≡ None → then_read o (λ name rest. option_and_then (λ c. L (bytes_of name) c) (mark_at 58 rest)) ≡ None
name_none None begun L e = refl
name_none (Some n) begun L e = ap (option_and_then (λ c. L (bytes_of n.0) c)) (colon_none (mark_at 58 n.1) begun e)

member_none : (o : Option Bytes) (L : Option Bytes → Bytes → Front Members) → option_and_then (λ begun. after_name begun (rest_of (pieces_at begun))) o ≡ None → read_member o L ≡ None
member_none None L e = refl
member_none (Some begun) L e = name_none (pieces_at begun) begun L e

pub members_none : (d : ℕ) (t : Bytes) → member_at t ≡ None → members_at d t ≡ None
unfolding member_at
members_none d t e = members_is d t ∙ member_none (mark_at 34 t) (value_member d) e

pub members_no_value : (d : ℕ) (t b colon : Bytes) → member_at t ≡ Some (b, colon) → rest_of (value_at d colon) ≡ None → members_at d t ≡ None
members_no_value d t b colon e v = members_read d t b colon e ∙ ap (λ o. then_read o λ j rest. on_mark (mark_at 44 rest) (λ more. option_map (λ q. (member (string_at b) j q.0, q.1)) (members_at d more)) (option_map (λ after. (member (string_at b) j no_members, after)) (mark_at 125 rest))) (rest_none (value_at d colon) v)

-- a whole member, and what follows it
abbrev members_behind : ℕ → Option Bytes → Json → Option Bytes → Bytes → Front Members
members_behind d name j o rest = on_mark o (λ more. option_map (λ q. (member name j q.0, q.1)) (members_at d more)) (option_map (λ after. (member name j no_members, after)) (mark_at 125 rest))

pub members_at_comma : (d : ℕ) (t b colon r more : Bytes) (j : Json) → member_at t ≡ Some (b, colon) → value_at d colon ≡ Some (j, r) → mark_at 44 r ≡ Some more → members_at d t ≡ option_map (λ q. (member (string_at b) j q.0, q.1)) (members_at d more)
members_at_comma d t b colon r more j e v m =
    members_read d t b colon e ∙ ap (λ o. then_read o λ x rest. members_behind d (string_at b) x (mark_at 44 rest) rest) v ∙ ap (λ o. members_behind d (string_at b) j o r) m

pub members_at_last : (d : ℕ) (t b colon r : Bytes) (j : Json) → member_at t ≡ Some (b, colon) → value_at d colon ≡ Some (j, r) → mark_at 44 r ≡ None → members_at d t ≡ option_map (λ after. (member (string_at b) j no_members, after)) (mark_at 125 r)
members_at_last d t b colon r j e v m =
    members_read d t b colon e ∙ ap (λ o. then_read o λ x rest. members_behind d (string_at b) x (mark_at 44 rest) rest) v ∙ ap (λ o. members_behind d (string_at b) j o r) m

pub members_end_more : (d : ℕ) (t b colon r more : Bytes) → member_at t ≡ Some (b, colon) → rest_of (value_at d colon) ≡ Some r → mark_at 44 r ≡ Some more → rest_of (members_at d t) ≡ rest_of (members_at d more)
members_end_more d t b colon r more e v m =
    let w : (x : Json) × (value_at d colon ≡ Some (x, r)) = rest_read (value_at d colon) r v in
    ap rest_of (members_at_comma d t b colon r more w.0 e w.1 m) ∙ rest_of-map (member (string_at b) w.0) (members_at d more)

pub members_end_last : (d : ℕ) (t b colon r : Bytes) → member_at t ≡ Some (b, colon) → rest_of (value_at d colon) ≡ Some r → mark_at 44 r ≡ None → rest_of (members_at d t) ≡ mark_at 125 r
members_end_last d t b colon r e v m =
    let w : (x : Json) × (value_at d colon ≡ Some (x, r)) = rest_read (value_at d colon) r v in
    ap rest_of (members_at_last d t b colon r w.0 e w.1 m) ∙ rest_of-mark (member (string_at b) w.0 no_members) (mark_at 125 r)

-- ---- the last member of a name

named_map : (name : Bytes) (found : Option Json) (n : Option Bytes) (j : Json) (o : Front Members) → named_in name found (option_map (λ q. (member n j q.0, q.1)) o) ≡ named_in name (cond (is_named name n) (Some j) found) o
named_map name found n j None = refl
named_map name found n j (Some q) = refl

named_mark : (name : Bytes) (found : Option Json) (n : Option Bytes) (j : Json) (o : Option Bytes) → named_in name found (option_map (λ after. (member n j no_members, after)) o) ≡ option_map (λ after. (cond (is_named name n) (Some j) found, after)) o
named_mark name found n j None = refl
named_mark name found n j (Some r) = refl

pub named_more : (name : Bytes) (found : Option Json) (d : ℕ) (t b colon r more : Bytes) → member_at t ≡ Some (b, colon) → rest_of (value_at d colon) ≡ Some r → mark_at 44 r ≡ Some more → named_in name found (members_at d t) ≡ named_in name (cond (is_named name (string_at b)) (value_of (value_at d colon)) found) (members_at d more)
named_more name found d t b colon r more e v m =
    let w : (x : Json) × (value_at d colon ≡ Some (x, r)) = rest_read (value_at d colon) r v in
    ap (named_in name found) (members_at_comma d t b colon r more w.0 e w.1 m) ∙ named_map name found (string_at b) w.0 (members_at d more)
    ∙ ap (λ o. named_in name (cond (is_named name (string_at b)) o found) (members_at d more)) (sym (ap value_of w.1))

pub named_last : (name : Bytes) (found : Option Json) (d : ℕ) (t b colon r : Bytes) → member_at t ≡ Some (b, colon) → rest_of (value_at d colon) ≡ Some r → mark_at 44 r ≡ None → named_in name found (members_at d t) ≡ option_map (λ after. (cond (is_named name (string_at b)) (value_of (value_at d colon)) found, after)) (mark_at 125 r)
named_last name found d t b colon r e v m =
    let w : (x : Json) × (value_at d colon ≡ Some (x, r)) = rest_read (value_at d colon) r v in
    ap (named_in name found) (members_at_last d t b colon r w.0 e w.1 m) ∙ named_mark name found (string_at b) w.0 (mark_at 125 r)
    ∙ ap (λ o. option_map (λ after. (cond (is_named name (string_at b)) o found, after)) (mark_at 125 r)) (sym (ap value_of w.1))

pub value_rest : (d : ℕ) (t r : Bytes) → rest_of (value_at d t) ≡ Some r → length r ≤ length t
value_rest d t r e = Leaves-rest_of (length t) (value_at d t) r (value_leaves d t) e

-- ---- a member's beginning

pub member_no_name : (t : Bytes) → mark_at 34 t ≡ None → member_at t ≡ None
unfolding member_at
member_no_name t a = ap (option_and_then (λ begun. after_name begun (rest_of (pieces_at begun)))) a

pub member_no_end : (t name : Bytes) → mark_at 34 t ≡ Some name → rest_of (pieces_at name) ≡ None → member_at t ≡ None
unfolding member_at
member_no_end t name a b = ap (option_and_then (λ begun. after_name begun (rest_of (pieces_at begun)))) a ∙ ap (after_name name) b

pub member_no_colon : (t name rest : Bytes) → mark_at 34 t ≡ Some name → rest_of (pieces_at name) ≡ Some rest → mark_at 58 rest ≡ None → member_at t ≡ None
unfolding member_at
member_no_colon t name rest a b c = ap (option_and_then (λ begun. after_name begun (rest_of (pieces_at begun)))) a ∙ ap (after_name name) b ∙ ap (with_begun name) c

pub member_whole : (t name rest colon : Bytes) → mark_at 34 t ≡ Some name → rest_of (pieces_at name) ≡ Some rest → mark_at 58 rest ≡ Some colon → member_at t ≡ Some (name, colon)
unfolding member_at
member_whole t name rest colon a b c = ap (option_and_then (λ begun. after_name begun (rest_of (pieces_at begun)))) a ∙ ap (after_name name) b ∙ ap (with_begun name) c

-- ---- the member that was found last

pub some_value : {A : Type 0} (o : Front A) (r : Bytes) → rest_of o ≡ Some r → IsSome (value_of o)
some_value None r e = absurd (cc)
some_value (Some p) r e = refl

pub latest_value : (v : Bytes) (o : Option Bytes) (b : Bool) → found_value (cond b (Some v) o) ≡ cond b (value_of (value_at member_depth v)) (found_value o)
latest_value v o true = refl
latest_value v o false = refl

pub latest_readable : (v : Bytes) (o : Option Bytes) (b : Bool) → IsSome (value_of (value_at member_depth v)) → IsReadable o → IsReadable (cond b (Some v) o)
latest_readable v o true h g = h
latest_readable v o false h g = g

latest_is : (name v : Bytes) (n : Option Bytes) (f g : Option Bytes) (b : Bool) → b ≡ is_named name n → g ≡ cond b (Some v) f → found_value g ≡ cond (is_named name n) (value_of (value_at member_depth v)) (found_value f)
latest_is name v n f g b e h =
    ap found_value h ∙ latest_value v f b ∙ ap (λ x. cond x (value_of (value_at member_depth v)) (found_value f)) e

pub named_step : (name t b colon r more : Bytes) (f g : Option Bytes) (v : Bool) → member_at t ≡ Some (b, colon) → rest_of (value_at member_depth colon) ≡ Some r → mark_at 44 r ≡ Some more → v ≡ is_named name (string_at b) → g ≡ cond v (Some colon) f → named_in name (found_value g) (members_at member_depth more) ≡ named_in name (found_value f) (members_at member_depth t)
named_step name t b colon r more f g v e w m n h =
    ap (λ x. named_in name x (members_at member_depth more)) (latest_is name colon (string_at b) f g v n h) ∙ sym (named_more name (found_value f) member_depth t b colon r more e w m)

abbrev pub with_found : Option Json → Option Bytes → Option (Option Json × Bytes)
with_found found o = option_map (λ after. (found, after)) o

named_stop : (name t b colon r : Bytes) (f g : Option Bytes) (v : Bool) → member_at t ≡ Some (b, colon) → rest_of (value_at member_depth colon) ≡ Some r → mark_at 44 r ≡ None → v ≡ is_named name (string_at b) → g ≡ cond v (Some colon) f → with_found (found_value g) (mark_at 125 r) ≡ named_in name (found_value f) (members_at member_depth t)
named_stop name t b colon r f g v e w m n h =
    ap (λ x. with_found x (mark_at 125 r)) (latest_is name colon (string_at b) f g v n h) ∙ sym (named_last name (found_value f) member_depth t b colon r e w m)

pub named_done : (name t b colon r after : Bytes) (f g : Option Bytes) (v : Bool) → member_at t ≡ Some (b, colon) → rest_of (value_at member_depth colon) ≡ Some r → mark_at 44 r ≡ None → v ≡ is_named name (string_at b) → g ≡ cond v (Some colon) f → mark_at 125 r ≡ Some after → with_found (found_value g) (Some after) ≡ named_in name (found_value f) (members_at member_depth t)
named_done name t b colon r after f g v e w m n h a = sym (ap (with_found (found_value g)) a) ∙ named_stop name t b colon r f g v e w m n h

pub named_open : (name t b colon r : Bytes) (f g : Option Bytes) (v : Bool) → member_at t ≡ Some (b, colon) → rest_of (value_at member_depth colon) ≡ Some r → mark_at 44 r ≡ None → v ≡ is_named name (string_at b) → g ≡ cond v (Some colon) f → mark_at 125 r ≡ None → None ≡ named_in name (found_value f) (members_at member_depth t)
named_open name t b colon r f g v e w m n h a = sym (ap (with_found (found_value g)) a) ∙ named_stop name t b colon r f g v e w m n h
