-- The definition's number of turns is never met: what is read with enough turns is read with any number that is enough. So each reader
-- without turns (`vs_attr.specs.Reading`) is one turn over the others.
use Rattle.std.proofs.Common.{◌≡◌, ℕ, zero, suc, ◌+◌, ◌*◌, ◌<◌, ◌≤◌, ◌==◌, Bool, true, false, List, [], ◌∷◌, Option, Some, None, length, refl, ap, ◌∙◌, arith, option_map, option_and_then}
use Rattle.vs_defs.specs.Bytes.{Bytes}
use Rattle.vs_defs.specs.Json.{Json, Text, Array, Object, Items, no_items, item, Members, no_members, member, Front, then_read, Piece, mark_at, piece_at, bytes_of, pieces_within, value_within, items_within, members_within}
use Rattle.vs_attr.specs.Reading.{pieces_at, value_at, items_at, members_at}
use Rattle.vs_attr.proofs.Bodies.{on_mark, on_depth, pieces_body, value_body, items_body, members_body}
use Rattle.vs_attr.proofs.Lengths.{Leaves, Short, mark_short, piece_leaves, pieces_leaves, all_leave}

-- two readers agree on texts of fewer than n bytes
abbrev SameBelow : {A : Type 0} → ℕ → (Bytes → A) → (Bytes → A) → Type 0
SameBelow n f g = (r : Bytes) → length r < n → f r ≡ g r

bind_same : {A B : Type 0} (m : ℕ) (o : Front A) (f g : A × Bytes → Front B) → Leaves m o → ((p : A × Bytes) → length p.1 ≤ m → f p ≡ g p) → option_and_then f o ≡ option_and_then g o
bind_same m None f g s h = refl
bind_same m (Some p) f g s h = h p s

bind_mark_same : {A : Type 0} (m : ℕ) (o : Option Bytes) (f g : Bytes → Option A) → Short m o → SameBelow m f g → option_and_then f o ≡ option_and_then g o
bind_mark_same m None f g s h = refl
bind_mark_same m (Some r) f g s h = h r s

on_mark_same : {A : Type 0} (m : ℕ) (o : Option Bytes) (f g : Bytes → A) (x y : A) → Short m o → SameBelow m f g → x ≡ y → on_mark o f x ≡ on_mark o g y
on_mark_same m None f g x y s h e = e
on_mark_same m (Some r) f g x y s h e = h r s

on_depth_same : {A : Type 0} (d : ℕ) (f g : ℕ → Option A) → ((e : ℕ) → f e ≡ g e) → on_depth d f ≡ on_depth d g
on_depth_same zero f g h = refl
on_depth_same (suc d) f g h = h d

abbrev pub more_pieces : (Bytes → Front (List Piece)) → Bytes → Front (List Piece)
more_pieces P text = option_and_then (λ p. option_map (λ q. (p.0 ∷ q.0, q.1)) (P p.1)) (piece_at text)

abbrev pub pieces_by : Bool → Bytes → Front (List Piece) → Front (List Piece)
pieces_by v cs more = elim v [ true ↦ Some ([], cs) | false ↦ more ]

pieces_same : (P Q : Bytes → Front (List Piece)) (t : Bytes) → SameBelow (length t) P Q → pieces_body P t ≡ pieces_body Q t
pieces_same P Q [] h = refl
pieces_same P Q (c ∷ cs) h =
    elim (c == 34) as (λ v. pieces_by v cs (more_pieces P (c ∷ cs)) ≡ pieces_by v cs (more_pieces Q (c ∷ cs))) [
      | true ↦ refl
      | false ↦ bind_same (length cs) (piece_at (c ∷ cs)) _ _ (piece_leaves c cs) (λ p l. ap (option_map (λ q. (p.0 ∷ q.0, q.1))) (h p.1 (omega arith)))
    ]

value_same : (P Q : Bytes → Front (List Piece)) (I J : ℕ → Bytes → Front Items) (M N : ℕ → Bytes → Front Members) (d : ℕ) (t : Bytes) → SameBelow (length t) P Q → ((e : ℕ) → SameBelow (length t) (I e) (J e)) → ((e : ℕ) → SameBelow (length t) (M e) (N e)) → value_body P I M d t ≡ value_body Q J N d t
value_same P Q I J M N d t p i m =
    on_mark_same (length t) (mark_at 34 t) _ _ _ _ (mark_short 34 t) (λ r l. ap (option_map (λ q. (Text (bytes_of q.0), q.1))) (p r l))
    (on_mark_same (length t) (mark_at 91 t) _ _ _ _ (mark_short 91 t)
    (λ r l. on_depth_same d _ _ (λ e. ap (on_mark (mark_at 93 r) (λ after. Some (Array no_items, after))) (ap (option_map (λ q. (Array q.0, q.1))) (i e r l))))
    (on_mark_same (length t) (mark_at 123 t) _ _ _ _ (mark_short 123 t)
    (λ r l. on_depth_same d _ _ (λ e. ap (on_mark (mark_at 125 r) (λ after. Some (Object no_members, after))) (ap (option_map (λ q. (Object q.0, q.1))) (m e r l)))) refl))

items_same : (V W : ℕ → Bytes → Front Json) (I J : ℕ → Bytes → Front Items) (d : ℕ) (t : Bytes) → V d t ≡ W d t → Leaves (length t) (W d t) → SameBelow (length t) (I d) (J d) → items_body V I d t ≡ items_body W J d t
items_same V W I J d t v w i =
    ap (λ o. then_read o λ j rest. on_mark (mark_at 44 rest) (λ more. option_map (λ q. (item j q.0, q.1)) (I d more)) (option_map (λ after. (item j no_items, after)) (mark_at 93 rest))) v
    ∙ bind_same (length t) (W d t) _ _ w
    (λ p l. on_mark_same (length p.1) (mark_at 44 p.1) _ _ _ _ (mark_short 44 p.1) (λ r g. ap (option_map (λ q. (item p.0 q.0, q.1))) (i r (omega arith))) refl)

members_same : (P Q : Bytes → Front (List Piece)) (V W : ℕ → Bytes → Front Json) (M N : ℕ → Bytes → Front Members) (d : ℕ) (t : Bytes) → SameBelow (length t) P Q → ((r : Bytes) → Leaves (length r) (Q r)) → SameBelow (length t) (V d) (W d) → ((r : Bytes) → Leaves (length r) (W d r)) → SameBelow (length t) (M d) (N d) → members_body P V M d t ≡ members_body Q W N d t
members_same P Q V W M N d t p q v w m =
    bind_mark_same (length t) (mark_at 34 t) _ _ (mark_short 34 t)
    (λ begun l. ap (λ o. then_read o λ name rest. option_and_then (λ colon. then_read (V d colon) λ j rest. on_mark (mark_at 44 rest) (λ more. option_map (λ q. (member (bytes_of name) j q.0, q.1)) (M d more)) (option_map (λ after. (member (bytes_of name) j no_members, after)) (mark_at 125 rest))) (mark_at 58 rest)) (p begun l)
    ∙ bind_same (length begun) (Q begun) _ _ (q begun)
    (λ n g. bind_mark_same (length n.1) (mark_at 58 n.1) _ _ (mark_short 58 n.1)
    (λ colon h. ap (λ o. then_read o λ j rest. on_mark (mark_at 44 rest) (λ more. option_map (λ q. (member (bytes_of n.0) j q.0, q.1)) (M d more)) (option_map (λ after. (member (bytes_of n.0) j no_members, after)) (mark_at 125 rest))) (v colon (omega arith))
    ∙ bind_same (length colon) (W d colon) _ _ (w colon)
    (λ j f. on_mark_same (length j.1) (mark_at 44 j.1) _ _ _ _ (mark_short 44 j.1) (λ r e. ap (option_map (λ q. (member (bytes_of n.0) j.0 q.0, q.1))) (m r (omega arith))) refl))))

-- ---- enough turns

pub pieces_enough : (k n : ℕ) (t : Bytes) → length t < k → length t < n → pieces_within k t ≡ pieces_within n t
pieces_enough zero n t h g = absurd (omega arith)
pieces_enough (suc k) zero t h g = absurd (omega arith)
pieces_enough (suc k) (suc n) t h g = pieces_same (pieces_within k) (pieces_within n) t (λ r l. pieces_enough k n r (omega arith) (omega arith))

record Enough (k : ℕ) : Type 0 where
  values : (n d : ℕ) (t : Bytes) → 2 * length t + 1 ≤ k → 2 * length t + 1 ≤ n → value_within k d t ≡ value_within n d t
  items : (n d : ℕ) (t : Bytes) → 2 * length t + 2 ≤ k → 2 * length t + 2 ≤ n → items_within k d t ≡ items_within n d t
  members : (n d : ℕ) (t : Bytes) → 2 * length t + 2 ≤ k → 2 * length t + 2 ≤ n → members_within k d t ≡ members_within n d t

values_step : (k n d : ℕ) (t : Bytes) → Enough k → 2 * length t + 1 ≤ suc k → 2 * length t + 1 ≤ n → value_within (suc k) d t ≡ value_within n d t
values_step k zero d t e h g = absurd (omega arith)
values_step k (suc n) d t e h g =
    value_same (pieces_within k) (pieces_within n) (items_within k) (items_within n) (members_within k) (members_within n) d t
    (λ r l. pieces_enough k n r (omega arith) (omega arith))
    (λ i r l. e.items n i r (omega arith) (omega arith))
    (λ i r l. e.members n i r (omega arith) (omega arith))

items_step : (k n d : ℕ) (t : Bytes) → Enough k → 2 * length t + 2 ≤ suc k → 2 * length t + 2 ≤ n → items_within (suc k) d t ≡ items_within n d t
items_step k zero d t e h g = absurd (omega arith)
items_step k (suc n) d t e h g =
    items_same (value_within k) (value_within n) (items_within k) (items_within n) d t (e.values n d t (omega arith) (omega arith)) ((all_leave n).values d t)
    (λ r l. e.items n d r (omega arith) (omega arith))

members_step : (k n d : ℕ) (t : Bytes) → Enough k → 2 * length t + 2 ≤ suc k → 2 * length t + 2 ≤ n → members_within (suc k) d t ≡ members_within n d t
members_step k zero d t e h g = absurd (omega arith)
members_step k (suc n) d t e h g =
    members_same (pieces_within k) (pieces_within n) (value_within k) (value_within n) (members_within k) (members_within n) d t
    (λ r l. pieces_enough k n r (omega arith) (omega arith)) (pieces_leaves n)
    (λ r l. e.values n d r (omega arith) (omega arith)) ((all_leave n).values d)
    (λ r l. e.members n d r (omega arith) (omega arith))

enough : (k : ℕ) → Enough k
enough zero = record { values = λ n d t h g. absurd (omega arith); items = λ n d t h g. absurd (omega arith); members = λ n d t h g. absurd (omega arith) }
enough (suc k) =
    let e : Enough k = enough k in
    record {
      values = λ n d t h g. values_step k n d t e h g;
      items = λ n d t h g. items_step k n d t e h g;
      members = λ n d t h g. members_step k n d t e h g;
    }

-- ---- the readers without turns

pub pieces_leave : (t : Bytes) → Leaves (length t) (pieces_at t)
unfolding pieces_at
pieces_leave t = pieces_leaves (length t + 1) t

pub value_leaves : (d : ℕ) (t : Bytes) → Leaves (length t) (value_at d t)
unfolding value_at
value_leaves d t = (all_leave (2 * length t + 1)).values d t

pub pieces_is : (t : Bytes) → pieces_at t ≡ pieces_body pieces_at t
unfolding pieces_at
pieces_is t =
    pieces_enough (length t + 1) (suc (length t)) t (omega arith) (omega arith)
    ∙ pieces_same (pieces_within (length t)) pieces_at t (λ r l. pieces_enough (length t) (length r + 1) r (omega arith) (omega arith))

pub value_is : (d : ℕ) (t : Bytes) → value_at d t ≡ value_body pieces_at items_at members_at d t
unfolding value_at pieces_at items_at members_at
value_is d t =
    (enough (2 * length t + 1)).values (suc (2 * length t)) d t (omega arith) (omega arith)
    ∙ value_same (pieces_within (2 * length t)) pieces_at (items_within (2 * length t)) items_at (members_within (2 * length t)) members_at d t
    (λ r l. pieces_enough (2 * length t) (length r + 1) r (omega arith) (omega arith))
    (λ e r l. (enough (2 * length t)).items (2 * length r + 2) e r (omega arith) (omega arith))
    (λ e r l. (enough (2 * length t)).members (2 * length r + 2) e r (omega arith) (omega arith))

pub items_is : (d : ℕ) (t : Bytes) → items_at d t ≡ items_body value_at items_at d t
unfolding value_at items_at
items_is d t =
    (enough (2 * length t + 2)).items (suc (2 * length t + 1)) d t (omega arith) (omega arith)
    ∙ items_same (value_within (2 * length t + 1)) value_at (items_within (2 * length t + 1)) items_at d t refl ((all_leave (2 * length t + 1)).values d t)
    (λ r l. (enough (2 * length t + 1)).items (2 * length r + 2) d r (omega arith) (omega arith))

pub members_is : (d : ℕ) (t : Bytes) → members_at d t ≡ members_body pieces_at value_at members_at d t
unfolding value_at pieces_at members_at
members_is d t =
    (enough (2 * length t + 2)).members (suc (2 * length t + 1)) d t (omega arith) (omega arith)
    ∙ members_same (pieces_within (2 * length t + 1)) pieces_at (value_within (2 * length t + 1)) value_at (members_within (2 * length t + 1)) members_at d t
    (λ r l. pieces_enough (2 * length t + 1) (length r + 1) r (omega arith) (omega arith)) (λ r. pieces_leaves (length r + 1) r)
    (λ r l. (enough (2 * length t + 1)).values (2 * length r + 1) d r (omega arith) (omega arith)) (λ r. (all_leave (2 * length r + 1)).values d r)
    (λ r l. (enough (2 * length t + 1)).members (2 * length r + 2) d r (omega arith) (omega arith))

-- the definition's number of turns, for a whole text
pub value_whole : (d : ℕ) (t : Bytes) → value_within (2 * length t + 2) d t ≡ value_at d t
unfolding value_at
value_whole d t = (enough (2 * length t + 2)).values (2 * length t + 1) d t (omega arith) (omega arith)
