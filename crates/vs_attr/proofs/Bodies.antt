-- One turn of the definition's reader, over readers of what stands within.
use Rattle.std.proofs.Common.{◌≡◌, ℕ, zero, suc, true, false, List, [], ◌∷◌, Option, Some, None, drop, refl, option_map, option_and_then}
use Rattle.vs_defs.specs.Bytes.{Bytes}
use Rattle.vs_defs.specs.Numeral.{begins_with}
use Rattle.vs_defs.specs.Json.{Json, Text, Array, Object, Items, no_items, item, Members, no_members, member, Front, then_read, Piece, mark_at, skip_space, piece_at, plain_value_at, bytes_of, pieces_within, value_within, items_within, members_within}

abbrev pub on_mark : {A : Type 0} → Option Bytes → (Bytes → A) → A → A
on_mark o f x = elim o [ Some rest ↦ f rest | None ↦ x ]

abbrev pub on_depth : {A : Type 0} → ℕ → (ℕ → Option A) → Option A
on_depth depth f = elim depth [ zero ↦ None | suc d ↦ f d ]

abbrev pub pieces_body : (Bytes → Front (List Piece)) → Bytes → Front (List Piece)
pieces_body P text = elim (begins_with 34 text) [
  | true ↦ Some ([], drop 1 text)
  | false ↦ option_and_then (λ p. option_map (λ q. (p.0 ∷ q.0, q.1)) (P p.1)) (piece_at text)
]

abbrev pub value_body : (Bytes → Front (List Piece)) → (ℕ → Bytes → Front Items) → (ℕ → Bytes → Front Members) → ℕ → Bytes → Front Json
value_body P I M depth text =
    on_mark (mark_at 34 text) (λ rest. option_map (λ q. (Text (bytes_of q.0), q.1)) (P rest))
    (on_mark (mark_at 91 text) (λ rest. on_depth depth (λ d. on_mark (mark_at 93 rest) (λ after. Some (Array no_items, after)) (option_map (λ q. (Array q.0, q.1)) (I d rest))))
    (on_mark (mark_at 123 text) (λ rest. on_depth depth (λ d. on_mark (mark_at 125 rest) (λ after. Some (Object no_members, after)) (option_map (λ q. (Object q.0, q.1)) (M d rest))))
    (plain_value_at (skip_space text))))

abbrev pub items_body : (ℕ → Bytes → Front Json) → (ℕ → Bytes → Front Items) → ℕ → Bytes → Front Items
items_body V I depth text = then_read (V depth text) λ j rest. on_mark (mark_at 44 rest) (λ more. option_map (λ q. (item j q.0, q.1)) (I depth more)) (option_map (λ after. (item j no_items, after)) (mark_at 93 rest))

abbrev pub members_body : (Bytes → Front (List Piece)) → (ℕ → Bytes → Front Json) → (ℕ → Bytes → Front Members) → ℕ → Bytes → Front Members
members_body P V M depth text =
    option_and_then (λ begun.
    then_read (P begun) λ name rest.
    option_and_then (λ colon.
    then_read (V depth colon) λ j rest. on_mark (mark_at 44 rest) (λ more. option_map (λ q. (member (bytes_of name) j q.0, q.1)) (M depth more))
    (option_map (λ after. (member (bytes_of name) j no_members, after)) (mark_at 125 rest))) (mark_at 58 rest)) (mark_at 34 text)

pub pieces_turn : (k : ℕ) (t : Bytes) → pieces_within (suc k) t ≡ pieces_body (pieces_within k) t
pieces_turn k t = refl

pub value_turn : (k d : ℕ) (t : Bytes) → value_within (suc k) d t ≡ value_body (pieces_within k) (items_within k) (members_within k) d t
value_turn k d t = refl

pub items_turn : (k d : ℕ) (t : Bytes) → items_within (suc k) d t ≡ items_body (value_within k) (items_within k) d t
items_turn k d t = refl

pub members_turn : (k d : ℕ) (t : Bytes) → members_within (suc k) d t ≡ members_body (pieces_within k) (value_within k) (members_within k) d t
members_turn k d t = refl
