-- The reading of JSON without a number of turns: what `vs_defs.specs.Json` reads with as many turns as a text can want.
--     pieces_at text            the pieces of a text up to its closing quotation mark, and what follows that
--     value_at depth text       a value, and what follows it
--     items_at, members_at      the items of an array and the members of an object that have one at least, up to their end
--     string_at raw             the bytes that a text stands for, whose inside begins there
--     member_at text            a member's beginning: where the inside of its name begins, and what follows its colon
use Rattle.std.specs.Prelude.{ℕ, zero, suc, ◌==◌, cond, ◌+◌, ◌-◌, ◌*◌, true, false, List, [], ◌∷◌, Option, Some, None, option_map, option_and_then, length}
use Rattle.vs_defs.specs.Limits.{max_json_depth}
use Rattle.vs_defs.specs.Bytes.{Bytes}
use Rattle.vs_defs.specs.Numeral.{begins_with}
use Rattle.vs_defs.specs.Json.{Json, Text, Array, Object, Items, no_items, Members, no_members, Front, Piece, unit, mark_at, piece_at, plain_value_at, bytes_of, pieces_within, value_within, items_within, members_within}

unfoldable pub pieces_at : Bytes → Front (List Piece)
pieces_at text = pieces_within (length text + 1) text

unfoldable pub value_at : ℕ → Bytes → Front Json
value_at depth text = value_within (2 * length text + 1) depth text

unfoldable pub items_at : ℕ → Bytes → Front Items
items_at depth text = items_within (2 * length text + 2) depth text

unfoldable pub members_at : ℕ → Bytes → Front Members
members_at depth text = members_within (2 * length text + 2) depth text

-- how many objects and arrays a value may have open within an object, which is open itself, and within an array in one
abbrev pub member_depth : ℕ
member_depth = max_json_depth - 1

abbrev pub item_depth : ℕ
item_depth = max_json_depth - 2

-- what follows a value that was read
abbrev pub rest_of : {A : Type 0} → Front A → Option Bytes
rest_of r = option_map (λ p. p.1) r

abbrev pub value_of : {A : Type 0} → Front A → Option A
value_of r = option_map (λ p. p.0) r

unfoldable pub string_at : Bytes → Option Bytes
string_at raw = option_and_then bytes_of (value_of (pieces_at raw))

-- what is left is a piece of a text, which does not end there
abbrev pub inner_at : Bytes → Front Piece
inner_at text = elim (begins_with 34 text) [ true ↦ None | false ↦ piece_at text ]

-- the bytes that a text stands for, of which a code unit and this rest are left
unfoldable pub string_behind : ℕ → Bytes → Option Bytes
string_behind u rest = option_and_then (λ ps. bytes_of (unit u ∷ ps)) (value_of (pieces_at rest))

-- the character that a high and a low surrogate stand for
abbrev pub pair_of : ℕ → ℕ → ℕ
pair_of high low = 0x10000 + (high - 0xd800) * 1024 + (low - 0xdc00)

abbrev pub after_name : Bytes → Option Bytes → Option (Bytes × Bytes)
after_name begun rest = option_and_then (λ r. option_map (λ colon. (begun, colon)) (mark_at 58 r)) rest

unfoldable pub member_at : Bytes → Option (Bytes × Bytes)
member_at text = option_and_then (λ begun. after_name begun (rest_of (pieces_at begun))) (mark_at 34 text)

-- ---- values, past white space

abbrev pub text_at : Bytes → Front Json
text_at inside = option_map (λ q. (Text (bytes_of q.0), q.1)) (pieces_at inside)

abbrev pub array_at : ℕ → Bytes → Front Json
array_at depth inside = elim depth [
  | zero ↦ None
  | suc d ↦ elim (mark_at 93 inside) [
    | Some rest ↦ Some (Array no_items, rest)
    | None ↦ option_map (λ q. (Array q.0, q.1)) (items_at d inside)
  ]
]

abbrev pub object_at : ℕ → Bytes → Front Json
object_at depth inside = elim depth [
  | zero ↦ None
  | suc d ↦ elim (mark_at 125 inside) [
    | Some rest ↦ Some (Object no_members, rest)
    | None ↦ option_map (λ q. (Object q.0, q.1)) (members_at d inside)
  ]
]

abbrev pub value_from : ℕ → Bytes → Front Json
value_from depth [] = None
value_from depth (c ∷ cs) =
    cond (c == 34) (text_at cs) (cond (c == 91) (array_at depth cs) (cond (c == 123) (object_at depth cs) (plain_value_at (c ∷ cs))))
