-- What a text is, piece by piece.
use Rattle.std.proofs.Common.{◌≡◌, ℕ, ◌≤◌, Bool, true, false, cond, List, [], ◌∷◌, Option, Some, None, length, drop, refl, ap, ◌∙◌, option_map, option_and_then, is_some}
use Rattle.std.specs.Char.{encode_utf8}
use Rattle.vs_defs.specs.Bytes.{Bytes}
use Rattle.vs_defs.specs.Numeral.{begins_with}
use Rattle.vs_defs.specs.Json.{Front, Piece, plain, unit, piece_at, bytes_of, after_bytes, alone, is_high, is_low}
use Rattle.vs_attr.specs.Reading.{pieces_at, rest_of, value_of, string_at, string_behind, inner_at, pair_of}
use Rattle.vs_attr.proofs.Lengths.{Leaves-rest_of}
use Rattle.vs_attr.proofs.Turns.{pieces_leave, pieces_is, more_pieces, pieces_by}

pub pieces_end : (cs : Bytes) → pieces_at (34 ∷ cs) ≡ Some ([], cs)
pieces_end cs = pieces_is (34 ∷ cs)

pub text_end_last : (cs : Bytes) → rest_of (pieces_at (34 ∷ cs)) ≡ Some cs
text_end_last cs = ap rest_of (pieces_is (34 ∷ cs))

abbrev pub inner_by : Bool → Front Piece → Front Piece
inner_by v o = elim v [ true ↦ None | false ↦ o ]

inner_begins : (v : Bool) (o : Front Piece) (p : Piece × Bytes) → inner_by v o ≡ Some p → (v ≡ false) × (o ≡ Some p)
inner_begins true o p e = absurd (cc)
inner_begins false o p e = (refl, e)

-- a text of which an inner piece is left
pub pieces_next : (t : Bytes) (p : Piece × Bytes) → inner_at t ≡ Some p → pieces_at t ≡ option_map (λ q. (p.0 ∷ q.0, q.1)) (pieces_at p.1)
pieces_next t p e =
    let h : (begins_with 34 t ≡ false) × (piece_at t ≡ Some p) = inner_begins (begins_with 34 t) (piece_at t) p e in
    pieces_is t ∙ ap (λ v. pieces_by v (drop 1 t) (more_pieces pieces_at t)) h.0 ∙ ap (option_and_then (λ r. option_map (λ q. (r.0 ∷ q.0, q.1)) (pieces_at r.1))) h.1

pub pieces_broken : (t : Bytes) → begins_with 34 t ≡ false → piece_at t ≡ None → pieces_at t ≡ None
pieces_broken t b e =
    pieces_is t ∙ ap (λ v. pieces_by v (drop 1 t) (more_pieces pieces_at t)) b ∙ ap (option_and_then (λ r. option_map (λ q. (r.0 ∷ q.0, q.1)) (pieces_at r.1))) e

rest_of-cons : (p : Piece) (o : Front (List Piece)) → rest_of (option_map (λ q. (p ∷ q.0, q.1)) o) ≡ rest_of o
rest_of-cons p None = refl
rest_of-cons p (Some q) = refl

pub text_end_next : (t : Bytes) (p : Piece × Bytes) → inner_at t ≡ Some p → rest_of (pieces_at t) ≡ rest_of (pieces_at p.1)
text_end_next t p e = ap rest_of (pieces_next t p e) ∙ rest_of-cons p.0 (pieces_at p.1)

pub text_end_broken : (t : Bytes) → begins_with 34 t ≡ false → piece_at t ≡ None → rest_of (pieces_at t) ≡ None
text_end_broken t b e = ap rest_of (pieces_broken t b e)

closed_by : (t : Bytes) (v : Bool) → begins_with 34 t ≡ v → inner_by v (piece_at t) ≡ None → rest_of (pieces_at t) ≡ cond v (Some (drop 1 t)) None
closed_by t true b e = ap rest_of (pieces_is t ∙ ap (λ v. pieces_by v (drop 1 t) (more_pieces pieces_at t)) b)
closed_by t false b e = text_end_broken t b e

pub text_end_here : (t : Bytes) → inner_at t ≡ None → rest_of (pieces_at t) ≡ cond (begins_with 34 t) (Some (drop 1 t)) None
text_end_here t e = closed_by t (begins_with 34 t) refl e

-- ---- the bytes that a text stands for

abbrev bytes_in : Front (List Piece) → Option Bytes
bytes_in o = option_and_then bytes_of (value_of o)

pub string_end : (cs : Bytes) → string_at (34 ∷ cs) ≡ Some []
unfolding string_at
string_end cs = ap bytes_in (pieces_end cs)

pub string_broken : (t : Bytes) → begins_with 34 t ≡ false → piece_at t ≡ None → string_at t ≡ None
unfolding string_at
string_broken t b e = ap bytes_in (pieces_broken t b e)

plain_front : (b : ℕ) (o : Front (List Piece)) → bytes_in (option_map (λ q. (plain b ∷ q.0, q.1)) o) ≡ after_bytes (b ∷ []) (bytes_in o)
plain_front b None = refl
plain_front b (Some q) = refl

pub string_plain : (t : Bytes) (b : ℕ) (r : Bytes) → inner_at t ≡ Some (plain b, r) → string_at t ≡ after_bytes (b ∷ []) (string_at r)
unfolding string_at
string_plain t b r e = ap bytes_in (pieces_next t (plain b, r) e) ∙ plain_front b (pieces_at r)

unit_front : (u : ℕ) (o : Front (List Piece)) → bytes_in (option_map (λ q. (unit u ∷ q.0, q.1)) o) ≡ option_and_then (λ ps. bytes_of (unit u ∷ ps)) (value_of o)
unit_front u None = refl
unit_front u (Some q) = refl

pub string_unit : (t : Bytes) (u : ℕ) (r : Bytes) → inner_at t ≡ Some (unit u, r) → string_at t ≡ string_behind u r
unfolding string_at string_behind
string_unit t u r e = ap bytes_in (pieces_next t (unit u, r) e) ∙ unit_front u (pieces_at r)

-- ---- a code unit, and what follows it

low_first : (u : ℕ) (ps : List Piece) → is_high u ≡ false → bytes_of (unit u ∷ ps) ≡ alone u (bytes_of ps)
low_first u [] h = refl
low_first u (plain c ∷ ps) h = refl
low_first u (unit v ∷ ps) h = rw h refl

lone : (u : ℕ) (o : Option Bytes) → is_high u ≡ false → is_low u ≡ false → alone u o ≡ after_bytes (encode_utf8 u) o
lone u o h l = rw (h, l) refl

lone_low : (u : ℕ) (o : Option Bytes) → is_high u ≡ false → is_low u ≡ true → alone u o ≡ None
lone_low u o h l = rw (h, l) refl

lone_high : (u : ℕ) (o : Option Bytes) → is_high u ≡ true → alone u o ≡ None
lone_high u o h = rw h refl

front_single : (u : ℕ) (o : Front (List Piece)) → is_high u ≡ false → is_low u ≡ false → option_and_then (λ ps. bytes_of (unit u ∷ ps)) (value_of o) ≡ after_bytes (encode_utf8 u) (bytes_in o)
front_single u None h l = refl
front_single u (Some q) h l = low_first u q.0 h ∙ lone u (bytes_of q.0) h l

pub behind_single : (u : ℕ) (r : Bytes) → is_high u ≡ false → is_low u ≡ false → string_behind u r ≡ after_bytes (encode_utf8 u) (string_at r)
unfolding string_at string_behind
behind_single u r h l = front_single u (pieces_at r) h l

front_low : (u : ℕ) (o : Front (List Piece)) → is_high u ≡ false → is_low u ≡ true → option_and_then (λ ps. bytes_of (unit u ∷ ps)) (value_of o) ≡ None
front_low u None h l = refl
front_low u (Some q) h l = low_first u q.0 h ∙ lone_low u (bytes_of q.0) h l

pub behind_low : (u : ℕ) (r : Bytes) → is_high u ≡ false → is_low u ≡ true → string_behind u r ≡ None
unfolding string_behind
behind_low u r h l = front_low u (pieces_at r) h l

pair_first : (u v : ℕ) (ps : List Piece) → is_high u ≡ true → is_low v ≡ true → bytes_of (unit u ∷ unit v ∷ ps) ≡ after_bytes (encode_utf8 (pair_of u v)) (bytes_of ps)
pair_first u v ps h l = rw (h, l) refl

front_pair : (u v : ℕ) (o : Front (List Piece)) → is_high u ≡ true → is_low v ≡ true → option_and_then (λ ps. bytes_of (unit u ∷ ps)) (value_of (option_map (λ q. (unit v ∷ q.0, q.1)) o)) ≡ after_bytes (encode_utf8 (pair_of u v)) (bytes_in o)
front_pair u v None h l = refl
front_pair u v (Some q) h l = pair_first u v q.0 h l

pub behind_pair : (u v : ℕ) (r rest : Bytes) → is_high u ≡ true → is_low v ≡ true → inner_at r ≡ Some (unit v, rest) → string_behind u r ≡ after_bytes (encode_utf8 (pair_of u v)) (string_at rest)
unfolding string_at string_behind
behind_pair u v r rest h l e =
    ap (λ o. option_and_then (λ ps. bytes_of (unit u ∷ ps)) (value_of o)) (pieces_next r (unit v, rest) e) ∙ front_pair u v (pieces_at rest) h l

-- a piece that is no low surrogate
abbrev pub IsNotLow : Piece → Type 0
IsNotLow (plain b) = Unit {0}
IsNotLow (unit v) = is_low v ≡ false

high_before : (u : ℕ) (p : Piece) (ps : List Piece) → is_high u ≡ true → IsNotLow p → bytes_of (unit u ∷ p ∷ ps) ≡ None
high_before u (plain b) ps h n = lone_high u (after_bytes (b ∷ []) (bytes_of ps)) h
high_before u (unit v) ps h n = rw (h, n) refl

front_high : (u : ℕ) (p : Piece) (o : Front (List Piece)) → is_high u ≡ true → IsNotLow p → option_and_then (λ ps. bytes_of (unit u ∷ ps)) (value_of (option_map (λ q. (p ∷ q.0, q.1)) o)) ≡ None
front_high u p None h n = refl
front_high u p (Some q) h n = high_before u p q.0 h n

pub behind_piece : (u : ℕ) (r : Bytes) (p : Piece × Bytes) → is_high u ≡ true → inner_at r ≡ Some p → IsNotLow p.0 → string_behind u r ≡ None
unfolding string_behind
behind_piece u r p h e n =
    ap (λ o. option_and_then (λ ps. bytes_of (unit u ∷ ps)) (value_of o)) (pieces_next r p e) ∙ front_high u p.0 (pieces_at p.1) h n

behind_by : (u : ℕ) (r : Bytes) (v : Bool) → is_high u ≡ true → begins_with 34 r ≡ v → inner_by v (piece_at r) ≡ None → option_and_then (λ ps. bytes_of (unit u ∷ ps)) (value_of (pieces_at r)) ≡ None
behind_by u r true h b e =
    ap (λ o. option_and_then (λ ps. bytes_of (unit u ∷ ps)) (value_of o)) (pieces_is r ∙ ap (λ v. pieces_by v (drop 1 r) (more_pieces pieces_at r)) b) ∙ lone_high u (Some []) h
behind_by u r false h b e = ap (λ o. option_and_then (λ ps. bytes_of (unit u ∷ ps)) (value_of o)) (pieces_broken r b e)

pub behind_none : (u : ℕ) (r : Bytes) → is_high u ≡ true → inner_at r ≡ None → string_behind u r ≡ None
unfolding string_behind
behind_none u r h e = behind_by u r (begins_with 34 r) h refl e

behind_unit_by : (u v : ℕ) (r rest : Bytes) (low : Bool) → is_high u ≡ true → inner_at r ≡ Some (unit v, rest) → is_low v ≡ low → string_behind u r ≡ cond low (after_bytes (encode_utf8 (pair_of u v)) (string_at rest)) None
behind_unit_by u v r rest true h e l = behind_pair u v r rest h l e
behind_unit_by u v r rest false h e l = behind_piece u r (unit v, rest) h e l

pub behind_unit : (u v : ℕ) (r rest : Bytes) → is_high u ≡ true → inner_at r ≡ Some (unit v, rest) → string_behind u r ≡ cond (is_low v) (after_bytes (encode_utf8 (pair_of u v)) (string_at rest)) None
behind_unit u v r rest h e = behind_unit_by u v r rest (is_low v) h e refl

string_here_by : (t : Bytes) (v : Bool) → begins_with 34 t ≡ v → inner_by v (piece_at t) ≡ None → string_at t ≡ cond v (Some []) None
unfolding string_at
string_here_by t true b e = ap bytes_in (pieces_is t ∙ ap (λ v. pieces_by v (drop 1 t) (more_pieces pieces_at t)) b)
string_here_by t false b e = ap bytes_in (pieces_broken t b e)

pub string_here : (t : Bytes) → inner_at t ≡ None → string_at t ≡ cond (begins_with 34 t) (Some []) None
string_here t e = string_here_by t (begins_with 34 t) refl e

pub some_after : (front : Bytes) (o : Option Bytes) → is_some (after_bytes front o) ≡ is_some o
some_after front None = refl
some_after front (Some bytes) = refl

pub pieces_rest : (t r : Bytes) → rest_of (pieces_at t) ≡ Some r → length r ≤ length t
pieces_rest t r e = Leaves-rest_of (length t) (pieces_at t) r (pieces_leave t) e
