-- What the types of this crate stand for.
use Rattle.std.specs.Prelude.{ℕ, ◌<◌, List, [], ◌∷◌, Option, Some, None, option_map, length}
use Rattle.std.specs.Borrow.{Bor}
use Rattle.std.specs.Char.{encode_utf8}
use Rattle.vs_defs.specs.Bytes.{Bytes}
use Rattle.vs_defs.specs.Json as json
use Rattle.vs_attr.specs.declared.piece.Piece.{Piece}
use Rattle.vs_attr.specs.declared.piece.Piece.TheVariants.{Plain, Unit as CodeUnit}
use Rattle.vs_attr.specs.declared.text.Step.{Step}
use Rattle.vs_attr.specs.declared.text.Step.TheVariants as step
use Rattle.vs_attr.specs.Reading.{string_at}

abbrev pub piece_seen : Piece → json.Piece
piece_seen (Plain byte) = json.plain byte
piece_seen (CodeUnit u) = json.unit u

-- the bytes that a text stands for, from a step on
abbrev pub step_seen : Step → Option Bytes
step_seen step.End = Some []
step_seen (step.Byte byte rest) = json.after_bytes (byte ∷ []) (string_at rest.now)
step_seen (step.Code code rest) = json.after_bytes (encode_utf8 code) (string_at rest.now)
step_seen step.Broken = None

-- a step leaves fewer than n bytes, and its character is one of Unicode
abbrev pub StepIsShorter : ℕ → Step → Type 0
StepIsShorter n step.End = Unit {0}
StepIsShorter n (step.Byte byte rest) = length rest.now < n
StepIsShorter n (step.Code code rest) = (length rest.now < n) × (code < 0x110000)
StepIsShorter n step.Broken = Unit {0}

abbrev pub piece_seen_with : Option (Piece × Bor (List ℕ)) → json.Front json.Piece
piece_seen_with r = option_map (λ p. (piece_seen p.0, p.1.now)) r

abbrev pub member_seen : Option (Bor Bytes × Bor Bytes) → Option (Bytes × Bytes)
member_seen r = option_map (λ m. (m.0.now, m.1.now)) r
