use Rattle.std.proofs.Common.{◌≡◌, length}
use Rattle.vs_attr.specs.Reading.{pieces_at, rest_of}
use Rattle.vs_attr.proofs.piece.text_end.Given as goal

abbrev pub invariant-loop-rest : goal.invariant-loop-rest
invariant-loop-rest l = rest_of (pieces_at l.text) ≡ rest_of (pieces_at l.fn.text)

abbrev pub decreases-loop-rest : goal.decreases-loop-rest
decreases-loop-rest l = length l.text
