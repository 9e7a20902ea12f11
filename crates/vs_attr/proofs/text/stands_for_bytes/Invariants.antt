use Rattle.std.proofs.Common.{◌≡◌, length, is_some}
use Rattle.vs_attr.specs.Reading.{string_at}
use Rattle.vs_attr.proofs.text.stands_for_bytes.Given as goal

abbrev pub invariant-loop-rest : goal.invariant-loop-rest
invariant-loop-rest l = is_some (string_at l.raw) ≡ is_some (string_at l.fn.raw)

abbrev pub decreases-loop-rest : goal.decreases-loop-rest
decreases-loop-rest l = length l.raw
