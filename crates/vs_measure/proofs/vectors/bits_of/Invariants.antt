use Rattle.std.proofs.Common.{◌≡◌, length}
use Rattle.vs_measure.proofs.vectors.bits_of.Given as goal

abbrev pub invariant-loop-place : goal.invariant-loop-place
invariant-loop-place l = length l.signs.items ≡ l.place
