use Rattle.std.proofs.Common.{◌≡◌, length}
use Rattle.vs_measure.proofs.vectors.uniform.Given as goal

abbrev pub invariant-loop-number : goal.invariant-loop-number
invariant-loop-number l = length l.words.items ≡ l.number
