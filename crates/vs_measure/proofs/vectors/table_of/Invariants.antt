use Rattle.std.proofs.Common.{◌≡◌}
use Rattle.vs_measure.proofs.vectors.table_of.Given as goal

abbrev pub invariant-loop-number : goal.invariant-loop-number
invariant-loop-number l = l.table.dim ≡ l.case.dim
