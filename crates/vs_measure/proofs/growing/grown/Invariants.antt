use Rattle.std.proofs.Common.{◌≡◌}
use Rattle.vs_measure.proofs.growing.grown.Given as goal

abbrev pub invariant-loop-row : goal.invariant-loop-row
invariant-loop-row g l = l.graph.dim ≡ l.case.dim
