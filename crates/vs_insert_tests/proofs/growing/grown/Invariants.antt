use Rattle.std.proofs.Common.{◌≡◌}
use Rattle.vs_insert_tests.proofs.growing.grown.Given as goal

abbrev pub invariant-loop-number : goal.invariant-loop-number
invariant-loop-number g l = l.graph.dim ≡ l.dim
