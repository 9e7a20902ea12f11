use Rattle.std.proofs.Common.{◌≡◌}
use Rattle.vs_counting_tests.proofs.counting_tests.grow.Given as goal

abbrev pub invariant-loop-number : goal.invariant-loop-number
invariant-loop-number g l = l.graph.dim ≡ 20
