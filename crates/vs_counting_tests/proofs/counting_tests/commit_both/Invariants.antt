use Rattle.std.proofs.Common.{◌≡◌}
use Rattle.vs_counting_tests.proofs.counting_tests.commit_both.Given as goal

abbrev pub invariant-loop-level : goal.invariant-loop-level
invariant-loop-level g l = l.graph.dim ≡ 20
