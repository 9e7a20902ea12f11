use Rattle.std.proofs.Common.{◌≤◌}
use Rattle.vs_insert_tests.proofs.counting_tests.counts_by.Given as goal

abbrev pub invariant-loop-level : goal.invariant-loop-level
invariant-loop-level g l = l.graph.dim ≤ 64
