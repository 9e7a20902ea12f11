use Rattle.std.proofs.Common.{◌≤◌}
use Rattle.vs_insert_tests.proofs.hub_tests.removed.Given as goal

abbrev pub invariant-loop-name : goal.invariant-loop-name
invariant-loop-name g l = l.graph.dim ≤ 64
