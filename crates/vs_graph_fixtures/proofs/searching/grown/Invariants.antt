use Rattle.std.proofs.Common.{◌≡◌}
use Rattle.vs_graph_fixtures.proofs.searching.grown.Given as goal

abbrev pub invariant-loop-number : goal.invariant-loop-number
invariant-loop-number g l = l.graph.dim ≡ 64
