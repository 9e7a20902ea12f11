use Rattle.std.proofs.Common.{ap}
use Rattle.vs_insert_tests.proofs.Lasting.{free_at, drafted_last}
use Rattle.vs_insert_tests.proofs.growing.settle.Goals as goal

pub returns-clause-kept : goal.returns-clause-kept
returns-clause-kept g c =
    let s = c.args.graph.now in
    let at = g.N.Nodes.at s.nodes in
    let free = free_at (g.N.Nodes.at c.nodes.result.now) at c.limit-id.result (ap g.N.Nodes.at c.nodes.ensures.nodes) c.limit-id.ensures in
    λ level chosen are.
    drafted_last at (g.N.Nodes.at c.commit.new.graph.nodes) s.entry s.m s.dim c.limit-id.result _ c.args.draft free c.in_ok-commit.ensures.added c.commit.new.graph.m level chosen c.in_ok-commit.ensures.m are
