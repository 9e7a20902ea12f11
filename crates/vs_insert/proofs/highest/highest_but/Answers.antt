use Rattle.std.proofs.Common.{arith}
use Rattle.vs_graph.specs.Edits.{overwritten}
use Rattle.vs_insert.proofs.Heights.{highest_is}
use Rattle.vs_insert.proofs.highest.highest_but.Goals as goal

pub returns-clause-named : goal.returns-clause-named
returns-clause-named g c =
    let at = overwritten c.args.edit.now (g.N.Nodes.at c.args.base.now) in
    λ m dim ids good are.
    highest_is at m dim ids good are c.args.but c.loop-id.id (λ q some. omega (arith, c.limit-id-end.ensures q (c.requires q some), c.loop-id-test.false)) c.loop-id.best c.loop-id.invariant
