use Rattle.std.proofs.Common.{sym}
use Rattle.vs_beam.specs.Beam.{attr_at}
use Rattle.vs_beam.proofs.looking.look.Goals as goal

pub returns-then-is_everyone-clause-passes : goal.returns-then-is_everyone-clause-passes
returns-then-is_everyone-clause-passes g c = λ passes answers.
    sym (c.is_everyone.ensures c.if-is_everyone.true passes answers (attr_at (g.N.Nodes.at c.args.nodes.now) c.args.id))
