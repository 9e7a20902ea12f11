use Rattle.vs_core.proofs.Turning.{prepared}
use Rattle.vs_core.proofs.adding.choose.Goals as goal

pub returns-in-Ok-clause-turns : goal.returns-in-Ok-clause-turns
returns-in-Ok-clause-turns g c k store = prepared store k c.args.drafting c.in-Ok.ready c.in-Ok.ensures
