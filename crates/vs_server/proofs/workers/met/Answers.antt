use Rattle.std.proofs.Common.{Option, refl, sym, subst}
use Rattle.vs_defs.specs.History.{IsPrefix}
use Rattle.vs_pass.specs.Knower.{Knower}
use Rattle.vs_server.specs.Ended.{seen_by}
use Rattle.vs_server.proofs.workers.met.Goals as goal

pub returns-in-None-clause-last : goal.returns-in-None-clause-last
returns-in-None-clause-last g c = subst (λ (o : Option Knower). IsPrefix (seen_by o) c.args.pass.seen) (sym c.in-None.is) (c.args.pass.seen, refl)
