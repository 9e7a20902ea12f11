use Rattle.std.proofs.Common.{Option, subst, sym}
use Rattle.vs_thread_defs.specs.Machine.{IsGoodThroughout}
use Rattle.vs_pass.specs.Knower.{Knower}
use Rattle.vs_server.specs.Ended.{seen_by}
use Rattle.vs_server.proofs.workers.end_last.Goals as goal

pub returns-in-Some-clause-good : goal.returns-in-Some-clause-good
returns-in-Some-clause-good g c = subst (λ (o : Option Knower). IsGoodThroughout (seen_by o)) (sym c.in-Some.is) c.known-known.ensures.good
