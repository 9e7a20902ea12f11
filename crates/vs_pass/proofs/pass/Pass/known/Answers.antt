use Rattle.std.proofs.Common.{subst}
use Rattle.vs_thread_defs.specs.Machine.{IsGoodThroughout}
use Rattle.vs_pass.specs.Knower.{Knower}
use Rattle.vs_pass.proofs.pass.Pass.known.Goals as goal

pub returns-clause-good : goal.returns-clause-good
returns-clause-good g c = subst (λ (k : Knower). IsGoodThroughout k.seen) c.self.view_is c.self.invariant.good
