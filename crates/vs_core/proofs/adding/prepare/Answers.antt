use Rattle.std.proofs.Common.{ap, subst}
use Rattle.vs_thread_defs.specs.Interleaving as machine
use Rattle.vs_core.specs.Actors.{actor_seen}
use Rattle.vs_core.specs.Turns.{Turns}
use Rattle.vs_core.proofs.Turning.{unsuited, not_drafting}
use Rattle.vs_core.proofs.adding.prepare.Goals as goal

pub returns-in_default : goal.returns-in_default
returns-in_default c =
    let now = actor_seen c.replace.result in record {
      turns = λ k store.
          subst (λ x. Turns (machine.Prepare k) store x machine.ActorIdle store now) (ap actor_seen c.replace.ensures.value) (unsuited (machine.Prepare k) store now (not_drafting c.replace.result c.in_default.not-Drafting));
      scores = tt;
      err = c.replace.ensures.value;
    }
