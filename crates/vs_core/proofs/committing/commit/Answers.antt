use Rattle.std.proofs.Common.{ap, refl, subst}
use Rattle.vs_thread_defs.specs.Interleaving as machine
use Rattle.vs_core.specs.Actors.{actor_seen}
use Rattle.vs_core.specs.Turns.{Turns}
use Rattle.vs_core.proofs.Turning.{unsuited, not_ready}
use Rattle.vs_core.proofs.committing.commit.Goals as goal

pub returns-in_default : goal.returns-in_default
returns-in_default c =
    let now = actor_seen c.replace.result in
    let e = machine.Commit c.args.number in
    let store = c.args.store.now in record {
      turns = subst (λ x. Turns e store x machine.ActorIdle store now) (ap actor_seen c.replace.ensures.value) (unsuited e store now (not_ready c.replace.result c.in_default.not-Ready));
      scores = tt;
      store = refl;
      actor = c.replace.ensures.value;
    }
