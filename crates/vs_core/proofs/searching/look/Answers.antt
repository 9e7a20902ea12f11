use Rattle.std.proofs.Common.{sym, ◌∙◌, subst}
use Rattle.vs_thread_defs.specs.Core.{IsLooking}
use Rattle.vs_thread_defs.specs.Interleaving as machine
use Rattle.vs_command.specs.Requests.{search_of}
use Rattle.vs_core.specs.Actors.{actor_seen}
use Rattle.vs_core.specs.Turns.{Turns}
use Rattle.vs_core.proofs.Turning.{unsuited, idle_is, looked}
use Rattle.vs_core.proofs.searching.look.Goals as goal

pub returns-then-not-is_idle-clause-turns : goal.returns-then-not-is_idle-clause-turns
returns-then-not-is_idle-clause-turns c k = unsuited (machine.Look k (search_of c.args.search)) c.args.store.now (actor_seen c.args.actor.now) (sym c.is_idle.ensures ∙ c.if-not-is_idle.true)

pub returns-in-Ok-clause-turns : goal.returns-in-Ok-clause-turns
returns-in-Ok-clause-turns c k =
    let search = search_of c.args.search in
    let store = c.args.store.now in
    let idle = idle_is (actor_seen c.args.actor.now) (sym c.is_idle.ensures ∙ c.if-not-is_idle.false) in
    let l = c.in-Ok.ensures in
    subst (λ x. Turns (machine.Look k search) store x machine.Looked store (IsLooking c.in-Ok.looked)) (sym idle) (looked store k search c.in-Ok.looked l.search l.set l.unrefused)
