use Rattle.std.proofs.Common.{sym, ◌∙◌, subst}
use Rattle.vs_thread_defs.specs.Core.{IsDrafting}
use Rattle.vs_thread_defs.specs.Interleaving as machine
use Rattle.vs_bits.specs.Requests.{add_of}
use Rattle.vs_core.specs.Actors.{actor_seen}
use Rattle.vs_core.specs.Turns.{Turns}
use Rattle.vs_core.proofs.Turning.{unsuited, idle_is, direct, drafted}
use Rattle.vs_core.proofs.adding.draft.Goals as goal

pub returns-then-not-is_idle-clause-turns : goal.returns-then-not-is_idle-clause-turns
returns-then-not-is_idle-clause-turns c k = unsuited (machine.Draft k (add_of c.args.add) c.args.word) c.args.store.now (actor_seen c.args.actor.now) (sym c.is_idle.ensures ∙ c.if-not-is_idle.true)

pub returns-then-not-can_draft-clause-turns : goal.returns-then-not-can_draft-clause-turns
returns-then-not-can_draft-clause-turns c k =
    let add = add_of c.args.add in
    let store = c.args.store.now in
    let idle = idle_is (actor_seen c.args.actor.now) (sym c.is_idle.ensures ∙ c.if-not-is_idle.false) in
    subst (λ x. Turns (machine.Draft k add c.args.word) store x machine.Direct store x) (sym idle) (direct store k add c.args.word (sym c.can_draft.ensures ∙ c.if-not-can_draft.true))

pub returns-in-Ok-clause-turns : goal.returns-in-Ok-clause-turns
returns-in-Ok-clause-turns c k =
    let add = add_of c.args.add in
    let store = c.args.store.now in
    let idle = idle_is (actor_seen c.args.actor.now) (sym c.is_idle.ensures ∙ c.if-not-is_idle.false) in
    let d = c.in-Ok.ensures in
    subst (λ x. Turns (machine.Draft k add c.args.word) store x machine.Drafted store (IsDrafting c.in-Ok.drafting)) (sym idle)
    (drafted store k add c.args.word c.in-Ok.drafting d.add d.drawn d.set d.draftable (sym c.can_draft.ensures ∙ c.if-not-can_draft.false) d.unrefused)
