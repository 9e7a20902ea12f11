use Rattle.std.proofs.Common.{sym, ◌∙◌, subst}
use Rattle.vs_thread_defs.specs.Core.{Idle}
use Rattle.vs_thread_defs.specs.Interleaving as machine
use Rattle.vs_command.specs.Outcomes.{outcome_of}
use Rattle.vs_command.specs.Requests.{request_of}
use Rattle.vs_core.specs.Actors.{actor_seen}
use Rattle.vs_core.specs.Events.{stepped}
use Rattle.vs_core.specs.Turns.{Turns}
use Rattle.vs_core.proofs.Turning.{unsuited, idle_is, done}
use Rattle.vs_core.proofs.doing.do_at_once.Goals as goal

pub returns-then-not-is_idle-clause-turns : goal.returns-then-not-is_idle-clause-turns
returns-then-not-is_idle-clause-turns c =
    unsuited (machine.Do c.args.number (request_of c.args.request.now) c.args.words.now) c.args.store.now (actor_seen c.args.actor.now) (sym c.is_idle.ensures ∙ c.if-not-is_idle.true)

pub returns-clause-turns : goal.returns-clause-turns
returns-clause-turns c =
    let r = request_of c.args.request.now in
    let e = machine.Do c.args.number r c.args.words.now in
    let old = c.args.store.now in
    let new = c.do_now-done.new.self in
    let idle = idle_is (actor_seen c.args.actor.now) (sym c.is_idle.ensures ∙ c.if-not-is_idle.false) in
    subst (λ x. Turns e old x (stepped c.outcome.result) new x) (sym idle)
    (subst (λ o. Turns e old Idle o new Idle) (sym c.outcome.ensures.outcome)
    (done c.args.number r c.args.words.now old new (outcome_of c.do_now-done.result) c.requires.bounds c.requires.words c.do_now-done.ensures.does))
