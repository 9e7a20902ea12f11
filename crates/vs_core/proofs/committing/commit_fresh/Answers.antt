use Rattle.std.proofs.Common.{None, Err, sym, ap, ◌∙◌, subst}
use Rattle.vs_thread_defs.specs.Core.{Idle, IsReady}
use Rattle.vs_thread_defs.specs.Interleaving as machine
use Rattle.vs_command.specs.Answers.{answer_of}
use Rattle.vs_command.specs.Refusals.{refusal_of}
use Rattle.vs_core.specs.Events.{refused_by}
use Rattle.vs_core.specs.Turns.{Turns}
use Rattle.vs_core.proofs.Turning.{may_commit, committed, commit_refused}
use Rattle.vs_core.proofs.committing.commit_fresh.Goals as goal

pub commit-requires : goal.commit-requires
commit-requires g c = record { may = may_commit c.draft_laws.ensures.keeps_chosen c.args.store.now c.args.ready c.requires.stands }

pub returns-in-Ok-clause-turns : goal.returns-in-Ok-clause-turns
returns-in-Ok-clause-turns g c = committed c.args.store.now c.args.number c.args.ready c.commit.new.self (answer_of c.in-Ok.answer) c.add-add.ensures.bounds c.requires.fresh c.in-Ok.ensures.committed

pub returns-in-Err-NoMemory-clause-turns : goal.returns-in-Err-NoMemory-clause-turns
returns-in-Err-NoMemory-clause-turns g c =
    subst (λ x. Turns (machine.Commit c.args.number) c.args.store.now (IsReady c.args.ready) machine.OutOfMemory x Idle) (sym c.in-Err-NoMemory.ensures.err)
    (commit_refused c.args.store.now c.args.number c.args.ready None c.requires.fresh tt)

pub returns-in-Err-Refused-clause-turns : goal.returns-in-Err-Refused-clause-turns
returns-in-Err-Refused-clause-turns g c =
    let cause = refusal_of c.in-Err-Refused.refusal in
    let refused = c.commit.ensures.refused c.in-Err-Refused.refusal (c.in-Err-Refused.is ∙ ap (λ e. Err e) c.in-Err-Refused.field-0-is) in
    subst (λ x. Turns (machine.Commit c.args.number) c.args.store.now (IsReady c.args.ready) (refused_by cause) x Idle) (sym c.in-Err-Refused.ensures.err)
    (commit_refused c.args.store.now c.args.number c.args.ready cause c.requires.fresh refused.1)
