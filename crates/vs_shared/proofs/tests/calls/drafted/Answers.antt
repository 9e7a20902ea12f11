use Rattle.std.proofs.Common.{◌≡◌, sym, ap, ◌∙◌}
use Rattle.std.proofs.lemmas.Result.{IfOk-weaker}
use Rattle.vs_defs.specs.Request.{Vadd}
use Rattle.vs_thread_defs.specs.Core as core
use Rattle.vs_bits.specs.Requests.{add_of}
use Rattle.vs_command.specs.Requests.{request_of}
use Rattle.vs_store.specs.Drafts.{IsPrepared}
use Rattle.vs_shared.specs.Calls.{IsReadyAfter}
use Rattle.vs_shared.proofs.Committing.{drafted_at, ready_add, ready_drawn, ready_after}
use Rattle.vs_shared.proofs.tests.calls.drafted.Goals as goal

pub returns-clause-ready : goal.returns-clause-ready
returns-clause-ready g c =
    let limits = g.N.TableName.limits in
    let t = c.draft.new.pass.seen in
    let add = add_of c.in-Vadd.add in
    let d = c.in-Ok-Drafted.drafting in
    let at = drafted_at g.N.TableName.limits c.args.pass.now.number c.args.pass.now.seen c.draft.new.pass.seen add c.args.word c.in-Ok-Drafted.field-0 c.in-Ok-Drafted.drafting (c.in-Ok-Drafted.ensures.call add (ap request_of c.in-Vadd.is)) c.in-Ok-Drafted.field-0-is in
    IfOk-weaker c.prepared.result (IsPrepared d) (IsReadyAfter limits t) (λ (ready : core.Ready) p. ready_after limits t add c.args.word d ready at p) c.prepared.ensures

pub returns-clause-request : goal.returns-clause-request
returns-clause-request g c =
    let add = add_of c.in-Vadd.add in
    let d = c.in-Ok-Drafted.drafting in
    let asked : request_of c.args.request.now ≡ Vadd add = ap request_of c.in-Vadd.is in
    let at = drafted_at g.N.TableName.limits c.args.pass.now.number c.args.pass.now.seen c.draft.new.pass.seen add c.args.word c.in-Ok-Drafted.field-0 c.in-Ok-Drafted.drafting (c.in-Ok-Drafted.ensures.call add asked) c.in-Ok-Drafted.field-0-is in
    IfOk-weaker c.prepared.result (IsPrepared d) (λ (ready : core.Ready). request_of c.args.request.now ≡ Vadd ready.add)
    (λ (ready : core.Ready) p. asked ∙ ap Vadd (sym (ready_add g.N.TableName.limits c.draft.new.pass.seen add c.args.word d ready at p))) c.prepared.ensures

pub returns-clause-word : goal.returns-clause-word
returns-clause-word g c =
    let add = add_of c.in-Vadd.add in
    let d = c.in-Ok-Drafted.drafting in
    let at = drafted_at g.N.TableName.limits c.args.pass.now.number c.args.pass.now.seen c.draft.new.pass.seen add c.args.word c.in-Ok-Drafted.field-0 c.in-Ok-Drafted.drafting (c.in-Ok-Drafted.ensures.call add (ap request_of c.in-Vadd.is)) c.in-Ok-Drafted.field-0-is in
    IfOk-weaker c.prepared.result (IsPrepared d) (λ (ready : core.Ready). c.args.word ≡ ready.drawn)
    (λ (ready : core.Ready) p. sym (ready_drawn g.N.TableName.limits c.draft.new.pass.seen add c.args.word d ready at p)) c.prepared.ensures
