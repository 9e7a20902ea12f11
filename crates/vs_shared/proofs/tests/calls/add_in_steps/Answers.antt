use Rattle.std.proofs.Common.{◌≡◌, sym, ap, ◌∙◌}
use Rattle.vs_defs.specs.Request.{Vadd}
use Rattle.vs_bits.specs.Requests.{add_of}
use Rattle.vs_command.specs.Requests.{request_of}
use Rattle.vs_shared.proofs.Committing.{drafted_at, ready_add, ready_drawn, ready_after}
use Rattle.vs_shared.proofs.tests.calls.add_in_steps.Goals as goal

pub commit-requires-clause-request : goal.commit-requires-clause-request
commit-requires-clause-request g c =
    let add = add_of c.in-Vadd.add in
    let asked : request_of c.args.request.now ≡ Vadd add = ap request_of c.in-Vadd.is in
    let at = drafted_at g.N.TableName.limits c.args.pass.now.number c.args.pass.now.seen c.draft.new.pass.seen add c.args.word c.in-Ok-Drafted.field-0 c.in-Ok-Drafted.drafting (c.in-Ok-Drafted.ensures.call add asked) c.in-Ok-Drafted.field-0-is in
    let ready = c.in_ok-ready-in-Ok-Drafted.ready in
    asked ∙ ap Vadd (sym (ready_add g.N.TableName.limits c.draft.new.pass.seen add c.args.word c.in-Ok-Drafted.drafting ready at c.in_ok-ready-in-Ok-Drafted.ensures))

pub commit-requires-clause-word : goal.commit-requires-clause-word
commit-requires-clause-word g c =
    let add = add_of c.in-Vadd.add in
    let at = drafted_at g.N.TableName.limits c.args.pass.now.number c.args.pass.now.seen c.draft.new.pass.seen add c.args.word c.in-Ok-Drafted.field-0 c.in-Ok-Drafted.drafting (c.in-Ok-Drafted.ensures.call add (ap request_of c.in-Vadd.is)) c.in-Ok-Drafted.field-0-is in
    let ready = c.in_ok-ready-in-Ok-Drafted.ready in
    sym (ready_drawn g.N.TableName.limits c.draft.new.pass.seen add c.args.word c.in-Ok-Drafted.drafting ready at c.in_ok-ready-in-Ok-Drafted.ensures)

pub commit-requires-clause-ready : goal.commit-requires-clause-ready
commit-requires-clause-ready g c =
    let add = add_of c.in-Vadd.add in
    let at = drafted_at g.N.TableName.limits c.args.pass.now.number c.args.pass.now.seen c.draft.new.pass.seen add c.args.word c.in-Ok-Drafted.field-0 c.in-Ok-Drafted.drafting (c.in-Ok-Drafted.ensures.call add (ap request_of c.in-Vadd.is)) c.in-Ok-Drafted.field-0-is in
    let ready = c.in_ok-ready-in-Ok-Drafted.ready in
    ready_after g.N.TableName.limits c.draft.new.pass.seen add c.args.word c.in-Ok-Drafted.drafting ready at c.in_ok-ready-in-Ok-Drafted.ensures
