use Rattle.std.proofs.Common.{◌≡◌, sym, ap, ◌∙◌}
use Rattle.vs_defs.specs.Request.{Vadd}
use Rattle.vs_bits.specs.Requests.{add_of}
use Rattle.vs_command.specs.Requests.{request_of}
use Rattle.vs_shared.proofs.Committing.{drafted_at, ready_add, ready_drawn, ready_after}
use Rattle.vs_measure_shared.proofs.holding.drafted.Goals as goal

pub returns-clause-ready : goal.returns-clause-ready
returns-clause-ready g c =
    let add = add_of c.in-Vadd.add in
    let d = c.in-Ok-Drafted in
    let at = drafted_at g.N.TableName.limits c.args.pass.now.number c.args.pass.now.seen c.draft.new.pass.seen add c.args.word d.field-0 d.drafting (d.ensures.call add (ap request_of c.in-Vadd.is)) d.field-0-is in
    ready_after g.N.TableName.limits c.draft.new.pass.seen add c.args.word d.drafting c.in_ok-ready.ready at c.in_ok-ready.ensures

pub returns-clause-request : goal.returns-clause-request
returns-clause-request g c =
    let add = add_of c.in-Vadd.add in
    let d = c.in-Ok-Drafted in
    let asked : request_of c.args.request.now ≡ Vadd add = ap request_of c.in-Vadd.is in
    let at = drafted_at g.N.TableName.limits c.args.pass.now.number c.args.pass.now.seen c.draft.new.pass.seen add c.args.word d.field-0 d.drafting (d.ensures.call add asked) d.field-0-is in
    asked ∙ ap Vadd (sym (ready_add g.N.TableName.limits c.draft.new.pass.seen add c.args.word d.drafting c.in_ok-ready.ready at c.in_ok-ready.ensures))

pub returns-clause-word : goal.returns-clause-word
returns-clause-word g c =
    let add = add_of c.in-Vadd.add in
    let d = c.in-Ok-Drafted in
    let at = drafted_at g.N.TableName.limits c.args.pass.now.number c.args.pass.now.seen c.draft.new.pass.seen add c.args.word d.field-0 d.drafting (d.ensures.call add (ap request_of c.in-Vadd.is)) d.field-0-is in
    sym (ready_drawn g.N.TableName.limits c.draft.new.pass.seen add c.args.word d.drafting c.in_ok-ready.ready at c.in_ok-ready.ensures)
