use Rattle.std.proofs.Common.{◌∙◌, ap, sym, refl, [], ◌∷◌, Ok, Err}
use Rattle.vs_defs.specs.Request as request
use Rattle.vs_command.specs.Requests.{request_of}
use Rattle.vs_shared.specs.Calls.{prepared_after}
use Rattle.vs_session.proofs.Passing.{cas_add, at_once, watching_starved, was_drafted, was_done, ready_after, committed_as}
use Rattle.vs_session.proofs.call.call_addition.Goals as goal

pub returns-in-Ok-Done-clause-call : goal.returns-in-Ok-Done-clause-call
returns-in-Ok-Done-clause-call g c =
    let add = cas_add (request_of c.args.request.now) c.requires.cas in
    at_once g.N.TableName.limits c.args.pass.now.number (request_of c.args.request.now) add.0 add.1 c.args.word c.args.pass.now.seen c.draft.new.pass.seen c.told.result (Ok c.in-Ok-Done.answer) c.told.ensures
    (was_done g.N.TableName.limits c.args.pass.now.number add.0 c.args.word c.args.pass.now.seen c.draft.new.pass.seen c.in-Ok-Done.field-0 c.in-Ok-Done.answer c.in-Ok-Done.field-0-is (c.in-Ok-Done.ensures.call add.0 add.1))

pub returns-in-Err-clause-call : goal.returns-in-Err-clause-call
returns-in-Err-clause-call g c =
    let add = cas_add (request_of c.args.request.now) c.requires.cas in
    at_once g.N.TableName.limits c.args.pass.now.number (request_of c.args.request.now) add.0 add.1 c.args.word c.args.pass.now.seen c.draft.new.pass.seen (Err c.in-Err.refusal) (Err c.in-Err.refusal) refl
    (c.in-Err.ensures.call add.0 add.1)

pub returns-in_default-clause-call : goal.returns-in_default-clause-call
returns-in_default-clause-call g c =
    let add = cas_add (request_of c.args.request.now) c.requires.cas in
    let d = c.in-Ok-Drafted in
    let drafted = was_drafted g.N.TableName.limits c.args.pass.now.number add.0 c.args.word c.args.pass.now.seen c.draft.new.pass.seen d.field-0 d.drafting d.field-0-is (d.ensures.call add.0 add.1) in
    watching_starved g.N.TableName.limits c.args.pass.now.number c.args.pass.now.seen c.draft.new.pass.seen (request_of c.args.request.now) (c.args.word ∷ []) drafted.0

pub commit-requires-clause-request : goal.commit-requires-clause-request
commit-requires-clause-request g c =
    let add = cas_add (request_of c.args.request.now) c.requires.cas in
    let d = c.in-Ok-Drafted in
    let drafted = was_drafted g.N.TableName.limits c.args.pass.now.number add.0 c.args.word c.args.pass.now.seen c.draft.new.pass.seen d.field-0 d.drafting d.field-0-is (d.ensures.call add.0 add.1) in
    add.1 ∙ ap request.Vadd (sym (c.in-Ok.ensures.add ∙ drafted.1.add_is))

pub commit-requires-clause-word : goal.commit-requires-clause-word
commit-requires-clause-word g c =
    let add = cas_add (request_of c.args.request.now) c.requires.cas in
    let d = c.in-Ok-Drafted in
    let drafted = was_drafted g.N.TableName.limits c.args.pass.now.number add.0 c.args.word c.args.pass.now.seen c.draft.new.pass.seen d.field-0 d.drafting d.field-0-is (d.ensures.call add.0 add.1) in
    sym (c.in-Ok.ensures.drawn ∙ drafted.1.drawn_is)

pub commit-requires-clause-ready : goal.commit-requires-clause-ready
commit-requires-clause-ready g c =
    let add = cas_add (request_of c.args.request.now) c.requires.cas in
    let d = c.in-Ok-Drafted in
    let drafted = was_drafted g.N.TableName.limits c.args.pass.now.number add.0 c.args.word c.args.pass.now.seen c.draft.new.pass.seen d.field-0 d.drafting d.field-0-is (d.ensures.call add.0 add.1) in
    ready_after g.N.TableName.limits c.args.pass.now.number c.draft.new.pass.seen add.0 c.args.word c.in-Ok-Drafted.drafting c.in-Ok.ready drafted.1 c.in-Ok.ensures

pub returns-clause-call : goal.returns-clause-call
returns-clause-call g c =
    let add = cas_add (request_of c.args.request.now) c.requires.cas in
    let d = c.in-Ok-Drafted in
    let drafted = was_drafted g.N.TableName.limits c.args.pass.now.number add.0 c.args.word c.args.pass.now.seen c.draft.new.pass.seen d.field-0 d.drafting d.field-0-is (d.ensures.call add.0 add.1) in
    let ready = c.in-Ok.ready in
    committed_as g.N.TableName.limits c.args.pass.now.number c.draft.new.pass.number c.args.pass.now.seen c.draft.new.pass.seen c.commit.new.pass.seen (request_of c.args.request.now) ready.add c.args.word
    (prepared_after c.draft.new.pass.seen ready) c.told-2.result c.commit.result c.in-Ok-Drafted.ensures.number (add.1 ∙ ap request.Vadd (sym (c.in-Ok.ensures.add ∙ drafted.1.add_is))) c.told-2.ensures drafted.0 c.commit.ensures.call
