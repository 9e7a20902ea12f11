use Rattle.vs_command.specs.Answers.{answer_of}
use Rattle.vs_command.specs.Requests.{request_of}
use Rattle.vs_defs.specs.Store.{plain}
use Rattle.vs_generate.proofs.Asks.{asked}
use Rattle.vs_generate.proofs.asking.ask.Goals as goal

pub returns-in-Ok-clause-same : goal.returns-in-Ok-clause-same
returns-in-Ok-clause-same c =
    (asked c.args.store.now c.do_now.new.self (request_of c.args.request.now) (answer_of c.in-Ok.answer) (c.requires.quiet (plain c.args.store.now)) c.in-Ok.ensures.does).0

pub returns-in-Ok-clause-answers : goal.returns-in-Ok-clause-answers
returns-in-Ok-clause-answers c =
    (asked c.args.store.now c.do_now.new.self (request_of c.args.request.now) (answer_of c.in-Ok.answer) (c.requires.quiet (plain c.args.store.now)) c.in-Ok.ensures.does).1
