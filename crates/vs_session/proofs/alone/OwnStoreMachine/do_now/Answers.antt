use Rattle.vs_defs.specs.Reply as outcome
use Rattle.vs_command.specs.Outcomes.{outcome_of}
use Rattle.vs_command.specs.Requests.{request_of}
use Rattle.vs_session.proofs.Calls.{does_alone}
use Rattle.vs_session.proofs.Changes.{long_changes_nothing, short_reply_of}
use Rattle.vs_session.proofs.alone.OwnStoreMachine.do_now.Goals as goal

pub returns-clause-does : goal.returns-clause-does
returns-clause-does c author h stored =
    does_alone author c.args.self.now.store c.do_now.new.self h (request_of c.args.request) c.args.words.now (outcome_of c.do_now.result) stored c.requires.bounds c.requires.words c.do_now.ensures.does

pub returns-clause-long : goal.returns-clause-long
returns-clause-long c long author h stored =
    let same = long_changes_nothing c.args.self.now.store c.do_now.new.self (request_of c.args.request) c.args.words.now c.do_now.result c.do_now.ensures.does long in
    does_alone author c.args.self.now.store c.do_now.new.self h (request_of c.args.request) c.args.words.now outcome.OutOfMemory stored c.requires.bounds c.requires.words same

pub returns-clause-short : goal.returns-clause-short
returns-clause-short c none =
    short_reply_of c.args.self.now.store c.do_now.new.self (request_of c.args.request) c.args.words.now c.do_now.result c.do_now.ensures.does none
