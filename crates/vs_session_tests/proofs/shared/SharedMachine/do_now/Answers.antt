use Rattle.vs_defs.specs.Reply as outcome
use Rattle.vs_command.specs.Outcomes.{outcome_of}
use Rattle.vs_command.specs.Requests.{request_of}
use Rattle.vs_session.proofs.Changes.{long_changes_nothing, short_reply_of}
use Rattle.vs_session_tests.proofs.Later.{does_later}
use Rattle.vs_session_tests.proofs.shared.SharedMachine.do_now.Goals as goal

pub returns-clause-does : goal.returns-clause-does
returns-clause-does c author h knows =
    does_later author c.let_other_remove.new.store c.do_now.new.self h (request_of c.args.request) c.args.words.now (outcome_of c.do_now.result)
    knows.0 (c.let_other_remove.ensures h knows.1) c.requires.bounds c.requires.words c.do_now.ensures.does

pub returns-clause-long : goal.returns-clause-long
returns-clause-long c long author h knows =
    let same = long_changes_nothing c.let_other_remove.new.store c.do_now.new.self (request_of c.args.request) c.args.words.now c.do_now.result c.do_now.ensures.does long in
    does_later author c.let_other_remove.new.store c.do_now.new.self h (request_of c.args.request) c.args.words.now outcome.OutOfMemory
    knows.0 (c.let_other_remove.ensures h knows.1) c.requires.bounds c.requires.words same

pub returns-clause-short : goal.returns-clause-short
returns-clause-short c none =
    short_reply_of c.let_other_remove.new.store c.do_now.new.self (request_of c.args.request) c.args.words.now c.do_now.result c.do_now.ensures.does none
