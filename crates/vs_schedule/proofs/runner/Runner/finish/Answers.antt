use Rattle.std.proofs.Common.{rules, ◌≡◌, ◌<◌, [], None, length, sym, subst, append-nil, arith}
use Rattle.vs_outside.proofs.KnownBytes.{Adds-none}
use Rattle.vs_schedule.specs.Ends.{EndsWith}
use Rattle.vs_schedule.specs.declared.end.ScheduleEnd.TheVariants.{Ended}
use Rattle.vs_schedule.proofs.Runs.{ends_whole, last_goes, last_stops, no_bytes}
use Rattle.vs_schedule.proofs.runner.Runner.finish.Goals as goal

pub returns-then-len-eq0-clause-ends : goal.returns-then-len-eq0-clause-ends
returns-then-len-eq0-clause-ends g c input out going =
    let none : length c.args.self.line ≡ 0 = grind arith in
    ([], Adds-none _, subst (EndsWith Ended input) (sym (append-nil out)) (ends_whole c.args.self.core c.args.self.line c.args.self.number input out (no_bytes c.args.self.line none) going))

pub returns-in-Some-clause-ends : goal.returns-in-Some-clause-ends
returns-in-Some-clause-ends g c input out going =
    let some : 0 < length c.args.self.line = grind arith in
    last_stops c.args.self.core c.answer.new.self.core c.args.self.line c.args.self.number input out (g.K.Sink.written c.args.sink.now) (g.K.Sink.written c.answer.new.sink) c.answer.result c.in-Some.end
    some going c.answer.ensures.answers c.in-Some.is

pub returns-clause-ends : goal.returns-clause-ends
returns-clause-ends g c input out going =
    let none : c.answer.result ≡ None = search rules in
    let some : 0 < length c.args.self.line = grind arith in
    last_goes c.args.self.core c.answer.new.self.core c.args.self.line c.args.self.number input out (g.K.Sink.written c.args.sink.now) (g.K.Sink.written c.answer.new.sink) c.answer.result
    some going c.answer.ensures.answers none
