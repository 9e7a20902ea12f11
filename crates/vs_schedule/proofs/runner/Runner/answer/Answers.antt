use Rattle.std.proofs.Common.{◌≡◌, ◌∙◌, [], true, false, sym, subst}
use Rattle.vs_outside.specs.Known.{Adds}
use Rattle.vs_outside.proofs.KnownBytes.{Adds-none}
use Rattle.vs_schedule.specs.Answered.{Carries, Refuses}
use Rattle.vs_schedule.proofs.Runs.{loses, refused_answers, starves}
use Rattle.vs_schedule.proofs.runner.Runner.answer.Goals as goal

pub returns-then-not-write_all-clause-answers : goal.returns-then-not-write_all-clause-answers
returns-then-not-write_all-clause-answers g c stage stands =
    let self = c.args.self.now in
    let new = c.carry_out.new.self in
    let carries = subst (Carries self.core self.line new.printed new.core) c.in-Ok-true.field-0-test c.in-Ok-true.ensures.carries in
    let a = carries self.number stage stands in
    let w = c.if-not-write_all.ensures.written in
    (w.0, a.0, w.4, loses self.number stage a.0 self.line new.printed w.0 w.1 (sym c.as_slice.ensures ∙ w.2) a.2, λ e. cc)

pub returns-else-not-write_all-clause-answers : goal.returns-else-not-write_all-clause-answers
returns-else-not-write_all-clause-answers g c stage stands =
    let self = c.args.self.now in
    let new = c.carry_out.new.self in
    let carries = subst (Carries self.core self.line new.printed new.core) c.in-Ok-true.field-0-test c.in-Ok-true.ensures.carries in
    let a = carries self.number stage stands in
    (new.printed, a.0, subst (λ t. Adds (g.K.Sink.written c.args.sink.now) t (g.K.Sink.written c.write_all.new.sink)) c.as_slice.ensures c.if-not-write_all.ensures.written, a.2, λ e. a.1)

pub returns-in-Ok-false-clause-answers : goal.returns-in-Ok-false-clause-answers
returns-in-Ok-false-clause-answers g c stage stands =
    let self = c.args.self.now in
    let new = c.carry_out.new.self in
    let carries = subst (Carries self.core self.line new.printed new.core) c.in-Ok-false.field-0-test c.in-Ok-false.ensures.carries in
    let r = c.refuse.ensures.refuses in
    (r.0, stage, r.1, refused_answers c.refuse.result self.number stage stage self.line r.0 (carries self.number stage stands) (subst (λ m. Refuses m c.refuse.result r.0) c.in-Ok-false.ensures.kept.1 r.2), λ e. cc)

pub returns-in-Err-clause-answers : goal.returns-in-Err-clause-answers
returns-in-Err-clause-answers g c stage stands = ([], stage, Adds-none _, starves c.args.self.now.number stage c.args.self.now.line, λ e. cc)
