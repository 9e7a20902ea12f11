use Rattle.std.proofs.Common.{rules, ◌≡◌, ◌∙◌, ◌++◌, ◌<◌, [], Some, None, false, nat_le, length, option_map, ap, sym, subst, arith, refl}
use Rattle.vs_defs.specs.Limits.{max_schedule_line_bytes}
use Rattle.vs_schedule.specs.Answered.{Going}
use Rattle.vs_schedule.proofs.Runs.{ends_starved, stops, goes_on, no_line, stops_long}
use Rattle.vs_schedule.proofs.runner.Runner.take.Goals as goal

pub returns-in-Err-clause-takes : goal.returns-in-Err-clause-takes
returns-in-Err-clause-takes g c input out start =
    let i = c.loop-behind.invariant.going input out start in
    let s = c.loop-behind.self in
    (i.0, i.1, ends_starved s.core s.line c.loop-behind.rest.now s.number input (out ++ i.0) i.2)

pub returns-in-Some-clause-takes : goal.returns-in-Some-clause-takes
returns-in-Some-clause-takes g c input out start =
    let i = c.loop-behind.invariant.going input out start in
    let s = c.loop-behind.self in
    let behind = ap (option_map (λ r. r.now)) (sym c.in-Ok-Some.field-0-is) ∙ c.in-Ok-Some.ensures.behind in
    stops s.core c.answer.new.self.core s.line c.loop-behind.rest.now c.take_line.new.line c.in-Ok-Some.behind.now s.number input out
    (g.K.Sink.written c.args.sink.now) (g.K.Sink.written c.loop-behind.sink) (g.K.Sink.written c.answer.new.sink) i.0 c.answer.result c.in-Some.end
    c.in-Ok-Some.ensures.line behind i.1 i.2 c.answer.ensures.answers c.in-Some.is

pub loop-behind-preserved : goal.loop-behind-preserved
loop-behind-preserved g c =
    let s = c.loop-behind.self in
    let next = c.in_default.ensures.next refl in
    let shorter : length c.in-Ok-Some.behind.now < length c.loop-behind.rest.now = search rules in
    let behind = ap (option_map (λ r. r.now)) (sym c.in-Ok-Some.field-0-is) ∙ c.in-Ok-Some.ensures.behind in
    record {
      going = λ input out start.
          let i = c.loop-behind.invariant.going input out start in
          let r = goes_on s.core c.answer.new.self.core s.line c.loop-behind.rest.now c.take_line.new.line c.in-Ok-Some.behind.now s.number input out
          (g.K.Sink.written c.args.sink.now) (g.K.Sink.written c.loop-behind.sink) (g.K.Sink.written c.answer.new.sink) i.0 c.answer.result
          c.in-Ok-Some.ensures.line behind i.1 i.2 c.answer.ensures.answers c.in_default.is in (
            r.0,
            r.1,
            subst (λ l. Going c.answer.new.self.core l c.in-Ok-Some.behind.now c.answer.new.self.number input (out ++ r.0)) (sym next.0)
                (subst (λ m. Going c.answer.new.self.core [] c.in-Ok-Some.behind.now m input (out ++ r.0)) (sym next.1) r.2),
          );
      number = omega (arith, c.loop-behind.invariant.number, shorter, next.1);
      faults = c.in_default.ensures.unfailed (λ e. cc) ∙ c.loop-behind.invariant.faults;
    }

pub returns-then-is_too_long-clause-takes : goal.returns-then-is_too_long-clause-takes
returns-then-is_too_long-clause-takes g c input out start =
    let i = c.loop-behind.invariant.going input out start in
    let s = c.loop-behind.self in
    let line = c.take_line.new.line in
    let none = ap (option_map (λ r. r.now)) (sym c.in-Ok-None.field-0-is) ∙ c.in-Ok-None.ensures.behind in
    let long : nat_le (length line) max_schedule_line_bytes ≡ false = search rules in
    let r = c.refuse.ensures.refuses in
    stops_long s.core line s.number input out (g.K.Sink.written c.args.sink.now) (g.K.Sink.written c.loop-behind.sink) (g.K.Sink.written c.refuse.new.sink) i.0 r.0 c.refuse.result
    long i.1 (no_line s.core s.line c.loop-behind.rest.now line s.number input (out ++ i.0) c.in-Ok-None.ensures.line none i.2) r.1 r.2

pub returns-clause-takes : goal.returns-clause-takes
returns-clause-takes g c input out start =
    let i = c.loop-behind.invariant.going input out start in
    let s = c.loop-behind.self in
    let none = ap (option_map (λ r. r.now)) (sym c.in-Ok-None.field-0-is) ∙ c.in-Ok-None.ensures.behind in
    (i.0, i.1, no_line s.core s.line c.loop-behind.rest.now c.take_line.new.line s.number input (out ++ i.0) c.in-Ok-None.ensures.line none i.2)
