use Rattle.std.proofs.Common.{◌≡◌, ◌≤◌, ◌<◌, ◌+◌, [], ◌++◌, ℕ, None, Some, sym, ap, subst, ◌∙◌, take, length, length-append, arith, refl}
use Rattle.std.proofs.lemmas.List.{length-take-le}
use Rattle.vs_outside.specs.Known.{in_front}
use Rattle.vs_outside.proofs.KnownBytes.{Adds-trans, Adds-none, in_front-none, in_front-trans}
use Rattle.vs_schedule.proofs.Runs.{at_fresh, with_piece, ends_part}
use Rattle.vs_schedule.proofs.run.run_with.Goals as goal

pub loop-taken-init : goal.loop-taken-init
loop-taken-init g c = record {
  going = ([], [], in_front-none _, Adds-none _, at_fresh c.new-runner.result.core c.new-runner.result.line c.new-runner.result.number c.new-runner.ensures.core c.new-runner.ensures.line c.new-runner.ensures.number, refl);
  number = omega (arith, c.new-runner.ensures.number);
  some = c.requires.some;
  few = c.requires.few;
  bound = omega arith;
  source_faults = refl;
  sink_faults = refl;
}

pub returns-in-Failed-clause-schedule : goal.returns-in-Failed-clause-schedule
returns-in-Failed-clause-schedule g c =
    let i = c.loop-taken.invariant.going in
    let r = c.loop-taken.runner in
    (i.0, i.1, subst (λ o. g.S.Source.left c.args.source.now ≡ in_front i.0 o) (sym c.in-Failed.ensures.took) i.2, i.3, ends_part r.core r.line r.number i.0 i.1 i.4)

pub returns-in-End-clause-schedule : goal.returns-in-End-clause-schedule
returns-in-End-clause-schedule g c =
    let i = c.loop-taken.invariant.going in
    let f = c.finish.ensures.ends i.0 i.1 i.4 in (
      i.0,
      i.1 ++ f.0,
      subst (λ o. g.S.Source.left c.args.source.now ≡ in_front i.0 o) (sym c.in-End.ensures.took.0) i.2,
      Adds-trans (g.K.Sink.written c.args.sink.now) (g.K.Sink.written c.loop-taken.sink) (g.K.Sink.written c.finish.new.sink) i.1 f.0 i.3 f.1,
      f.2,
    )

pub returns-in-Some-clause-schedule : goal.returns-in-Some-clause-schedule
returns-in-Some-clause-schedule g c =
    let i = c.loop-taken.invariant.going in
    let r = c.loop-taken.runner in
    let piece = take c.in-Bytes.n c.read.new.into in
    let t = c.in-Some.ensures.takes (i.0 ++ piece) i.1 (with_piece r.core r.line r.number i.0 i.1 piece i.4) in (
      i.0 ++ piece,
      i.1 ++ t.0,
      in_front-trans (g.S.Source.left c.args.source.now) (g.S.Source.left c.loop-taken.source) (g.S.Source.left c.read.new.self) i.0 piece i.2 c.in-Bytes.ensures.took.2,
      Adds-trans (g.K.Sink.written c.args.sink.now) (g.K.Sink.written c.loop-taken.sink) (g.K.Sink.written c.take.new.sink) i.1 t.0 i.3 t.1,
      t.2,
    )

pub loop-taken-preserved : goal.loop-taken-preserved
loop-taken-preserved g c =
    let few : c.in-Bytes.n ≤ length c.read.new.into = c.in-Bytes.ensures.took.1 in
    let kept : length c.read.new.into ≡ length c.loop-taken.buffer = c.read.auto.into in
    let test : c.loop-taken.taken < 4611686018427387904 = c.loop-taken-test.true in
    let piece = take c.in-Bytes.n c.read.new.into in
    let count : length piece ≡ c.in-Bytes.n = length-take-le c.in-Bytes.n c.read.new.into few in
    let small : length c.loop-taken.buffer < 65536 = c.loop-taken.invariant.few in
    let numbers : c.take.new.self.number ≤ c.loop-taken.runner.number + length piece = c.in_default.ensures.number refl in
    let i = c.loop-taken.invariant.going in
    let r = c.loop-taken.runner in
    let t = c.in_default.ensures.takes (i.0 ++ piece) i.1 (with_piece r.core r.line r.number i.0 i.1 piece i.4) in
    record {
      going = (
        i.0 ++ piece,
        i.1 ++ t.0,
        in_front-trans (g.S.Source.left c.args.source.now) (g.S.Source.left c.loop-taken.source) (g.S.Source.left c.read.new.self) i.0 piece i.2 c.in-Bytes.ensures.took.2,
        Adds-trans (g.K.Sink.written c.args.sink.now) (g.K.Sink.written c.loop-taken.sink) (g.K.Sink.written c.take.new.sink) i.1 t.0 i.3 t.1,
        t.2,
        length-append i.0 piece ∙ ap (λ (n : ℕ). n + length piece) i.5 ∙ ap (λ (n : ℕ). c.loop-taken.taken + n) count,
      );
      number = omega (arith, c.loop-taken.invariant.number, numbers, count);
      some = omega arith;
      few = omega arith;
      bound = omega arith;
      source_faults = c.in-Bytes.ensures.unfailed (λ e. cc) ∙ c.loop-taken.invariant.source_faults;
      sink_faults = c.in_default.ensures.unfailed (λ e. cc) ∙ c.loop-taken.invariant.sink_faults;
    }

pub returns-clause-schedule : goal.returns-clause-schedule
returns-clause-schedule g c =
    let i = c.loop-taken.invariant.going in
    let r = c.loop-taken.runner in
    (i.0, i.1, i.2, i.3, (omega (arith, i.5), ends_part r.core r.line r.number i.0 i.1 i.4))
