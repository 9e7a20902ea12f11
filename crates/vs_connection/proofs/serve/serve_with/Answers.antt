use Rattle.std.proofs.Common.{◌≡◌, ◌≤◌, ◌<◌, ◌+◌, [], ◌++◌, ℕ, Some, None, Err, sym, ap, subst, ◌∙◌, take, length, arith, refl, true, false}
use Rattle.vs_defs.specs.Reply.{fault_line}
use Rattle.vs_outside.specs.Known.{in_front}
use Rattle.vs_outside.proofs.KnownBytes.{Adds-trans, Adds-none, in_front-none}
use Rattle.vs_stream.specs.Place.{HasFault}
use Rattle.vs_resp.specs.declared.FeedError.TheVariants.{NoMemory as FeedNoMemory, Protocol as FeedProtocol}
use Rattle.vs_resp.specs.Stands.{bytes_taken, failure, fault_of, FeedMeans}
use Rattle.vs_connection.proofs.Ends.{ok_none, err_is, none_kept, err_other, at_start, more_answered, ends_read, ends_spent, ends_memory, ends_whole, ends_cut, ends_fault, loses_line}
use Rattle.std.proofs.lemmas.List.{length-take-le}
use Rattle.vs_connection.proofs.serve.serve_with.Goals as goal

pub loop-taken-init : goal.loop-taken-init
loop-taken-init g c = record {
  session = λ author start here. ([], [], in_front-none _, Adds-none _, at_start c.new-decoder.result (g.H.Handler.after c.args.handler.now author) start c.new-decoder.ensures.stands c.new-decoder.ensures.going here, refl);
  begun = ([], [], c.new-decoder.ensures.stands);
  going = c.new-decoder.ensures.going;
  some = c.requires.some;
  few = c.requires.few;
  fed = omega (arith, c.new-decoder.ensures.taken);
  bound = omega arith;
  source_faults = refl;
  sink_faults = refl;
}

pub returns-in-Failed-clause-session : goal.returns-in-Failed-clause-session
returns-in-Failed-clause-session g c author start here =
    let i = c.loop-taken.invariant.session author start here in (
      i.0,
      i.1,
      subst (λ o. g.S.Source.left c.args.source.now ≡ in_front i.0 o) (sym c.in-Failed.ensures.took) i.2,
      i.3,
      ends_read c.loop-taken.decoder (g.H.Handler.after c.loop-taken.handler author) start i.0 i.1 i.4,
    )

pub returns-then-at_border-clause-session : goal.returns-then-at_border-clause-session
returns-then-at_border-clause-session g c author start here =
    let i = c.loop-taken.invariant.session author start here in
    let kept : failure c.loop-taken.decoder ≡ Some FeedNoMemory → ⊥ = none_kept (failure c.loop-taken.decoder) i.4.going in (
      i.0,
      i.1,
      subst (λ o. g.S.Source.left c.args.source.now ≡ in_front i.0 o) (sym c.in-End.ensures.took.0) i.2,
      i.3,
      ends_whole c.loop-taken.decoder (g.H.Handler.after c.loop-taken.handler author) start i.0 i.1 i.4
          ((c.at_border.ensures i.0 i.4.answered.given i.4.answered.so_far.stands kept).0 c.if-at_border.true),
    )

pub returns-in-End-clause-session : goal.returns-in-End-clause-session
returns-in-End-clause-session g c author start here =
    let i = c.loop-taken.invariant.session author start here in
    let kept : failure c.loop-taken.decoder ≡ Some FeedNoMemory → ⊥ = none_kept (failure c.loop-taken.decoder) i.4.going in (
      i.0,
      i.1,
      subst (λ o. g.S.Source.left c.args.source.now ≡ in_front i.0 o) (sym c.in-End.ensures.took.0) i.2,
      i.3,
      ends_cut c.loop-taken.decoder (g.H.Handler.after c.loop-taken.handler author) start i.0 i.1 i.4
          (λ whole. let yes = (c.at_border.ensures i.0 i.4.answered.given i.4.answered.so_far.stands kept).1 whole in let two : false ≡ true = sym c.if-at_border.false ∙ yes in cc),
    )

pub returns-in-Some-clause-session : goal.returns-in-Some-clause-session
returns-in-Some-clause-session g c author start here =
    let i = more_answered (g.S.Source.left c.args.source.now) (g.S.Source.left c.loop-taken.source) (g.S.Source.left c.read.new.self)
    (g.K.Sink.written c.args.sink.now) (g.K.Sink.written c.loop-taken.sink) (g.K.Sink.written c.answer_all.new.sink)
    c.loop-taken.decoder c.feed-fed.new.self c.answer_all.new.decoder (g.H.Handler.after c.loop-taken.handler author) (g.H.Handler.after c.answer_all.new.handler author) start (take c.in-Bytes.n c.read.new.into) c.loop-taken.taken (Some c.in-Some.end)
    (c.loop-taken.invariant.session author start here) c.in-Bytes.ensures.took.2 c.feed-fed.ensures.stands (c.in-Some.ensures.session author) in
    (i.0, i.1, i.2, i.3, i.4)

pub answer_all-requires : goal.answer_all-requires
answer_all-requires g c =
    let i = c.loop-taken.invariant.begun in
    record { given = (i.0 ++ take c.in-Bytes.n c.read.new.into, i.1, c.feed-fed.ensures.stands i.0 i.1 i.2) }

pub loop-taken-preserved : goal.loop-taken-preserved
loop-taken-preserved g c =
    let few : c.in-Bytes.n ≤ length c.read.new.into = c.in-Bytes.ensures.took.1 in
    let kept : length c.read.new.into ≡ length c.loop-taken.buffer = c.read.auto.into in
    let test : c.loop-taken.taken < 4611686018427387904 = c.loop-taken-test.true in
    let count : length (take c.in-Bytes.n c.read.new.into) ≡ c.in-Bytes.n = length-take-le c.in-Bytes.n c.read.new.into few in
    let small : length c.loop-taken.buffer < 65536 = c.loop-taken.invariant.few in
    let fed_is : bytes_taken c.feed-fed.new.self ≤ bytes_taken c.loop-taken.decoder + length (take c.in-Bytes.n c.read.new.into) = c.feed-fed.ensures.taken in
    let same_fed : bytes_taken c.answer_all.new.decoder ≡ bytes_taken c.feed-fed.new.self = c.answer_all.ensures.taken in
    let going : failure c.feed-fed.new.self ≡ None = ok_none (failure c.feed-fed.new.self) (sym c.in-Ok.is ∙ c.feed-fed.ensures.answer) in
    let b = c.loop-taken.invariant.begun in
    record {
      session = λ author start here.
          let s = c.loop-taken.invariant.session author start here in
          let i = more_answered (g.S.Source.left c.args.source.now) (g.S.Source.left c.loop-taken.source) (g.S.Source.left c.read.new.self)
          (g.K.Sink.written c.args.sink.now) (g.K.Sink.written c.loop-taken.sink) (g.K.Sink.written c.answer_all.new.sink)
          c.loop-taken.decoder c.feed-fed.new.self c.answer_all.new.decoder (g.H.Handler.after c.loop-taken.handler author) (g.H.Handler.after c.answer_all.new.handler author) start (take c.in-Bytes.n c.read.new.into) c.loop-taken.taken None
          (c.loop-taken.invariant.session author start here) c.in-Bytes.ensures.took.2 c.feed-fed.ensures.stands (c.in_default.ensures.session author) in
          let means : FeedMeans (s.0 ++ take c.in-Bytes.n c.read.new.into) c.feed-fed.result = c.feed-fed.ensures.means s.0 s.4.answered.given s.4.answered.so_far.stands in (
            i.0,
            i.1,
            i.2,
            i.3,
            record { answered = i.4; begins = subst (FeedMeans (s.0 ++ take c.in-Bytes.n c.read.new.into)) c.in-Ok.is means; going = c.answer_all.ensures.failure ∙ going },
            i.5 ∙ ap (λ (n : ℕ). c.loop-taken.taken + n) count,
          );
      begun = c.in_default.ensures.given;
      going = c.answer_all.ensures.failure ∙ going;
      some = omega arith;
      few = omega arith;
      fed = omega arith;
      bound = omega arith;
      source_faults = c.in-Bytes.ensures.unfailed (λ e. cc) ∙ c.loop-taken.invariant.source_faults;
      sink_faults = c.in_default.ensures.unfailed (λ e. cc) ∙ c.loop-taken.invariant.sink_faults;
    }

pub returns-in-NoMemory-clause-session : goal.returns-in-NoMemory-clause-session
returns-in-NoMemory-clause-session g c author start here =
    let i = more_answered (g.S.Source.left c.args.source.now) (g.S.Source.left c.loop-taken.source) (g.S.Source.left c.read.new.self)
    (g.K.Sink.written c.args.sink.now) (g.K.Sink.written c.loop-taken.sink) (g.K.Sink.written c.answer_all.new.sink)
    c.loop-taken.decoder c.feed-fed.new.self c.answer_all.new.decoder (g.H.Handler.after c.loop-taken.handler author) (g.H.Handler.after c.answer_all.new.handler author) start (take c.in-Bytes.n c.read.new.into) c.loop-taken.taken None
    (c.loop-taken.invariant.session author start here) c.in-Bytes.ensures.took.2 c.feed-fed.ensures.stands (c.in_default.ensures.session author) in
    let lost : failure c.feed-fed.new.self ≡ Some FeedNoMemory = err_is (failure c.feed-fed.new.self) FeedNoMemory (sym (c.in-Err.is ∙ ap Err c.in-NoMemory.is) ∙ c.feed-fed.ensures.answer) in
    (i.0, i.1, i.2, i.3, ends_memory c.answer_all.new.decoder (g.H.Handler.after c.answer_all.new.handler author) start i.0 i.1 i.4 (c.answer_all.ensures.failure ∙ lost))

pub returns-then-write_fault-clause-session : goal.returns-then-write_fault-clause-session
returns-then-write_fault-clause-session g c author start here =
    let s = c.loop-taken.invariant.session author start here in
    let i = more_answered (g.S.Source.left c.args.source.now) (g.S.Source.left c.loop-taken.source) (g.S.Source.left c.read.new.self)
    (g.K.Sink.written c.args.sink.now) (g.K.Sink.written c.loop-taken.sink) (g.K.Sink.written c.answer_all.new.sink)
    c.loop-taken.decoder c.feed-fed.new.self c.answer_all.new.decoder (g.H.Handler.after c.loop-taken.handler author) (g.H.Handler.after c.answer_all.new.handler author) start (take c.in-Bytes.n c.read.new.into) c.loop-taken.taken None
    (c.loop-taken.invariant.session author start here) c.in-Bytes.ensures.took.2 c.feed-fed.ensures.stands (c.in_default.ensures.session author) in
    let is = c.in-Err.is ∙ ap Err c.in-Protocol.is in
    let means : FeedMeans (s.0 ++ take c.in-Bytes.n c.read.new.into) c.feed-fed.result = c.feed-fed.ensures.means s.0 s.4.answered.given s.4.answered.so_far.stands in
    let broken : HasFault true i.0 (fault_of c.in-Protocol.fault) c.in-Protocol.at = subst (FeedMeans (s.0 ++ take c.in-Bytes.n c.read.new.into)) is means in
    let kept = err_other (failure c.feed-fed.new.self) (FeedProtocol c.in-Protocol.fault c.in-Protocol.at) (sym is ∙ c.feed-fed.ensures.answer) (λ lost. cc) in
    let line = fault_line (fault_of c.in-Protocol.fault) c.in-Protocol.at in (
      i.0,
      i.1 ++ line,
      i.2,
      Adds-trans (g.K.Sink.written c.args.sink.now) (g.K.Sink.written c.answer_all.new.sink) (g.K.Sink.written c.write_fault.new.sink) i.1 line i.3 c.if-write_fault.ensures.written,
      ends_fault c.answer_all.new.decoder (g.H.Handler.after c.answer_all.new.handler author) start i.0 i.1 c.in-Protocol.fault c.in-Protocol.at i.4 (λ lost. kept (sym c.answer_all.ensures.failure ∙ lost)) broken,
    )

pub returns-in-Protocol-clause-session : goal.returns-in-Protocol-clause-session
returns-in-Protocol-clause-session g c author start here =
    let s = c.loop-taken.invariant.session author start here in
    let i = more_answered (g.S.Source.left c.args.source.now) (g.S.Source.left c.loop-taken.source) (g.S.Source.left c.read.new.self)
    (g.K.Sink.written c.args.sink.now) (g.K.Sink.written c.loop-taken.sink) (g.K.Sink.written c.answer_all.new.sink)
    c.loop-taken.decoder c.feed-fed.new.self c.answer_all.new.decoder (g.H.Handler.after c.loop-taken.handler author) (g.H.Handler.after c.answer_all.new.handler author) start (take c.in-Bytes.n c.read.new.into) c.loop-taken.taken None
    (c.loop-taken.invariant.session author start here) c.in-Bytes.ensures.took.2 c.feed-fed.ensures.stands (c.in_default.ensures.session author) in
    let is = c.in-Err.is ∙ ap Err c.in-Protocol.is in
    let means : FeedMeans (s.0 ++ take c.in-Bytes.n c.read.new.into) c.feed-fed.result = c.feed-fed.ensures.means s.0 s.4.answered.given s.4.answered.so_far.stands in
    let broken : HasFault true i.0 (fault_of c.in-Protocol.fault) c.in-Protocol.at = subst (FeedMeans (s.0 ++ take c.in-Bytes.n c.read.new.into)) is means in
    let kept = err_other (failure c.feed-fed.new.self) (FeedProtocol c.in-Protocol.fault c.in-Protocol.at) (sym is ∙ c.feed-fed.ensures.answer) (λ lost. cc) in
    let w = c.if-write_fault.ensures.written in (
      i.0,
      i.1 ++ w.0,
      i.2,
      Adds-trans (g.K.Sink.written c.args.sink.now) (g.K.Sink.written c.answer_all.new.sink) (g.K.Sink.written c.write_fault.new.sink) i.1 w.0 i.3 w.4,
      loses_line c.answer_all.new.decoder (g.H.Handler.after c.answer_all.new.handler author) start i.0 i.1 c.in-Protocol.fault c.in-Protocol.at w.0 w.1 i.4 (λ lost. kept (sym c.answer_all.ensures.failure ∙ lost)) broken w.2 w.3,
    )

pub returns-clause-session : goal.returns-clause-session
returns-clause-session g c author start here =
    let i = c.loop-taken.invariant.session author start here in
    (i.0, i.1, i.2, i.3, ends_spent c.loop-taken.decoder (g.H.Handler.after c.loop-taken.handler author) start i.0 i.1 i.4 (omega (arith, i.5)))
