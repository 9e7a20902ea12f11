use Rattle.std.proofs.Common.{◌<◌, ◌≢◌, List, [], ◌∷◌, ◌++◌, sym, subst, ◌∙◌, append_assoc, append-nil, length, true}
use Rattle.vs_defs.specs.Bytes.{Bytes}
use Rattle.vs_defs.specs.Stream.{Message}
use Rattle.vs_defs.specs.Reply.{reply, OutOfMemory}
use Rattle.std.specs.Prelude.{IsTrue}
use Rattle.vs_session_defs.specs.Session.{is_ping_or_quit}
use Rattle.vs_defs.proofs.MessageLimits.{IsWithinLimits}
use Rattle.vs_outside.proofs.KnownBytes.{Adds-trans}
use Rattle.vs_stream.specs.Given.{GivenFirst}
use Rattle.vs_resp.specs.Stands.{Stands}
use Rattle.vs_connection.specs.declared.end.SessionEnd.TheVariants.{Quit, WriteFault}
use Rattle.vs_connection.specs.Stage.{ServesOne}
use Rattle.vs_connection.specs.Connection.{EndsAt}
use Rattle.vs_connection.specs.SoFar.{SoFar}
use Rattle.vs_connection.proofs.Sessions.{Next, same_so_far, one_more, to_quit, loses, given_few, given_some}
use Rattle.vs_connection.proofs.serve.answer_all.Goals as goal

pub handle-requires : goal.handle-requires
handle-requires g c =
    let given = c.loop-message.invariant.given in
    let first : GivenFirst true given.0 (given.1 ++ c.in-Some.message ∷ []) = c.in-Some.ensures.first given.0 given.1 given.2 in
    let limits : IsWithinLimits c.as_slice.result.now = subst IsWithinLimits (sym c.as_slice.ensures) (given_few given.0 given.1 c.in-Some.message first) in
    record {
      some = subst (λ (m : Message). 0 < length m) (sym c.as_slice.ensures) (given_some given.0 given.1 c.in-Some.message first);
      few = limits.words;
      short = limits.bytes;
    }

pub returns-in-Bye-clause-session : goal.returns-in-Bye-clause-session
returns-in-Bye-clause-session g c author start input given outcomes output h j s =
    let i = c.loop-message.invariant.session author start input given outcomes output h j s in
    let so_far = i.2.4 in
    let m = c.in-Some.message in
    let served = c.in-Bye.ensures.served author i.2.2 i.2.3 so_far.now_is in
    let o = served.outcome in
    let t = served.history in let k = served.generator in
    let n : Next g.H.Handler.call author c.loop-message.decoder (g.H.Handler.after c.loop-message.handler author) start input i.2.0 i.2.1 (output ++ i.0) i.2.2 i.2.3 c.next.new.self m o t k = record {
      so_far = so_far;
      stands = c.in-Some.ensures.stands input i.2.0 so_far.stands;
      first = c.in-Some.ensures.first input i.2.0 so_far.stands;
      one = subst (λ (w : Message). ServesOne g.H.Handler.call author i.2.3 i.2.2 w o t k) c.as_slice.ensures served.serves;
      answered = subst (λ (w : Message). IsTrue (is_ping_or_quit w) → o ≢ OutOfMemory) c.as_slice.ensures served.answered;
    } in (
      i.0 ++ reply o,
      Adds-trans (g.K.Sink.written c.args.sink.now) (g.K.Sink.written c.loop-message.sink) (g.K.Sink.written c.handle.new.sink) i.0 (reply o) i.1 served.is_replied.1,
      subst (λ (l : Bytes). EndsAt g.H.Handler.call author (g.H.Handler.after c.handle.new.self author) Quit start input l) (append_assoc output i.0 (reply o))
          (to_quit c.loop-message.decoder (g.H.Handler.after c.loop-message.handler author) (g.H.Handler.after c.handle.new.self author) start input i.2.0 i.2.1 (output ++ i.0) i.2.2 i.2.3 c.next.new.self m o t k n served.now_is served.is_replied.0),
    )

pub returns-in-Failed-clause-session : goal.returns-in-Failed-clause-session
returns-in-Failed-clause-session g c author start input given outcomes output h j s =
    let i = c.loop-message.invariant.session author start input given outcomes output h j s in
    let so_far = i.2.4 in
    let m = c.in-Some.message in
    let served = c.in-Failed.ensures.served author i.2.2 i.2.3 so_far.now_is in
    let o = served.outcome in
    let t = served.history in let k = served.generator in
    let w = served.is_replied in
    let n : Next g.H.Handler.call author c.loop-message.decoder (g.H.Handler.after c.loop-message.handler author) start input i.2.0 i.2.1 (output ++ i.0) i.2.2 i.2.3 c.next.new.self m o t k = record {
      so_far = so_far;
      stands = c.in-Some.ensures.stands input i.2.0 so_far.stands;
      first = c.in-Some.ensures.first input i.2.0 so_far.stands;
      one = subst (λ (w : Message). ServesOne g.H.Handler.call author i.2.3 i.2.2 w o t k) c.as_slice.ensures served.serves;
      answered = subst (λ (w : Message). IsTrue (is_ping_or_quit w) → o ≢ OutOfMemory) c.as_slice.ensures served.answered;
    } in (
      i.0 ++ w.0,
      Adds-trans (g.K.Sink.written c.args.sink.now) (g.K.Sink.written c.loop-message.sink) (g.K.Sink.written c.handle.new.sink) i.0 w.0 i.1 w.4,
      subst (λ (l : Bytes). EndsAt g.H.Handler.call author (g.H.Handler.after c.handle.new.self author) WriteFault start input l) (append_assoc output i.0 w.0)
          (loses c.loop-message.decoder (g.H.Handler.after c.loop-message.handler author) (g.H.Handler.after c.handle.new.self author) start input i.2.0 i.2.1 (output ++ i.0) i.2.2 i.2.3 c.next.new.self m o t k w.0 w.1 n served.now_is w.2 w.3),
    )

pub loop-message-preserved : goal.loop-message-preserved
loop-message-preserved g c = record {
  session = λ author start input given outcomes output h j s.
      let i = c.loop-message.invariant.session author start input given outcomes output h j s in
      let so_far = i.2.4 in
      let m = c.in-Some.message in
      let served = c.in-Whole.ensures.served author i.2.2 i.2.3 so_far.now_is in
      let o = served.outcome in
      let t = served.history in let k = served.generator in
      let n : Next g.H.Handler.call author c.loop-message.decoder (g.H.Handler.after c.loop-message.handler author) start input i.2.0 i.2.1 (output ++ i.0) i.2.2 i.2.3 c.next.new.self m o t k = record {
        so_far = so_far;
        stands = c.in-Some.ensures.stands input i.2.0 so_far.stands;
        first = c.in-Some.ensures.first input i.2.0 so_far.stands;
        one = subst (λ (w : Message). ServesOne g.H.Handler.call author i.2.3 i.2.2 w o t k) c.as_slice.ensures served.serves;
        answered = subst (λ (w : Message). IsTrue (is_ping_or_quit w) → o ≢ OutOfMemory) c.as_slice.ensures served.answered;
      } in (
        i.0 ++ reply o,
        Adds-trans (g.K.Sink.written c.args.sink.now) (g.K.Sink.written c.loop-message.sink) (g.K.Sink.written c.handle.new.sink) i.0 (reply o) i.1 served.is_replied.1,
        (
          i.2.0 ++ m ∷ [],
          i.2.1 ++ o ∷ [],
          t,
          k,
          same_so_far c.next.new.self c.take_back.new.self (g.H.Handler.after c.handle.new.self author) start input (i.2.0 ++ m ∷ []) (i.2.1 ++ o ∷ []) (output ++ (i.0 ++ reply o)) t k c.take_back.ensures.stands
              (subst (λ (l : Bytes). SoFar g.H.Handler.call author c.next.new.self (g.H.Handler.after c.handle.new.self author) start input (i.2.0 ++ m ∷ []) (i.2.1 ++ o ∷ []) l t k) (append_assoc output i.0 (reply o))
              (one_more c.loop-message.decoder (g.H.Handler.after c.loop-message.handler author) (g.H.Handler.after c.handle.new.self author) start input i.2.0 i.2.1 (output ++ i.0) i.2.2 i.2.3 c.next.new.self m o t k n served.now_is served.is_replied.0)),
        ),
      );
  given = let given = c.loop-message.invariant.given in (given.0, given.1 ++ c.in-Some.message ∷ [], c.take_back.ensures.stands given.0 (given.1 ++ c.in-Some.message ∷ []) (c.in-Some.ensures.stands given.0 given.1 given.2));
  failure = c.take_back.ensures.failure ∙ c.in-Some.ensures.failure ∙ c.loop-message.invariant.failure;
  taken = c.take_back.ensures.taken ∙ c.in-Some.ensures.taken ∙ c.loop-message.invariant.taken;
  faults = c.in-Whole.ensures.unfailed (λ e. cc) ∙ c.loop-message.invariant.faults;
}

pub returns-clause-session : goal.returns-clause-session
returns-clause-session g c author start input given outcomes output h j s =
    let i = c.loop-message.invariant.session author start input given outcomes output h j s in
    let so_far = i.2.4 in (
      i.0,
      i.1,
      record {
        given = i.2.0;
        outcomes = i.2.1;
        history = i.2.2;
        generator = i.2.3;
        so_far = record {
          stands = subst (λ (l : List Message). Stands c.next.new.self input l) (append-nil i.2.0) (c.in_default.ensures.stands input i.2.0 so_far.stands);
          serves = so_far.serves;
          pings = so_far.pings;
          going = so_far.going;
          written = so_far.written;
          now_is = so_far.now_is;
        };
        first = subst (λ (l : List Message). GivenFirst true input l) (append-nil i.2.0) (c.in_default.ensures.first input i.2.0 so_far.stands);
        all = λ kept. c.in_default.ensures.all input i.2.0 so_far.stands (λ lost. kept (c.in_default.ensures.failure ∙ lost));
        before = λ lost. c.in_default.ensures.before input i.2.0 so_far.stands (sym c.in_default.ensures.failure ∙ lost);
      },
    )
