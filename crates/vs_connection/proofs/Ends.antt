-- How a connection ends, from what was answered.
use Rattle.std.proofs.Common.{◌≡◌, inl, inr, ℕ, Bool, true, false, List, [], ◌++◌, Option, Some, None, Ok, Err, refl, sym, ap, subst, ◌∙◌, append_assoc, append-nil, ◌≤◌, ◌+◌, ◌^◌, length, length-append, arith}
use Rattle.std.specs.Prelude.{MatchBool}
use Rattle.rand_pcg.specs.Lcg.{Lcg}
use Rattle.vs_defs.specs.Bytes.{Bytes}
use Rattle.vs_defs.specs.Stream.{Message, End, Splits, with_words, place_in, Border, Within, Broken}
use Rattle.vs_defs.specs.Reply.{Outcome, fault_line}
use Rattle.vs_defs.specs.History.{IsPrefix}
use Rattle.vs_session_defs.specs.Session.{quits, replies, ending_by, closing_line, IsUnbroken}
use Rattle.vs_session_defs.specs.Session as session
use Rattle.vs_outside.specs.Known.{Adds, in_front}
use Rattle.vs_outside.proofs.KnownBytes.{Adds-trans, in_front-trans}
use Rattle.vs_stream.specs.Given.{GivenAll, GivenBefore}
use Rattle.vs_stream.specs.Place.{IsStream, BeginsStream, HasFault}
use Rattle.vs_stream.proofs.Callers.{EndsSo, ends_border, ends_within, ends_broken_at}
use Rattle.vs_stream.proofs.Place.{begins_no_fault}
use Rattle.vs_resp.specs.declared.Decoder.{Decoder}
use Rattle.vs_resp.specs.declared.FeedError.{FeedError}
use Rattle.vs_resp.specs.declared.FeedError.TheVariants.{NoMemory as FeedNoMemory}
use Rattle.vs_resp.specs.declared.Fault.{Fault}
use Rattle.vs_resp.specs.Stands.{Stands, failure, answer_of, fault_of}
use Rattle.vs_connection.specs.declared.end.SessionEnd.{SessionEnd}
use Rattle.vs_connection.specs.declared.end.SessionEnd.TheVariants.{Ended, CutShort, Protocol, WriteFault, ReadFault, Spent, NoMemory}
use Rattle.vs_connection.specs.Stage.{CallOn, read, draws}
use Rattle.vs_connection.specs.Point.{Point}
use Rattle.vs_connection.specs.Connection.{EndsAt, IsEnd, IsWhole}
use Rattle.vs_connection.specs.SoFar.{SoFar, Answered, AllAnswered, Going}
use Rattle.vs_connection.proofs.Serving.{none_pinged}

-- ---- what feed answers

pub ok_none : (x : Option FeedError) → Ok tt ≡ answer_of x → x ≡ None
ok_none None e = refl
ok_none (Some error) e = let two : Ok tt ≡ Err error = e in absurd cc

pub none_kept : (x : Option FeedError) → x ≡ None → x ≡ Some FeedNoMemory → ⊥
none_kept x e f = let two : None ≡ Some FeedNoMemory = sym e ∙ f in cc

pub err_other : (x : Option FeedError) (error : FeedError) → Err error ≡ answer_of x → (error ≡ FeedNoMemory → ⊥) → x ≡ Some FeedNoMemory → ⊥
err_other None error e n f = let two : None ≡ Some FeedNoMemory = f in cc
err_other (Some other) error e n f =
    let two : Err error ≡ Err other = e in
    let same : error ≡ other = cc in
    n cc

pub err_is : (x : Option FeedError) (error : FeedError) → Err error ≡ answer_of x → x ≡ Some error
err_is None error e = let two : Err error ≡ Ok tt = e in absurd cc
err_is (Some other) error e = let two : Err error ≡ Err other = e in cc

no_fault : (input : Bytes) (ms : List Message) (e : End) → Splits true input ms e → BeginsStream true input → IsUnbroken e
no_fault input ms Border splits begins = tt
no_fault input ms Within splits begins = tt
no_fault input ms (Broken f rest) splits begins = begins_no_fault true input f (place_in input rest) begins (ms, rest, splits, refl)

module _ {H : Type 0} {call : CallOn H} {k : ℕ} where
  -- ---- before the first byte

  pub at_start : (d : Decoder) (now : H → Lcg → Type 0) (start : Point H) → Stands d [] [] → failure d ≡ None → now start.history start.generator → Going call k d now start [] []
  at_start d now start stands going here = record {
    answered = record {
      given = [];
      outcomes = [];
      history = start.history;
      generator = start.generator;
      so_far = record { stands = stands; serves = (refl, refl); pings = none_pinged; going = refl; written = refl; now_is = here };
      first = ([], Border, refl, ([], refl));
      all = λ kept. ([], Border, refl, refl);
      before = λ lost. absurd (none_kept (failure d) going lost);
    };
    begins = ([], ([], refl));
    going = going;
  }

  -- memory was refused before the first read
  pub ends_at_once : (now : H → Lcg → Type 0) (start : Point H) → now start.history start.generator → EndsAt call k now NoMemory start [] []
  ends_at_once now start here = record {
    now = start;
    there = here;
    is_end = (
      record {
        front = [];
        rest = [];
        parts = refl;
        before = record {
          begun = record { messages = []; ends = Border; splits = refl; answered = []; outcomes = []; serves = (refl, refl); first = ([], refl); written = refl };
          all = refl;
          no_quit = refl;
          unbroken = tt;
        };
        whole = refl;
        reading = inl refl;
      },
      none_pinged,
    );
  }

  -- ---- a piece

  -- a piece was taken, and the messages that it brought were answered
  abbrev pub more_answered : (l0 l1 l2 w0 w1 w2 : Option Bytes) (d e f : Decoder) (before now : H → Lcg → Type 0) (start : Point H) (piece : Bytes) (taken : ℕ) (result : Option SessionEnd) →
      (input : Bytes) × (output : Bytes) × (l0 ≡ in_front input l1) × Adds w0 output w1 × Going call k d before start input output × (length input ≡ taken) →
      l1 ≡ in_front piece l2 →
      ((fed : Bytes) (given : List Message) → Stands d fed given → Stands e (fed ++ piece) given) →
      ((start : Point H) (input : Bytes) (given : List Message) (outcomes : List Outcome) (output : Bytes) (h : H) (g : Lcg) → SoFar call k e before start input given outcomes output h g →
      (more : Bytes) × Adds w1 more w2 × AllAnswered call k result f now start input (output ++ more)) →
      (input : Bytes) × (output : Bytes) × (l0 ≡ in_front input l2) × Adds w0 output w2 × AllAnswered call k result f now start input output × (length input ≡ taken + length piece)
  more_answered l0 l1 l2 w0 w1 w2 d e f before now start piece taken result i left stands all =
      let answered = i.4.answered in
      let s = answered.so_far in
      let on : SoFar call k e before start (i.0 ++ piece) answered.given answered.outcomes i.1 answered.history answered.generator =
      record { stands = stands i.0 answered.given s.stands; serves = s.serves; pings = s.pings; going = s.going; written = s.written; now_is = s.now_is } in
      let a = all start (i.0 ++ piece) answered.given answered.outcomes i.1 answered.history answered.generator on in (
        i.0 ++ piece,
        i.1 ++ a.0,
        in_front-trans l0 l1 l2 i.0 piece i.2 left,
        Adds-trans w0 w1 w2 i.1 a.0 i.3 a.1,
        a.2,
        length-append i.0 piece ∙ ap (λ (n : ℕ). n + length piece) i.5,
      )

  -- ---- ends

  abbrev finished : (d : Decoder) (now : H → Lcg → Type 0) (start : Point H) (input : Bytes) (given : List Message) (outcomes : List Outcome) (output : Bytes) (h : H) (g : Lcg) (e : End) →
      SoFar call k d now start input given outcomes output h g → EndsSo true input given e →
      session.Finished call true read draws k start.generator start.history input (output ++ closing_line input e) h g (ending_by input e)
  finished d now start input given outcomes output h g e s ends = record {
    session = record {
      messages = ends.0;
      ends = e;
      splits = ends.1;
      answered = given;
      outcomes = outcomes;
      serves = s.serves;
      written = subst
          (λ (b : Bool). MatchBool b (IsPrefix given (with_words ends.0) × (output ++ closing_line input e ≡ replies outcomes))
          ((given ≡ with_words ends.0) × (output ++ closing_line input e ≡ replies outcomes ++ closing_line input e)))
          (sym s.going) ((sym ends.2, ap (λ (l : Bytes). l ++ closing_line input e) s.written));
    };
    ending = subst (λ (b : Bool). ending_by input e ≡ elim b [ true ↦ session.Quit | false ↦ ending_by input e ]) (sym s.going) refl;
  }

  -- where the handler is, once these messages are answered
  abbrev point : (d : Decoder) (now : H → Lcg → Type 0) (start : Point H) (input output : Bytes) → Answered call k d now start input output → Point H
  point d now start input output a = record { history = a.history; generator = a.generator }

  -- an end, of which the points are known
  abbrev ends_at : (d : Decoder) (now : H → Lcg → Type 0) (start : Point H) (input output : Bytes) (a : Answered call k d now start input output) (end : SessionEnd) (written : Bytes) →
      IsEnd call k end start input written (point d now start input output a) → EndsAt call k now end start input written
  ends_at d now start input output a end written is = record { now = point d now start input output a; there = a.so_far.now_is; is_end = is }

  abbrev read_part : (d : Decoder) (now : H → Lcg → Type 0) (start : Point H) (input output : Bytes) (g : Going call k d now start input output) →
      session.ReadPart call true read draws k start.generator start.history input output g.answered.history g.answered.generator
  read_part d now start input output going =
      let a = going.answered in
      let g : GivenAll true input a.given = a.all (none_kept (failure d) going.going) in
      record {
        begun = record {
          messages = g.0;
          ends = g.1;
          splits = g.2;
          answered = a.given;
          outcomes = a.outcomes;
          serves = a.so_far.serves;
          first = ([], append-nil a.given ∙ sym g.3);
          written = a.so_far.written;
        };
        all = sym g.3;
        no_quit = a.so_far.going;
        unbroken = no_fault input g.0 g.1 g.2 going.begins;
      }

  pub ends_read : (d : Decoder) (now : H → Lcg → Type 0) (start : Point H) (input output : Bytes) → Going call k d now start input output → EndsAt call k now ReadFault start input output
  ends_read d now start input output g = ends_at d now start input output g.answered ReadFault output (read_part d now start input output g, g.answered.so_far.pings)

  pub ends_spent : (d : Decoder) (now : H → Lcg → Type 0) (start : Point H) (input output : Bytes) → Going call k d now start input output → 2 ^ 62 ≤ length input → EndsAt call k now Spent start input output
  ends_spent d now start input output g many = ends_at d now start input output g.answered Spent output (many, (read_part d now start input output g, g.answered.so_far.pings))

  pub ends_memory : (d : Decoder) (now : H → Lcg → Type 0) (start : Point H) (input output : Bytes) → Answered call k d now start input output → failure d ≡ Some FeedNoMemory → EndsAt call k now NoMemory start input output
  ends_memory d now start input output a lost =
      let b : GivenBefore true input a.given = a.before lost in
      ends_at d now start input output a NoMemory output (
        record {
          front = b.0;
          rest = b.1;
          parts = b.3;
          before = record {
            begun = record {
              messages = b.2;
              ends = Border;
              splits = b.5;
              answered = a.given;
              outcomes = a.outcomes;
              serves = a.so_far.serves;
              first = ([], append-nil a.given ∙ sym b.6);
              written = a.so_far.written;
            };
            all = sym b.6;
            no_quit = a.so_far.going;
            unbroken = tt;
          };
          whole = refl;
          reading = inr b.4;
        },
        a.so_far.pings,
      )

  pub ends_whole : (d : Decoder) (now : H → Lcg → Type 0) (start : Point H) (input output : Bytes) → Going call k d now start input output → IsStream true input → EndsAt call k now Ended start input output
  ends_whole d now start input output g whole =
      let a = g.answered in
      let ends = ends_border true input a.given (a.all (none_kept (failure d) g.going)) whole in
      ends_at d now start input output a Ended output
      (subst (λ (l : Bytes). IsWhole call k session.Ended start input l (point d now start input output a)) (append-nil output)
      (finished d now start input a.given a.outcomes output a.history a.generator Border a.so_far ends, a.so_far.pings))

  pub ends_cut : (d : Decoder) (now : H → Lcg → Type 0) (start : Point H) (input output : Bytes) → Going call k d now start input output → (IsStream true input → ⊥) → EndsAt call k now CutShort start input output
  ends_cut d now start input output g not_whole =
      let a = g.answered in
      let ends = ends_within true input a.given (a.all (none_kept (failure d) g.going)) g.begins not_whole in
      ends_at d now start input output a CutShort output
      (subst (λ (l : Bytes). IsWhole call k session.CutShort start input l (point d now start input output a)) (append-nil output)
      (finished d now start input a.given a.outcomes output a.history a.generator Within a.so_far ends, a.so_far.pings))

  pub ends_fault : (d : Decoder) (now : H → Lcg → Type 0) (start : Point H) (input output : Bytes) (fault : Fault) (at : ℕ) → Answered call k d now start input output → (failure d ≡ Some FeedNoMemory → ⊥) →
      HasFault true input (fault_of fault) at → EndsAt call k now (Protocol fault at) start input (output ++ fault_line (fault_of fault) at)
  ends_fault d now start input output fault at a kept broken =
      let ends = ends_broken_at true input a.given (fault_of fault) at (a.all kept) broken in
      ends_at d now start input output a (Protocol fault at) (output ++ fault_line (fault_of fault) at)
      (subst (λ (n : ℕ). IsWhole call k (session.Protocol (fault_of fault) n) start input (output ++ fault_line (fault_of fault) n) (point d now start input output a)) (sym ends.2)
      (finished d now start input a.given a.outcomes output a.history a.generator (Broken (fault_of fault) ends.0) a.so_far ends.1, a.so_far.pings))

  pub loses_line : (d : Decoder) (now : H → Lcg → Type 0) (start : Point H) (input output : Bytes) (fault : Fault) (at : ℕ) (done lost : Bytes) → Answered call k d now start input output →
      (failure d ≡ Some FeedNoMemory → ⊥) → HasFault true input (fault_of fault) at → fault_line (fault_of fault) at ≡ done ++ lost → 1 ≤ length lost →
      EndsAt call k now WriteFault start input (output ++ done)
  loses_line d now start input output fault at done lost a kept broken parts some =
      let ends = ends_broken_at true input a.given (fault_of fault) at (a.all kept) broken in
      let line : fault_line (fault_of fault) (place_in input ends.0) ≡ done ++ lost = ap (fault_line (fault_of fault)) (sym ends.2) ∙ parts in
      let whole : output ++ fault_line (fault_of fault) (place_in input ends.0) ≡ (output ++ done) ++ lost = ap (λ (l : Bytes). output ++ l) line ∙ sym (append_assoc output done lost) in
      let f = finished d now start input a.given a.outcomes output a.history a.generator (Broken (fault_of fault) ends.0) a.so_far ends.1 in
      ends_at d now start input output a WriteFault (output ++ done) (inr (
        record {
          missing = lost;
          session = record {
            messages = f.session.messages;
            ends = f.session.ends;
            splits = f.session.splits;
            answered = f.session.answered;
            outcomes = f.session.outcomes;
            serves = f.session.serves;
            written = subst (λ (l : Bytes). MatchBool (quits a.outcomes) (IsPrefix a.given (with_words f.session.messages) × (l ≡ replies a.outcomes))
                ((a.given ≡ with_words f.session.messages) × (l ≡ replies a.outcomes ++ fault_line (fault_of fault) (place_in input ends.0)))) whole f.session.written;
          };
          no_quit = a.so_far.going;
          some_missing = some;
          of_closing_line = let l = length-append done lost in let n : length (fault_line (fault_of fault) (place_in input ends.0)) ≡ length (done ++ lost) = ap (λ (b : Bytes). length b) line in omega (arith, l, n);
        },
        a.so_far.pings,
      ))
