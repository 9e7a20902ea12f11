-- A connection over one kind of history is one over another, where each call is one of the other's calls.
use Rattle.std.proofs.Common.{◌≡◌, ℕ, List, [], ◌∷◌, Result, Ok, Err, true, inl, inr, ap}
use Rattle.rand_pcg.specs.Lcg.{Lcg}
use Rattle.vs_defs.specs.Bytes.{Bytes}
use Rattle.vs_defs.specs.Request.{Request, Refusal}
use Rattle.vs_defs.specs.Reply.{Outcome}
use Rattle.vs_defs.specs.Stream.{Message}
use Rattle.vs_session_defs.specs.Session as session
use Rattle.vs_connection.specs.declared.end.SessionEnd.{SessionEnd}
use Rattle.vs_connection.specs.declared.end.SessionEnd.TheVariants.{Ended, Quit, Protocol, CutShort, ReadFault, WriteFault, Spent, NoMemory}
use Rattle.vs_connection.specs.Stage.{CallOn, ServesOne, Serves, Begun, Finished, ReadPart, MemoryPart, LacksOfReply, LacksOfFault, read, draws}
use Rattle.vs_resp.specs.Stands.{fault_of}
use Rattle.vs_connection.specs.Point.{Point}
use Rattle.vs_connection.specs.Connection.{IsEnd, IsWhole}

abbrev pub point_by : {H J : Type 0} → (H → J) → Point H → Point J
point_by f p = record { history = f p.history; generator = p.generator }

module _ {H J : Type 0} (f : H → J) (call : CallOn H) (other : CallOn J) (k : ℕ) (over : (h : H) (r : Request) (words : List ℕ) (o : Outcome) (t : H) → call k h r words o t → other k (f h) r words o (f t)) where
  read_over : (g : Lcg) (s : H) (x : Result Request Refusal) (o : Outcome) (t : H) (g' : Lcg) → session.ServesRead call true read draws k g s x o t g' → session.ServesRead other true read draws k g (f s) x o (f t) g'
  read_over g s (Err e) o t g' (is, same, stays) = (is, ap f same, stays)
  read_over g s (Ok r) o t g' (called, moved) = (over s r _ o t called, moved)

  one_over : (g : Lcg) (s : H) (m : Message) (o : Outcome) (t : H) (g' : Lcg) → ServesOne call k g s m o t g' → ServesOne other k g (f s) m o (f t) g'
  one_over g s m o t g' (inl served) = inl (read_over g s (read m) o t g' served)
  one_over g s m o t g' (inr (is, same, stays)) = inr (is, ap f same, stays)

  serves_over : (g : Lcg) (s : H) (ms : List Message) (os : List Outcome) (t : H) (g' : Lcg) → Serves call k g s ms os t g' → Serves other k g (f s) ms os (f t) g'
  serves_over g s [] [] t g' (same, stays) = (ap f same, stays)
  serves_over g s [] (o ∷ os) t g' p = absurd p
  serves_over g s (m ∷ ms) [] t g' p = absurd p
  serves_over g s (m ∷ ms) (o ∷ os) t g' (mid, h, one, bye, rest) = (f mid, h, one_over g s m o mid h one, bye, serves_over h mid ms os t g' rest)

  module _ (start now : Point H) where
    abbrev from : Point J
    from = point_by f start

    abbrev to : Point J
    to = point_by f now

    abbrev session_over : (input output : Bytes) → session.Session call true read draws k start.generator start.history input output now.history now.generator
        → session.Session other true read draws k from.generator from.history input output to.history to.generator
    session_over input output x = record {
      messages = x.messages;
      ends = x.ends;
      splits = x.splits;
      answered = x.answered;
      outcomes = x.outcomes;
      serves = serves_over start.generator start.history x.answered x.outcomes now.history now.generator x.serves;
      written = x.written;
    }

    abbrev begun_over : (input output : Bytes) → Begun call k start input output now → Begun other k from input output to
    begun_over input output x = record {
      messages = x.messages;
      ends = x.ends;
      splits = x.splits;
      answered = x.answered;
      outcomes = x.outcomes;
      serves = serves_over start.generator start.history x.answered x.outcomes now.history now.generator x.serves;
      first = x.first;
      written = x.written;
    }

    abbrev read_part_over : (input output : Bytes) → ReadPart call k start input output now → ReadPart other k from input output to
    read_part_over input output x = record { begun = begun_over input output x.begun; all = x.all; no_quit = x.no_quit; unbroken = x.unbroken }

    whole_over : (how : session.Ending) (input output : Bytes) → IsWhole call k how start input output now → IsWhole other k how from input output to
    whole_over how input output (x, pings) = (record { session = session_over input output x.session; ending = x.ending }, pings)

    pub end_over : (end : SessionEnd) (input output : Bytes) → IsEnd call k end start input output now → IsEnd other k end from input output to
    end_over Ended input output x = whole_over session.Ended input output x
    end_over Quit input output x = whole_over session.Quit input output x
    end_over (Protocol fault at) input output x = whole_over (session.Protocol (fault_of fault) at) input output x
    end_over CutShort input output x = whole_over session.CutShort input output x
    end_over ReadFault input output (x, pings) = (read_part_over input output x, pings)
    end_over Spent input output (long, (x, pings)) = (long, (read_part_over input output x, pings))
    end_over NoMemory input output (x, pings) = (
      record { front = x.front; rest = x.rest; parts = x.parts; before = read_part_over x.front output x.before; whole = x.whole; reading = x.reading },
      pings,
    )
    end_over WriteFault input output (inl (x, pings)) = inl (
      record { missing = x.missing; begun = begun_over input _ x.begun; some_missing = x.some_missing; of_last_reply = x.of_last_reply },
      pings,
    )
    end_over WriteFault input output (inr (x, pings)) = inr (
      record { missing = x.missing; session = session_over input _ x.session; no_quit = x.no_quit; some_missing = x.some_missing; of_closing_line = x.of_closing_line },
      pings,
    )
