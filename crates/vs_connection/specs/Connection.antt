-- What a connection of an author takes and writes, by its end.
--     IsEnd call k end start input output now            from one point of its handler to another
--     EndsAt call k handler end start input output       to a point where the handler is
-- PING and QUIT of one word are never out of memory.
use Rattle.std.specs.Prelude.{◌≤◌, ◌^◌, ◌⊎◌, ℕ, length}
use Rattle.rand_pcg.specs.Lcg.{Lcg}
use Rattle.vs_defs.specs.Bytes.{Bytes}
use Rattle.vs_session_defs.specs.Session as session
use Rattle.vs_session_defs.specs.Session.{PingsAnswered}
use Rattle.vs_resp.specs.Stands.{fault_of}
use Rattle.vs_connection.specs.declared.end.SessionEnd.{SessionEnd}
use Rattle.vs_connection.specs.declared.end.SessionEnd.TheVariants.{Ended, Quit, Protocol, CutShort, ReadFault, WriteFault, Spent, NoMemory}
use Rattle.vs_connection.specs.Stage.{CallOn, Finished, ReadPart, MemoryPart, LacksOfReply, LacksOfFault}
use Rattle.vs_connection.specs.Point.{Point}

module _ {H : Type 0} (call : CallOn H) (k : ℕ) where
  abbrev pub IsWhole : session.Ending → Point H → Bytes → Bytes → Point H → Type 0
  IsWhole how start input output now = (f : Finished call k start input output now how) × PingsAnswered f.session.answered f.session.outcomes

  abbrev pub IsRead : Point H → Bytes → Bytes → Point H → Type 0
  IsRead start input output now = (r : ReadPart call k start input output now) × PingsAnswered r.begun.answered r.begun.outcomes

  abbrev pub IsEnd : SessionEnd → Point H → Bytes → Bytes → Point H → Type 0
  IsEnd Ended start input output now = IsWhole session.Ended start input output now
  IsEnd Quit start input output now = IsWhole session.Quit start input output now
  IsEnd (Protocol fault at) start input output now = IsWhole (session.Protocol (fault_of fault) at) start input output now
  IsEnd CutShort start input output now = IsWhole session.CutShort start input output now
  IsEnd ReadFault start input output now = IsRead start input output now
  IsEnd Spent start input output now = (2 ^ 62 ≤ length input) × IsRead start input output now
  IsEnd NoMemory start input output now = (m : MemoryPart call k start input output now) × PingsAnswered m.before.begun.answered m.before.begun.outcomes
  IsEnd WriteFault start input output now =
      ((l : LacksOfReply call k start input output now) × PingsAnswered l.begun.answered l.begun.outcomes)
      ⊎ ((l : LacksOfFault call k start input output now) × PingsAnswered l.session.answered l.session.outcomes)

  pub record EndsAt (handler : H → Lcg → Type 0) (end : SessionEnd) (start : Point H) (input output : Bytes) : Type 0 where
    pub now : Point H
    pub there : handler now.history now.generator
    pub is_end : IsEnd end start input output now
