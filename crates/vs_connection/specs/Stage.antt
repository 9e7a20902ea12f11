-- What is served by one author over any history: which words are read, how many words a request draws, and a connection from one point to
-- another.
--     CallOn H      H is what is known of a history; what a call of an author does to it
-- Others may lengthen the history between two calls: the call says how it goes on.
use Rattle.std.specs.Prelude.{ℕ, List, Result, true}
use Rattle.rand_pcg.specs.Lcg.{Lcg}
use Rattle.vs_defs.specs.Bytes.{Bytes}
use Rattle.vs_defs.specs.Request.{Request, Refusal}
use Rattle.vs_defs.specs.Read as reading
use Rattle.vs_defs.specs.Reply.{Outcome}
use Rattle.vs_defs.specs.Stream.{Message}
use Rattle.vs_session_defs.specs.Session as session
use Rattle.vs_connection.specs.Point.{Point}

abbrev pub CallOn : Type 0 → Type 1
CallOn H = ℕ → H → Request → List ℕ → Outcome → H → Type 0

abbrev pub read : List Bytes → Result Request Refusal
read = reading.read

abbrev pub draws : Request → ℕ
draws = reading.draws

module _ {H : Type 0} (call : CallOn H) (k : ℕ) where
  abbrev pub ServesOne : Lcg → H → Message → Outcome → H → Lcg → Type 0
  ServesOne = session.ServesOne call true read draws k

  abbrev pub Serves : Lcg → H → List Message → List Outcome → H → Lcg → Type 0
  Serves = session.Serves call true read draws k

  abbrev pub Begun : Point H → Bytes → Bytes → Point H → Type 0
  Begun start input output now = session.Begun call true read draws k start.generator start.history input output now.history now.generator

  abbrev pub Finished : Point H → Bytes → Bytes → Point H → session.Ending → Type 0
  Finished start input output now how = session.Finished call true read draws k start.generator start.history input output now.history now.generator how

  abbrev pub ReadPart : Point H → Bytes → Bytes → Point H → Type 0
  ReadPart start input output now = session.ReadPart call true read draws k start.generator start.history input output now.history now.generator

  abbrev pub MemoryPart : Point H → Bytes → Bytes → Point H → Type 0
  MemoryPart start input output now = session.MemoryPart call true read draws k start.generator start.history input output now.history now.generator

  abbrev pub LacksOfReply : Point H → Bytes → Bytes → Point H → Type 0
  LacksOfReply start input output now = session.LacksOfReply call true read draws k start.generator start.history input output now.history now.generator

  abbrev pub LacksOfFault : Point H → Bytes → Bytes → Point H → Type 0
  LacksOfFault start input output now = session.LacksOfFault call true read draws k start.generator start.history input output now.history now.generator
