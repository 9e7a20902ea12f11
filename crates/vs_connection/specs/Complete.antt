-- Completeness: a connection whose source has whole messages, and whose ends don't fail, is served whole.
--     HasWhole left messages      a source tells that it has these whole messages, in fewer than 2^62 bytes, and nothing more
--     IsComplete call k start end messages left' written written' now      it ended after the last of them, or after the first answered QUIT,
--                                 and each message up to there has its one reply; or memory was refused for reading
-- Each reply is the answer of the call, or says that memory was refused for it; nothing but replies is written, and in the messages' order.
use Rattle.std.specs.Prelude.{◌≡◌, ◌<◌, ◌^◌, ℕ, true, false, List, [], Option, Some, length}
use Rattle.vs_defs.specs.Bytes.{Bytes}
use Rattle.vs_defs.specs.Stream.{Message, Border, Splits, with_words}
use Rattle.vs_defs.specs.Reply.{Outcome}
use Rattle.vs_defs.specs.History.{IsPrefix}
use Rattle.vs_session_defs.specs.Session.{quits, replies}
use Rattle.vs_outside.specs.Known.{Adds}
use Rattle.vs_connection.specs.declared.end.SessionEnd.{SessionEnd}
use Rattle.vs_connection.specs.declared.end.SessionEnd.TheVariants.{Ended, Quit, Protocol, CutShort, ReadFault, WriteFault, Spent, NoMemory}
use Rattle.vs_connection.specs.Stage.{CallOn, Serves}
use Rattle.vs_connection.specs.Point.{Point}

pub record HasWhole (left : Option Bytes) (messages : List Message) : Type 0 where
  pub input : Bytes
  pub told : left ≡ Some input
  pub few : length input < 2 ^ 62
  pub whole : Splits true input messages Border

module _ {H : Type 0} (call : CallOn H) (k : ℕ) (start : Point H) where
  -- each of these messages has its one reply, and nothing else was written
  pub record RepliesToEach (messages : List Message) (written written' : Option Bytes) (now : Point H) : Type 0 where
    pub outcomes : List Outcome
    pub serves : Serves call k start.generator start.history messages outcomes now.history now.generator
    pub put : Adds written (replies outcomes) written'

  -- the source was read to its end
  pub record ReadToEnd (messages : List Message) (left' written written' : Option Bytes) (now : Point H) : Type 0 where
    pub nothing : left' ≡ Some []
    pub replied : RepliesToEach (with_words messages) written written' now
    pub no_quit : quits replied.outcomes ≡ false

  -- the source was read to the message QUIT, the last that was answered
  pub record ReadToQuit (messages : List Message) (written written' : Option Bytes) (now : Point H) : Type 0 where
    pub answered : List Message
    pub first : IsPrefix answered (with_words messages)
    pub replied : RepliesToEach answered written written' now
    pub quit : quits replied.outcomes ≡ true

  abbrev pub IsComplete : SessionEnd → List Message → Option Bytes → Option Bytes → Option Bytes → Point H → Type 0
  IsComplete Ended messages left' written written' now = ReadToEnd messages left' written written' now
  IsComplete Quit messages left' written written' now = ReadToQuit messages written written' now
  IsComplete NoMemory messages left' written written' now = Unit {0}
  IsComplete (Protocol fault at) messages left' written written' now = ⊥
  IsComplete CutShort messages left' written written' now = ⊥
  IsComplete ReadFault messages left' written written' now = ⊥
  IsComplete WriteFault messages left' written written' now = ⊥
  IsComplete Spent messages left' written written' now = ⊥
