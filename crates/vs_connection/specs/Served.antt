-- A message that was served, and what was written of its reply.
use Rattle.std.specs.Prelude.{◌≡◌, ◌≢◌, ◌≤◌, ◌++◌, ℕ, Option, true, false, IsTrue, length}
use Rattle.rand_pcg.specs.Lcg.{Lcg}
use Rattle.vs_defs.specs.Bytes.{Bytes}
use Rattle.vs_defs.specs.Stream.{Message}
use Rattle.vs_defs.specs.Reply.{Outcome, OutOfMemory, reply}
use Rattle.vs_session_defs.specs.Session.{is_bye, is_ping_or_quit}
use Rattle.vs_outside.specs.Known.{Adds}
use Rattle.vs_connection.specs.declared.handler.Replied.{Replied}
use Rattle.vs_connection.specs.declared.handler.Replied.TheVariants.{Whole, Bye, Failed}
use Rattle.vs_connection.specs.Stage.{CallOn, ServesOne}

-- the reply was written whole, or lacks one or more of its last bytes
abbrev pub IsReplied : Replied → Option Bytes → Option Bytes → Outcome → Type 0
IsReplied Whole before after o = (is_bye o ≡ false) × Adds before (reply o) after
IsReplied Bye before after o = (is_bye o ≡ true) × Adds before (reply o) after
IsReplied Failed before after o = (done : Bytes) × (lost : Bytes) × (reply o ≡ done ++ lost) × (1 ≤ length lost) × Adds before done after

-- A message of the author k, from one history and generator to another, of which now holds. The outcome is replied; a PING or a QUIT of
-- one word is never out of memory.
pub record IsServed {H : Type 0} (call : CallOn H) (k : ℕ) (now : H → Lcg → Type 0) (replied : Outcome → Type 0) (g : Lcg) (h : H) (message : Message) : Type 0 where
  pub outcome : Outcome
  pub history : H
  pub generator : Lcg
  pub serves : ServesOne call k g h message outcome history generator
  pub now_is : now history generator
  pub answered : IsTrue (is_ping_or_quit message) → outcome ≢ OutOfMemory
  pub is_replied : replied outcome
