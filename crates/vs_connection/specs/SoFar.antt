-- A connection that goes on.
use Rattle.std.specs.Prelude.{◌≡◌, ℕ, List, false, true, Option, Some, None}
use Rattle.rand_pcg.specs.Lcg.{Lcg}
use Rattle.vs_defs.specs.Bytes.{Bytes}
use Rattle.vs_defs.specs.Stream.{Message}
use Rattle.vs_defs.specs.Reply.{Outcome}
use Rattle.vs_session_defs.specs.Session.{quits, replies, PingsAnswered}
use Rattle.vs_stream.specs.Given.{GivenAll, GivenFirst, GivenBefore}
use Rattle.vs_stream.specs.Place.{BeginsStream}
use Rattle.vs_resp.specs.declared.Decoder.{Decoder}
use Rattle.vs_resp.specs.declared.FeedError.TheVariants.{NoMemory}
use Rattle.vs_resp.specs.Stands.{Stands, failure}
use Rattle.vs_connection.specs.declared.end.SessionEnd.{SessionEnd}
use Rattle.vs_connection.specs.Stage.{CallOn, Serves}
use Rattle.vs_connection.specs.Point.{Point}
use Rattle.vs_connection.specs.Connection.{EndsAt}

-- some bytes were taken, and some messages given
abbrev pub HasGiven : Decoder → Type 0
HasGiven decoder = (input : Bytes) × (given : List Message) × Stands decoder input given

module _ {H : Type 0} (call : CallOn H) (k : ℕ) where
  -- These bytes were taken, these messages of them were answered, with these outcomes, and these bytes were written. now says where the
  -- handler is.
  pub record SoFar (decoder : Decoder) (now : H → Lcg → Type 0) (start : Point H) (input : Bytes) (given : List Message) (outcomes : List Outcome) (output : Bytes) (h : H) (g : Lcg) : Type 0 where
    pub stands : Stands decoder input given
    pub serves : Serves call k start.generator start.history given outcomes h g
    pub pings : PingsAnswered given outcomes
    pub going : quits outcomes ≡ false
    pub written : output ≡ replies outcomes
    pub now_is : now h g

  -- all messages that were ready are answered
  pub record Answered (decoder : Decoder) (now : H → Lcg → Type 0) (start : Point H) (input output : Bytes) : Type 0 where
    pub given : List Message
    pub outcomes : List Outcome
    pub history : H
    pub generator : Lcg
    pub so_far : SoFar decoder now start input given outcomes output history generator
    pub first : GivenFirst true input given
    pub all : (failure decoder ≡ Some NoMemory → ⊥) → GivenAll true input given
    pub before : failure decoder ≡ Some NoMemory → GivenBefore true input given

  -- the connection goes on, or this is its end
  abbrev pub AllAnswered : Option SessionEnd → Decoder → (H → Lcg → Type 0) → Point H → Bytes → Bytes → Type 0
  AllAnswered None decoder now start input output = Answered decoder now start input output
  AllAnswered (Some end) decoder now start input output = EndsAt call k now end start input output

  -- between two reads: all messages of the bytes taken are answered, and the bytes have no fault
  pub record Going (decoder : Decoder) (now : H → Lcg → Type 0) (start : Point H) (input output : Bytes) : Type 0 where
    pub answered : Answered decoder now start input output
    pub begins : BeginsStream true input
    pub going : failure decoder ≡ None
