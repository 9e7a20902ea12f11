-- The laws of the stream.
use Rattle.std.specs.Prelude.{◌≡◌, ◌++◌, ℕ, Bool, List}
use Rattle.vs_defs.specs.Bytes.{Bytes}
use Rattle.vs_defs.specs.Stream.{Message, Fault, End, Splits, Broken}
use Rattle.vs_stream.specs.Place.{BeginsStream, CeasesAt, HasFault}

-- Each text has an outcome, and one alone.
abbrev pub EachHasOutcome : Type 0
EachHasOutcome = (lines : Bool) (text : Bytes) → (ms : List Message) × (e : End) × Splits lines text ms e

abbrev pub OneOutcome : Type 0
OneOutcome = (lines : Bool) (text : Bytes) (ms ns : List Message) (e d : End) → Splits lines text ms e → Splits lines text ns d → (ms ≡ ns) × (e ≡ d)

-- What stands before a fault's place can be continued to whole messages, and with the byte there it can't.
abbrev pub FaultCeases : Type 0
FaultCeases = (lines : Bool) (text : Bytes) (fault : Fault) (at : ℕ) → HasFault lines text fault at → CeasesAt lines text at

-- Where a text ceases to begin a stream it has a fault.
abbrev pub CeasesFault : Type 0
CeasesFault = (lines : Bool) (text : Bytes) (at : ℕ) → CeasesAt lines text at → (fault : Fault) × HasFault lines text fault at

-- A text without a fault can be continued to whole messages.
abbrev pub NoFaultBegins : Type 0
NoFaultBegins = (lines : Bool) (text : Bytes) → ((fault : Fault) (at : ℕ) → HasFault lines text fault at → ⊥) → BeginsStream lines text

-- More bytes leave a fault, and the messages before it, as they are.
abbrev pub FaultStays : Type 0
FaultStays = (lines : Bool) (text more : Bytes) (ms : List Message) (fault : Fault) (rest : Bytes) → Splits lines text ms (Broken fault rest) → Splits lines (text ++ more) ms (Broken fault (rest ++ more))
