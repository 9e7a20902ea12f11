-- Words of a message, and what a reading of them comes to.
--     Gives view result reading     the result is what is read, seen by view, or the cause; want of memory may come in place of either
--     GivesRequest result c words   the same, of a command's words
--     IsWanting result              it is want of memory
--     AreShort words                few enough words of few enough bytes, so that places and lengths fit 32 bits
use Rattle.std.specs.Prelude.{◌≡◌, ◌<◌, ◌^◌, List, Result, Ok, Err, IfSome, All, length}
use Rattle.vs_command.specs.declared.refusal.Refusal.{Refusal}
use Rattle.vs_command.specs.declared.refusal.Refusal.TheVariants.{NoMemory}
use Rattle.vs_command.specs.declared.request.Request.{Request}
use Rattle.vs_command.specs.Refusals.{refusal_of}
use Rattle.vs_command.specs.Requests.{request_of}
use Rattle.vs_defs.specs.Bytes.{Bytes}
use Rattle.vs_defs.specs.Read.{Reads, Command, read_command}

abbrev pub Gives : {T A : Type 0} → (T → A) → Result T Refusal → Reads A → Type 0
Gives view (Ok x) reading = reading ≡ Ok (view x)
Gives view (Err e) reading = IfSome (refusal_of e) (λ cause. reading ≡ Err cause)

abbrev pub GivesRequest : Result Request Refusal → Command → List Bytes → Type 0
GivesRequest result c words = Gives request_of result (read_command c words)

abbrev pub IsWanting : {T : Type 0} → Result T Refusal → Type 0
IsWanting result = result ≡ Err NoMemory

abbrev pub AreShort : List Bytes → Type 0
AreShort words = (length words < 2 ^ 32) × All (λ w. length w < 2 ^ 32) words
