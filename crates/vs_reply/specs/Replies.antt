-- Which replies take no memory.
use Rattle.std.specs.Prelude.{Result, Ok, Err, Option, Some, None}
use Rattle.vs_defs.specs.Bytes.{Bytes}
use Rattle.vs_defs.specs.Reply.{reply}
use Rattle.vs_command.specs.Outcomes.{outcome_of}
use Rattle.vs_command.specs.declared.answer.Answer.{Answer}
use Rattle.vs_command.specs.declared.answer.Answer.TheVariants.{Int, Pong, Bye, Bulk, NullText, NullList, Names, Signs, Hits, Layers, Info as Informed}
use Rattle.vs_command.specs.declared.refusal.Refusal.{Refusal}

-- the reply of those outcomes that have one without memory
abbrev pub short_of : Result Answer Refusal → Option Bytes
short_of (Ok (Int n)) = Some (reply (outcome_of (Ok (Int n))))
short_of (Ok Pong) = Some (reply (outcome_of (Ok Pong)))
short_of (Ok Bye) = Some (reply (outcome_of (Ok Bye)))
short_of (Ok (Bulk text)) = None
short_of (Ok NullText) = Some (reply (outcome_of (Ok NullText)))
short_of (Ok NullList) = Some (reply (outcome_of (Ok NullList)))
short_of (Ok (Names names)) = None
short_of (Ok (Signs signs)) = None
short_of (Ok (Hits dim scores attrs hits)) = None
short_of (Ok (Layers dim scores layers)) = None
short_of (Ok (Informed info)) = None
short_of (Err refusal) = Some (reply (outcome_of (Err refusal)))
