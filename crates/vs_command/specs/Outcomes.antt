-- The outcome of a request that an answer or a refusal stands for.
use Rattle.std.specs.Prelude.{Result, Ok, Err, Option, Some, None}
use Rattle.vs_command.specs.declared.answer.Answer.{Answer}
use Rattle.vs_command.specs.declared.refusal.Refusal.{Refusal}
use Rattle.vs_command.specs.Answers.{answer_of}
use Rattle.vs_command.specs.Refusals.{refusal_of}
use Rattle.vs_defs.specs.Request as model
use Rattle.vs_defs.specs.Reply as outcome
use Rattle.vs_defs.specs.Reply.{Outcome}

-- a cause, or want of memory
abbrev pub refused_by : Option model.Refusal → Outcome
refused_by None = outcome.OutOfMemory
refused_by (Some cause) = outcome.Refused cause

abbrev pub outcome_of : Result Answer Refusal → Outcome
outcome_of (Ok answer) = outcome.Answered (answer_of answer)
outcome_of (Err refusal) = refused_by (refusal_of refusal)
