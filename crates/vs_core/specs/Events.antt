-- Events and what comes of them, as those of the machine of interleavings.
--     event_of, step_outcome_of      the event, the outcome
--     StepHasScores outcome          its answer has scores that can be printed
--     FitsEvent event                its request is within bounds, with as many words as it draws; an addition to be drafted has CAS
use Rattle.std.specs.Prelude.{◌≡◌, IsTrue, Option, Some, None, Result, Ok, Err, IfOk, length}
use Rattle.vs_defs.specs.Bounds.{IsInBounds, IsSearchInBounds, IsAddInBounds}
use Rattle.vs_defs.specs.Read.{draws}
use Rattle.vs_defs.specs.Request as request
use Rattle.vs_thread_defs.specs.Interleaving as machine
use Rattle.vs_bits.specs.Requests.{add_of}
use Rattle.vs_command.specs.Answers.{answer_of}
use Rattle.vs_command.specs.Refusals.{refusal_of}
use Rattle.vs_command.specs.Outcomes.{outcome_of}
use Rattle.vs_command.specs.Scores.{HasScores}
use Rattle.vs_command.specs.Requests.{request_of, search_of}
use Rattle.vs_core.specs.declared.event.Event.{Event}
use Rattle.vs_core.specs.declared.event.Event.TheVariants.{Do, Look, Finish, Draft, Prepare, Commit}
use Rattle.vs_core.specs.declared.event.StepOutcome.{StepOutcome}
use Rattle.vs_core.specs.declared.event.StepOutcome.TheVariants.{Answered, Looked, Drafted, Direct, Ready, Redone, Refused}
use Rattle.vs_core.specs.declared.event.StepError.{StepError}
use Rattle.vs_core.specs.declared.event.StepError.TheVariants.{NoSuchActor, ActorBusy, ActorIdle}

abbrev pub event_of : Event → machine.Event
event_of (Do k r words) = machine.Do k (request_of r) words
event_of (Look k search) = machine.Look k (search_of search)
event_of (Finish k) = machine.Finish k
event_of (Draft k add word) = machine.Draft k (add_of add) word
event_of (Prepare k) = machine.Prepare k
event_of (Commit k) = machine.Commit k

-- a cause, or want of memory
abbrev pub refused_by : Option request.Refusal → machine.Outcome
refused_by None = machine.OutOfMemory
refused_by (Some e) = machine.Refused e

abbrev pub stepped : StepOutcome → machine.Outcome
stepped (Answered a) = machine.Answered (answer_of a)
stepped Looked = machine.Looked
stepped Drafted = machine.Drafted
stepped Direct = machine.Direct
stepped Ready = machine.Prepared
stepped (Redone cut taken answer) = machine.Redone cut taken (outcome_of answer)
stepped (Refused e) = refused_by (refusal_of e)

abbrev pub unstepped : StepError → machine.Outcome
unstepped NoSuchActor = machine.NoSuchActor
unstepped ActorBusy = machine.ActorBusy
unstepped ActorIdle = machine.ActorIdle

abbrev pub step_outcome_of : Result StepOutcome StepError → machine.Outcome
step_outcome_of (Ok o) = stepped o
step_outcome_of (Err e) = unstepped e

abbrev pub StepHasScores : StepOutcome → Type 0
StepHasScores (Answered a) = HasScores a
StepHasScores (Redone cut taken answer) = IfOk answer HasScores
StepHasScores o = Unit {0}

abbrev pub FitsEvent : Event → Type 0
FitsEvent (Do k r words) = IsInBounds (request_of r) × (length words ≡ draws (request_of r))
FitsEvent (Look k search) = IsSearchInBounds (search_of search)
FitsEvent (Finish k) = Unit {0}
FitsEvent (Draft k add word) = IsAddInBounds (add_of add) × IsTrue add.cas
FitsEvent (Prepare k) = Unit {0}
FitsEvent (Commit k) = Unit {0}
