-- What the program does for the job that its words name.
--     Does job status left left' written written'
--     IsDoneHere job                                     a job that is done over a source and a sink
--     CompletesScript seed status messages left' written written'      a script's whole messages, where no end failed
-- The source had `left` and has `left'`, the sink held `written` and holds `written'`.
use Rattle.std.specs.Prelude.{◌≡◌, ◌⊎◌, ℕ, true, false, List, [], ◌∷◌, ◌++◌, Option, Some, None, codes}
use Rattle.vs_defs.specs.Bytes.{Bytes}
use Rattle.vs_defs.specs.Stream.{Message}
use Rattle.vs_defs.specs.ProgramWords.{Job}
use Rattle.vs_defs.specs.ProgramWords.Job.{Script, Schedule, Generate, Serve}
use Rattle.vs_session_defs.specs.Words.{generator}
use Rattle.vs_thread_defs.specs.Generator.{Generates}
use Rattle.vs_outside.specs.Known.{Adds, in_front, NothingLeft}
use Rattle.vs_connection.specs.Written.{WrittenOf}
use Rattle.vs_connection.specs.declared.end.SessionEnd.{SessionEnd}
use Rattle.vs_connection.specs.declared.end.SessionEnd.TheVariants.{Ended, CutShort}
use Rattle.vs_session.specs.Alone.{EndsWith, CompletesAlone}
use Rattle.vs_schedule.specs.declared.end.ScheduleEnd.{ScheduleEnd}
use Rattle.vs_schedule.specs.declared.end.ScheduleEnd.TheVariants as scheduled
use Rattle.vs_schedule.specs.Ends as schedule
use Rattle.vs_program.specs.declared.status.Status.{Status}
use Rattle.vs_program.specs.declared.status.Status.TheVariants.{Done, BadWords, WriteFault, NoMemory}
use Rattle.vs_program.specs.Status.{status_of, scheduled_of}

abbrev pub bad_words : Bytes
bad_words = codes "vectord: bad words" ++ 10 ∷ []

-- the text on bad words, or a beginning of it
abbrev pub Refuses : Option Bytes → Option Bytes → Type 0
Refuses written written' = (done : Bytes) × (lost : Bytes) × (bad_words ≡ done ++ lost) × Adds written done written'

-- one connection over a store of its own, whose random words are those of this seed's stream 0
pub record ServesAlone (seed : ℕ) (status : Status) (left left' written written' : Option Bytes) : Type 0 where
  pub end : SessionEnd
  pub input : Bytes
  pub output : Bytes
  pub status_is : status ≡ status_of end
  pub taken : left ≡ in_front input left'
  pub put : Adds written output written'
  pub ends : EndsWith end (generator seed 0) input output
  pub nothing : (end ≡ Ended) ⊎ (end ≡ CutShort) → NothingLeft left'

-- a schedule, over a store of its own: what was taken is run line by line, and what its events print was written
pub record RunsSchedule (status : Status) (left left' written written' : Option Bytes) : Type 0 where
  pub end : ScheduleEnd
  pub input : Bytes
  pub output : Bytes
  pub status_is : status ≡ scheduled_of end
  pub taken : left ≡ in_front input left'
  pub put : Adds written output written'
  pub ends : schedule.EndsWith end input output
  pub nothing : end ≡ scheduled.Ended → NothingLeft left'

-- the summary of a generated set was written whole, or one or more of its last bytes are missing where the sink failed; out of memory there
-- is none of it
abbrev pub Prints : (seed members dim : ℕ) → Status → Option Bytes → Option Bytes → Type 0
Prints seed members dim Done written written' = (out : Bytes) × Generates seed members dim out × WrittenOf written out true written'
Prints seed members dim WriteFault written written' = (out : Bytes) × Generates seed members dim out × WrittenOf written out false written'
Prints seed members dim NoMemory written written' = written' ≡ written
Prints seed members dim status written written' = ⊥

-- a job of another call isn't done here: its words are bad ones
abbrev pub LeavesJob : Status → Option Bytes → Option Bytes → Option Bytes → Option Bytes → Type 0
LeavesJob BadWords left left' written written' = (left' ≡ left) × Refuses written written'
LeavesJob NoMemory left left' written written' = (left' ≡ left) × (written' ≡ written)
LeavesJob status left left' written written' = ⊥

-- a command that isn't built is named by no job
abbrev pub Does : Option Job → Status → Option Bytes → Option Bytes → Option Bytes → Option Bytes → Type 0
Does None status left left' written written' = (status ≡ BadWords) × (left' ≡ left) × Refuses written written'
Does (Some (Script seed)) status left left' written written' = ServesAlone seed status left left' written written'
Does (Some Schedule) status left left' written written' = RunsSchedule status left left' written written'
Does (Some (Generate seed members dim)) status left left' written written' = (left' ≡ left) × Prints seed members dim status written written'
Does (Some (Serve port workers seed connections)) status left left' written written' = LeavesJob status left left' written written'

-- with words of such a job the words are never bad ones
abbrev pub IsDoneHere : Option Job → Type 0
IsDoneHere None = ⊥
IsDoneHere (Some (Script seed)) = Unit {0}
IsDoneHere (Some Schedule) = Unit {0}
IsDoneHere (Some (Generate seed members dim)) = Unit {0}
IsDoneHere (Some (Serve port workers seed connections)) = ⊥

-- the connection is complete: it was done, or memory was refused
pub record CompletesScript (seed : ℕ) (status : Status) (messages : List Message) (left' written written' : Option Bytes) : Type 0 where
  pub end : SessionEnd
  pub status_is : status ≡ status_of end
  pub complete : CompletesAlone end (generator seed 0) messages left' written written'
