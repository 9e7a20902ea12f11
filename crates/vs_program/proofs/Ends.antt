-- The ends before the first read.
use Rattle.std.proofs.Common.{◌≡◌, ℕ, Bool, true, false, List, [], Option, Some, None, is_some, refl, sym, subst, ◌∙◌, inl, inr, append-nil, arith}
use Rattle.vs_defs.specs.Bytes.{Bytes}
use Rattle.vs_defs.specs.Stream.{Message}
use Rattle.vs_defs.specs.ProgramWords.{Job}
use Rattle.vs_defs.specs.ProgramWords.Job.{Script, Schedule, Generate, Serve}
use Rattle.vs_session_defs.specs.Words.{generator}
use Rattle.vs_outside.proofs.KnownBytes.{Adds-none, in_front-none}
use Rattle.vs_connection.specs.Written.{WrittenOf}
use Rattle.vs_connection.specs.declared.end.SessionEnd.TheVariants as ends
use Rattle.vs_connection.proofs.Ends.{ends_at_once}
use Rattle.vs_connection.specs.declared.end.SessionEnd.{SessionEnd}
use Rattle.vs_session.specs.Alone.{IsOwn, CompletesAlone, fresh}
use Rattle.vs_schedule.specs.declared.end.ScheduleEnd.{ScheduleEnd}
use Rattle.vs_schedule.specs.declared.end.ScheduleEnd.TheVariants as scheduled
use Rattle.vs_schedule.proofs.Runs as schedule
use Rattle.vs_args.specs.Words.{job_named, are_plain}
use Rattle.vs_program.specs.declared.status.Status.TheVariants.{NoMemory, BadWords}
use Rattle.vs_program.specs.Status.{status_of, scheduled_of}
use Rattle.vs_program.specs.Jobs.{Does, ServesAlone, RunsSchedule, CompletesScript, Refuses, bad_words}

-- what was written of the text on bad words
pub refused : (written written' : Option Bytes) (whole : Bool) → WrittenOf written bad_words whole written' → Refuses written written'
refused written written' true adds = (bad_words, [], sym (append-nil bad_words), adds)
refused written written' false (done, lost, parts, some, adds) = (done, lost, parts, adds)

-- nothing was read or written
pub serves_none : (seed : ℕ) (left written : Option Bytes) → ServesAlone seed NoMemory left left written written
serves_none seed left written = record {
  end = ends.NoMemory;
  input = [];
  output = [];
  status_is = refl;
  taken = in_front-none left;
  put = Adds-none written;
  ends = ends_at_once (λ h g. IsOwn 0 h) (fresh (generator seed 0)) (record { legal = tt; by_one = refl; good = λ k e h. absurd (omega (arith, h)) });
  nothing = λ at_end. elim at_end [ inl e ↦ cc | inr e ↦ cc ];
}

pub runs_none : (left written : Option Bytes) → RunsSchedule NoMemory left left written written
runs_none left written = record {
  end = scheduled.NoMemory;
  input = [];
  output = [];
  status_is = refl;
  taken = in_front-none left;
  put = Adds-none written;
  ends = schedule.ends_at_once;
  nothing = λ e. cc;
}

-- nothing is done of whatever job
none_done : (left written : Option Bytes) (job : Option Job) → is_some job ≡ true → Does job NoMemory left left written written
none_done left written None e = cc
none_done left written (Some (Script seed)) e = serves_none seed left written
none_done left written (Some Schedule) e = runs_none left written
none_done left written (Some (Generate seed members dim)) e = (refl, refl)
none_done left written (Some (Serve port workers seed connections)) e = (refl, refl)

-- want of memory while plain words are read
pub no_memory : (left written : Option Bytes) (words : List Bytes) → are_plain words ≡ true → Does (job_named words) NoMemory left left written written
no_memory left written words e = none_done left written (job_named words) e

-- ---- completeness

-- the status of a connection's end
pub not_bad : (end : SessionEnd) → status_of end ≡ BadWords → ⊥
not_bad ends.Ended e = cc
not_bad ends.Quit e = cc
not_bad (ends.Protocol fault at) e = cc
not_bad ends.CutShort e = cc
not_bad ends.ReadFault e = cc
not_bad ends.WriteFault e = cc
not_bad ends.Spent e = cc
not_bad ends.NoMemory e = cc

-- the status of a schedule's end
pub not_bad_scheduled : (end : ScheduleEnd) → scheduled_of end ≡ BadWords → ⊥
not_bad_scheduled scheduled.Ended e = cc
not_bad_scheduled (scheduled.BadLine line) e = cc
not_bad_scheduled scheduled.ReadFault e = cc
not_bad_scheduled scheduled.WriteFault e = cc
not_bad_scheduled scheduled.Spent e = cc
not_bad_scheduled scheduled.NoMemory e = cc

-- want of memory while plain words are read
pub complete_none : (seed : ℕ) (messages : List Message) (left' written written' : Option Bytes) → CompletesScript seed NoMemory messages left' written written'
complete_none seed messages left' written written' = record {
  end = ends.NoMemory;
  status_is = refl;
  complete = record { now = fresh (generator seed 0); own = record { legal = tt; by_one = refl; good = λ k e h. absurd (omega (arith, h)) }; complete = tt };
}

-- the words name one seed
pub complete_some : (words : List Bytes) (seed named : ℕ) (end : SessionEnd) (messages : List Message) (left' written written' : Option Bytes) → job_named words ≡ Some (Script seed) → job_named words ≡ Some (Script named)
    → CompletesAlone end (generator seed 0) messages left' written written' → CompletesScript named (status_of end) messages left' written written'
complete_some words seed named end messages left' written written' is names c =
    let same : Some (Script seed) ≡ Some (Script named) = sym is ∙ names in
    let one : seed ≡ named = cc in
    record { end = end; status_is = refl; complete = subst (λ (n : ℕ). CompletesAlone end (generator n 0) messages left' written written') one c }
