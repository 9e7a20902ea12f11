-- What is read of the program's words.
use Rattle.std.specs.Prelude.{◌≡◌, true, List, Some, None, Result, Ok, Err}
use Rattle.vs_defs.specs.Bounds.{IsFrom}
use Rattle.vs_defs.specs.Bytes.{Bytes}
use Rattle.vs_defs.specs.ProgramWords as defs
use Rattle.vs_args.specs.Words.{job_named, are_plain}
use Rattle.vs_args.specs.declared.job.Job.{Job}
use Rattle.vs_args.specs.declared.job.Job.TheVariants.{Script, Schedule, Generate, Serve}
use Rattle.vs_args.specs.declared.job.WordsError.{WordsError}
use Rattle.vs_args.specs.declared.job.WordsError.TheVariants.{NoMemory, BadWords}

-- the definitions' job that a job of the program is
abbrev pub job_of : Job → defs.Job
job_of (Script seed) = defs.Script seed
job_of Schedule = defs.Schedule
job_of (Generate seed members dim) = defs.Generate seed members dim
job_of (Serve port workers seed connections) = defs.Serve port workers seed connections

-- the values are in their ranges
abbrev pub IsWithin : Job → Type 0
IsWithin (Script seed) = Unit {0}
IsWithin Schedule = Unit {0}
IsWithin (Generate seed members dim) = IsFrom 1 1048576 members × IsFrom 1 4096 dim
IsWithin (Serve port workers seed connections) = IsFrom 1 65535 port × IsFrom 1 64 workers × IsFrom 1 4294967295 connections

-- the job that plain words name; BadWords exactly where the words aren't plain
abbrev pub IsReading : List Bytes → Result Job WordsError → Type 0
IsReading words (Ok job) = job_named words ≡ Some (job_of job)
IsReading words (Err NoMemory) = are_plain words ≡ true
IsReading words (Err BadWords) = job_named words ≡ None
