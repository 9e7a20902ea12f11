-- What the program does for a job of the server, over listeners that were `olds` and are `news`.
--     DoesServe P given closed faults olds news job status
use Rattle.std.specs.Prelude.{◌≡◌, ℕ, List, Option, Some, None}
use Rattle.vs_defs.specs.Store.{usual_limits}
use Rattle.vs_defs.specs.ProgramWords.{Job}
use Rattle.vs_defs.specs.ProgramWords.Job.{Script, Schedule, Generate, Serve}
use Rattle.vs_thread_defs.specs.Machine.{GraphHistory}
use Rattle.vs_connection.specs.Point.{Point}
use Rattle.vs_server.specs.declared.serve.ServeEnd.{ServeEnd}
use Rattle.vs_server.specs.Ended.{Answers, IsServed}
use Rattle.vs_program.specs.declared.status.Status.{Status}
use Rattle.vs_program.specs.declared.status.Status.TheVariants.{BadWords, NoMemory}
use Rattle.vs_program.specs.Status.{served_of}

module _ {L X : Type 0} (P : ℕ → Point GraphHistory → X → X → Point GraphHistory → Type 0) (given closed : L → Option (List X)) (faults : L → ℕ) (olds news : List L) where
  -- so many connections were served, unless an accept failed or memory was refused before the first
  pub record ServesLinks (seed connections : ℕ) (status : Status) : Type 0 where
    pub end : ServeEnd
    pub status_is : status ≡ served_of end
    pub answer : Answers closed faults connections olds news end
    pub served : IsServed usual_limits seed P given closed olds news

  -- a job of another call isn't done here
  abbrev pub LeavesServer : Status → Type 0
  LeavesServer BadWords = news ≡ olds
  LeavesServer NoMemory = news ≡ olds
  LeavesServer status = ⊥

  abbrev pub DoesServe : Option Job → Status → Type 0
  DoesServe None status = (status ≡ BadWords) × (news ≡ olds)
  DoesServe (Some (Script seed)) status = LeavesServer status
  DoesServe (Some Schedule) status = LeavesServer status
  DoesServe (Some (Generate seed members dim)) status = LeavesServer status
  DoesServe (Some (Serve port workers seed connections)) status = ServesLinks seed connections status
