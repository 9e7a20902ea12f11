-- Want of memory before a server's first accept.
use Rattle.std.proofs.Common.{◌≡◌, ℕ, true, List, [], Option, Some, None, is_some, refl}
use Rattle.vs_defs.specs.ProgramWords.{Job}
use Rattle.vs_defs.specs.ProgramWords.Job.{Script, Schedule, Generate, Serve}
use Rattle.vs_thread_defs.specs.Machine.{GraphHistory}
use Rattle.vs_connection.specs.Point.{Point}
use Rattle.std.proofs.lemmas.List.Elements.{All-nil}
use Rattle.vs_history.proofs.Beginnings.{prefix_self}
use Rattle.vs_server.proofs.Sums.{served_same}
use Rattle.vs_server.specs.declared.serve.ServeEnd.TheVariants as ends
use Rattle.vs_program.specs.declared.status.Status.TheVariants.{NoMemory}
use Rattle.vs_program.specs.Server.{DoesServe}

pub serves_nothing : {L X : Type 0} (P : ℕ → Point GraphHistory → X → X → Point GraphHistory → Type 0) (given closed : L → Option (List X)) (faults : L → ℕ)
    (listeners : List L) (job : Option Job) → is_some job ≡ true → DoesServe P given closed faults listeners listeners job NoMemory
serves_nothing P given closed faults listeners None e = cc
serves_nothing P given closed faults listeners (Some (Script seed)) e = refl
serves_nothing P given closed faults listeners (Some Schedule) e = refl
serves_nothing P given closed faults listeners (Some (Generate seed members dim)) e = refl
serves_nothing P given closed faults listeners (Some (Serve port workers seed connections)) e = record {
  end = ends.NoMemory;
  status_is = refl;
  answer = refl;
  served = record { log = []; legal = tt; good = All-nil _; each = served_same _ _ _ _ _ _ _ (λ k. prefix_self []) };
}
