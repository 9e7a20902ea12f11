-- Where a schedule is between two lines.
--     Stage                    before the line that names the actors, or running from a state of the machine
--     Goes stage n lines out end      what the lines from number n on print there, and how the run ends
--     StandsAt core stage      whether this is where it is
--     Leads old n line out new      a line that prints this, and leads to a new stage
--     IsBad old n line         a bad line
--     Breaks old n line out    the run breaks off within the line
use Rattle.std.specs.Prelude.{◌≡◌, ℕ, ◌+◌, List, [], ◌∷◌, ◌++◌, Option, Some, None}
use Rattle.vs_defs.specs.Bytes.{Bytes}
use Rattle.vs_defs.specs.History.{IsPrefix}
use Rattle.vs_defs.specs.Store.{Limits}
use Rattle.vs_thread_defs.specs.Core as core
use Rattle.vs_thread_defs.specs.Core.{StandsFor}
use Rattle.vs_thread_defs.specs.Interleaving.{State}
use Rattle.vs_thread_defs.specs.Schedule.{Ends, Prints, PrintsAll, bad_line_text}
use Rattle.vs_thread_defs.specs.Schedule as schedule

pub data Stage : Type 0 where
  Opening : Stage
  Running : Limits → State → Stage

abbrev pub Goes : Stage → ℕ → List Bytes → Bytes → Ends → Type 0
Goes Opening n ls out end = PrintsAll n ls out end
Goes (Running limits s) n ls out end = Prints limits n s ls out end

abbrev pub StandsAt : Option core.Core → Stage → Type 0
StandsAt None Opening = Unit {0}
StandsAt (Some c) (Running limits s) = (limits ≡ c.store.limits) × StandsFor limits c s
StandsAt c stage = ⊥

-- a line is answered, and what is printed behind it is printed from the new stage
abbrev pub Leads : Stage → ℕ → Bytes → Bytes → Stage → Type 0
Leads old n line out new = (ls : List Bytes) (more : Bytes) (end : Ends) → Goes new (n + 1) ls more end → Goes old n (line ∷ ls) (out ++ more) end

-- a bad line, whatever stands behind it
abbrev pub IsBad : Stage → ℕ → Bytes → Type 0
IsBad old n line = (ls : List Bytes) → Goes old n (line ∷ ls) (bad_line_text n) (schedule.BadLine n)

-- what is written is some of the first bytes that the line prints
pub record Breaks (old : Stage) (n : ℕ) (line out : Bytes) : Type 0 where
  pub lines : List Bytes
  pub of_line : IsPrefix lines (line ∷ [])
  pub prints : Bytes
  pub end : Ends
  pub printed : Goes old n lines prints end
  pub written : IsPrefix out prints
