-- What one line does, and where a run is behind the lines so far.
--     Answers n old line end out new       the line of number n: it leads on, or the run ends
--     Carries old line out new good      a line is carried out, or is bad
--     Refuses n end out         what is written of a bad line
--     Going core line rest n input out      where the run is: behind whole lines, and the beginning of one, whose number is n
--     Took end core line n input out      the same behind a piece, or how the run ended
use Rattle.std.specs.Prelude.{◌≡◌, ℕ, Bool, true, false, List, [], ◌++◌, Option, Some, None}
use Rattle.vs_defs.specs.Bytes.{Bytes}
use Rattle.vs_thread_defs.specs.Schedule.{Ends, PrintsAll, bad_line_text, lines_from, whole_lines_from}
use Rattle.vs_defs.specs.History.{IsPrefix}
use Rattle.vs_thread_defs.specs.Core as core
use Rattle.vs_schedule.specs.Stage.{Stage, StandsAt, Goes, Leads, IsBad, Breaks}
use Rattle.vs_schedule.specs.Ends.{EndsWith}
use Rattle.vs_schedule.specs.declared.end.ScheduleEnd.{ScheduleEnd}
use Rattle.vs_schedule.specs.declared.end.ScheduleEnd.TheVariants.{Ended, BadLine, ReadFault, WriteFault, Spent, NoMemory}

abbrev pub Answers : ℕ → Stage → Bytes → Option ScheduleEnd → Bytes → Stage → Type 0
Answers n old line None out new = Leads old n line out new
Answers n old line (Some (BadLine k)) out new = (k ≡ n) × (out ≡ bad_line_text n) × IsBad old n line
Answers n old line (Some WriteFault) out new = Breaks old n line out
Answers n old line (Some NoMemory) out new = Breaks old n line out
Answers n old line (Some end) out new = ⊥

-- a line that is carried out: what it prints, and the core behind it; or it is bad
abbrev pub Carries : Option core.Core → Bytes → Bytes → Option core.Core → Bool → Type 0
Carries old line out new true = (n : ℕ) (stage : Stage) → StandsAt old stage → (next : Stage) × StandsAt new next × Leads stage n line out next
Carries old line out new false = (n : ℕ) (stage : Stage) → StandsAt old stage → IsBad stage n line

-- what is written of a bad line
abbrev pub Refuses : ℕ → ScheduleEnd → Bytes → Type 0
Refuses n (BadLine k) out = (k ≡ n) × (out ≡ bad_line_text n)
Refuses n WriteFault out = IsPrefix out (bad_line_text n)
Refuses n NoMemory out = out ≡ []
Refuses n end out = ⊥

-- the lines so far printed what is written so far; the line and the rest of the input so far aren't answered yet
pub record SoFar (input line rest : Bytes) (lines : List Bytes) (out : Bytes) (n : ℕ) (stage : Stage) : Type 0 where
  pub all : (more : Bytes) → lines_from [] (input ++ more) ≡ lines ++ lines_from line (rest ++ more)
  pub whole : (more : Bytes) → whole_lines_from [] (input ++ more) ≡ lines ++ whole_lines_from line (rest ++ more)
  pub prints : (ls : List Bytes) (more : Bytes) (end : Ends) → Goes stage n ls more end → PrintsAll 1 (lines ++ ls) (out ++ more) end

pub record Going (c : Option core.Core) (line rest : Bytes) (n : ℕ) (input out : Bytes) : Type 0 where
  pub lines : List Bytes
  pub stage : Stage
  pub stands : StandsAt c stage
  pub so_far : SoFar input line rest lines out n stage

-- behind a piece: no byte of it is left, or the run has ended
abbrev pub Took : Option ScheduleEnd → Option core.Core → Bytes → ℕ → Bytes → Bytes → Type 0
Took None c line n input out = Going c line [] n input out
Took (Some end) c line n input out = EndsWith end input out
