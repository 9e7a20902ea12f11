-- A run, line by line and piece by piece, to its end.
use Rattle.std.proofs.Common.{◌≡◌, ◌∙◌, ℕ, ◌+◌, ◌≤◌, ◌<◌, false, nat_le, arith, ◌^◌, List, [], ◌∷◌, ◌++◌, Option, Some, None, length, refl, ap, sym, subst, append_assoc, append-nil}
use Rattle.vs_defs.specs.Bytes.{Bytes}
use Rattle.vs_defs.specs.Limits.{max_schedule_line_bytes}
use Rattle.vs_outside.specs.Known.{Adds}
use Rattle.vs_outside.proofs.KnownBytes.{Adds-trans}
use Rattle.vs_schedule.proofs.Steps.{long_at}
use Rattle.vs_defs.specs.History.{IsPrefix}
use Rattle.vs_thread_defs.specs.Core as core
use Rattle.vs_thread_defs.specs.Schedule.{Ends, PrintsAll, Schedules, SchedulesPart, SchedulesFirst, lines_from, whole_lines_from, bad_line_text}
use Rattle.vs_thread_defs.specs.Schedule as schedule
use Rattle.vs_schedule_words.specs.Cut.{before_mark, behind_mark}
use Rattle.vs_schedule_words.proofs.Cuts.{lines_at, whole_lines_at, lines_cut, whole_lines_cut}
use Rattle.vs_schedule.specs.Stage.{Stage, Opening, Running, Goes, StandsAt, Leads, IsBad, Breaks}
use Rattle.vs_schedule.specs.Answered.{Answers, Refuses, SoFar, Going, Took}
use Rattle.vs_schedule.specs.Ends.{EndsWith}
use Rattle.vs_schedule.specs.declared.end.ScheduleEnd.{ScheduleEnd}
use Rattle.vs_schedule.specs.declared.end.ScheduleEnd.TheVariants.{Ended, BadLine, ReadFault, WriteFault, Spent, NoMemory}

nothing_goes : (stage : Stage) (n : ℕ) → Goes stage n [] [] schedule.Ended
nothing_goes Opening n = (refl, refl)
nothing_goes (Running limits s) n = (refl, refl)

-- ---- beginnings

pub at_start : Going None [] [] 1 [] []
at_start = record {
  lines = [];
  stage = Opening;
  stands = tt;
  so_far = record { all = λ more. refl; whole = λ more. refl; prints = λ ls more end goes. goes };
}

-- a piece comes behind the input so far
pub with_piece : (c : Option core.Core) (line : Bytes) (n : ℕ) (input out piece : Bytes) → Going c line [] n input out → Going c line piece n (input ++ piece) out
with_piece c line n input out piece g = record {
  lines = g.lines;
  stage = g.stage;
  stands = g.stands;
  so_far = record {
    all = λ more. ap (lines_from []) (append_assoc input piece more) ∙ g.so_far.all (piece ++ more);
    whole = λ more. ap (whole_lines_from []) (append_assoc input piece more) ∙ g.so_far.whole (piece ++ more);
    prints = g.so_far.prints;
  };
}

-- the rest of a piece has no line feed
pub no_line : (c : Option core.Core) (line rest line' : Bytes) (n : ℕ) (input out : Bytes) → line' ≡ line ++ before_mark 10 rest → None ≡ behind_mark 10 rest
    → Going c line rest n input out → Going c line' [] n input out
no_line c line rest line' n input out is none g = record {
  lines = g.lines;
  stage = g.stage;
  stands = g.stands;
  so_far = record {
    all = λ more. g.so_far.all more ∙ ap (λ ls. g.lines ++ ls) (lines_cut line rest more ∙ ap (λ o. lines_at (line ++ before_mark 10 rest) o more) (sym none) ∙ ap (λ l. lines_from l more) (sym is));
    whole = λ more. g.so_far.whole more ∙ ap (λ ls. g.lines ++ ls) (whole_lines_cut line rest more ∙ ap (λ o. whole_lines_at (line ++ before_mark 10 rest) o more) (sym none) ∙ ap (λ l. whole_lines_from l more) (sym is));
    prints = g.so_far.prints;
  };
}

-- ---- a whole line

-- the lines behind a line that is cut off
abbrev pub Cut : Bytes → List Bytes → Bytes → Bytes → Type 0
Cut input lines line rest =
    ((more : Bytes) → lines_from [] (input ++ more) ≡ lines ++ line ∷ lines_from [] (rest ++ more))
    × ((more : Bytes) → whole_lines_from [] (input ++ more) ≡ lines ++ line ∷ whole_lines_from [] (rest ++ more))

pub cut_off : (line rest line' behind : Bytes) (lines : List Bytes) (n : ℕ) (input out : Bytes) (stage : Stage) → line' ≡ line ++ before_mark 10 rest → Some behind ≡ behind_mark 10 rest
    → SoFar input line rest lines out n stage → Cut input lines line' behind
cut_off line rest line' behind lines n input out stage is some so_far = (
  λ more. so_far.all more ∙ ap (λ ls. lines ++ ls) (lines_cut line rest more ∙ ap (λ o. lines_at (line ++ before_mark 10 rest) o more) (sym some) ∙ ap (λ l. l ∷ lines_from [] (behind ++ more)) (sym is)),
  λ more. so_far.whole more ∙ ap (λ ls. lines ++ ls) (whole_lines_cut line rest more ∙ ap (λ o. whole_lines_at (line ++ before_mark 10 rest) o more) (sym some) ∙ ap (λ l. l ∷ whole_lines_from [] (behind ++ more)) (sym is)),
)

one_more : (lines : List Bytes) (line : Bytes) (ls : List Bytes) → (lines ++ line ∷ []) ++ ls ≡ lines ++ line ∷ ls
one_more lines line ls = append_assoc lines (line ∷ []) ls

-- it is answered, and leads on
pub led_on : (c : Option core.Core) (input line rest : Bytes) (lines : List Bytes) (n : ℕ) (stage next : Stage) (out o : Bytes)
    → ((ls : List Bytes) (more : Bytes) (end : Ends) → Goes stage n ls more end → PrintsAll 1 (lines ++ ls) (out ++ more) end)
    → Cut input lines line rest → StandsAt c next → Leads stage n line o next → Going c [] rest (n + 1) input (out ++ o)
led_on c input line rest lines n stage next out o prints cut stands leads = record {
  lines = lines ++ line ∷ [];
  stage = next;
  stands = stands;
  so_far = record {
    all = λ more. cut.0 more ∙ sym (one_more lines line (lines_from [] (rest ++ more)));
    whole = λ more. cut.1 more ∙ sym (one_more lines line (whole_lines_from [] (rest ++ more)));
    prints = λ ls more end goes.
        subst (λ l. PrintsAll 1 l ((out ++ o) ++ more) end) (sym (one_more lines line ls))
        (subst (λ t. PrintsAll 1 (lines ++ line ∷ ls) t end) (sym (append_assoc out o more)) (prints (line ∷ ls) (o ++ more) end (leads ls more end goes)));
  };
}

-- ---- the ends

first_lines : (input line : Bytes) (lines ls : List Bytes) → lines_from [] input ≡ lines ++ line ∷ ls → (some : List Bytes) → IsPrefix some (line ∷ []) → IsPrefix (lines ++ some) (lines_from [] input)
first_lines input line lines ls is some p = (
  p.0 ++ ls,
  append_assoc lines some (p.0 ++ ls) ∙ ap (λ l. lines ++ l) (sym (append_assoc some p.0 ls) ∙ ap (λ l. l ++ ls) p.1) ∙ sym is,
)

breaks : (input line : Bytes) (lines ls : List Bytes) (n : ℕ) (stage : Stage) (out o : Bytes) → lines_from [] input ≡ lines ++ line ∷ ls
    → ((ls : List Bytes) (more : Bytes) (end : Ends) → Goes stage n ls more end → PrintsAll 1 (lines ++ ls) (out ++ more) end)
    → Breaks stage n line o → SchedulesFirst input (out ++ o)
breaks input line lines ls n stage out o is prints b = record {
  lines = lines ++ b.lines;
  of_text = first_lines input line lines ls is b.lines b.of_line;
  prints = out ++ b.prints;
  end = b.end;
  printed_all = prints b.lines b.prints b.end b.printed;
  written = (b.written.0, append_assoc out o b.written.0 ∙ ap (λ t. out ++ t) b.written.1);
}

-- the line is the last one that is looked at
pub ends_at : (end : ScheduleEnd) (input line : Bytes) (lines ls : List Bytes) (n : ℕ) (stage next : Stage) (out o : Bytes) → lines_from [] input ≡ lines ++ line ∷ ls
    → ((ls : List Bytes) (more : Bytes) (end : Ends) → Goes stage n ls more end → PrintsAll 1 (lines ++ ls) (out ++ more) end)
    → Answers n stage line (Some end) o next → EndsWith end input (out ++ o)
ends_at (BadLine k) input line lines ls n stage next out o is prints a =
    subst (λ m. Schedules input (out ++ o) (schedule.BadLine m)) (sym a.0)
    (subst (λ t. Schedules input (out ++ t) (schedule.BadLine n)) (sym a.1)
    (subst (λ l. PrintsAll 1 l (out ++ bad_line_text n) (schedule.BadLine n)) (sym is) (prints (line ∷ ls) (bad_line_text n) (schedule.BadLine n) (a.2 ls))))
ends_at WriteFault input line lines ls n stage next out o is prints a = breaks input line lines ls n stage out o is prints a
ends_at NoMemory input line lines ls n stage next out o is prints a = breaks input line lines ls n stage out o is prints a
ends_at Ended input line lines ls n stage next out o is prints a = absurd a
ends_at ReadFault input line lines ls n stage next out o is prints a = absurd a
ends_at Spent input line lines ls n stage next out o is prints a = absurd a

-- a bad line of which this was written
pub refused_answers : (end : ScheduleEnd) (n : ℕ) (stage next : Stage) (line o : Bytes) → IsBad stage n line → Refuses n end o → Answers n stage line (Some end) o next
refused_answers (BadLine k) n stage next line o bad r = (r.0, r.1, bad)
refused_answers WriteFault n stage next line o bad r = record { lines = line ∷ []; of_line = ([], refl); prints = bad_line_text n; end = schedule.BadLine n; printed = bad []; written = r }
refused_answers NoMemory n stage next line o bad r = record { lines = []; of_line = (line ∷ [], refl); prints = []; end = schedule.Ended; printed = nothing_goes stage n; written = ([], append-nil o ∙ r) }
refused_answers Ended n stage next line o bad r = absurd r
refused_answers ReadFault n stage next line o bad r = absurd r
refused_answers Spent n stage next line o bad r = absurd r

-- no memory before anything was written of the line
pub starves : (n : ℕ) (stage : Stage) (line : Bytes) → Breaks stage n line []
starves n stage line = record { lines = []; of_line = (line ∷ [], refl); prints = []; end = schedule.Ended; printed = nothing_goes stage n; written = ([], refl) }

-- the first bytes of what the line prints
pub loses : (n : ℕ) (stage next : Stage) (line o done lost : Bytes) → o ≡ done ++ lost → Leads stage n line o next → Breaks stage n line done
loses n stage next line o done lost is leads = record {
  lines = line ∷ [];
  of_line = ([], refl);
  prints = o;
  end = schedule.Ended;
  printed = subst (λ t. Goes stage n (line ∷ []) t schedule.Ended) (append-nil o) (leads [] [] schedule.Ended (nothing_goes next (n + 1)));
  written = (lost, sym is);
}

-- the last line, which has no line feed

pub last_line : (line : Bytes) → 0 < length line → lines_from line [] ≡ line ∷ []
last_line [] some = absurd (omega (arith, some))
last_line (c ∷ cs) some = refl

-- the whole text of which this is left
pub whole_text : (c : Option core.Core) (line : Bytes) (n : ℕ) (input out : Bytes) (g : Going c line [] n input out) → lines_from [] input ≡ g.lines ++ lines_from line []
whole_text c line n input out g = ap (lines_from []) (sym (append-nil input)) ∙ g.so_far.all []

pub ends_whole : (c : Option core.Core) (line : Bytes) (n : ℕ) (input out : Bytes) → line ≡ [] → Going c line [] n input out → EndsWith Ended input out
ends_whole c line n input out is g =
    let stop = g.so_far.prints [] [] schedule.Ended (nothing_goes g.stage n) in
    subst (λ l. PrintsAll 1 l out schedule.Ended) (sym (whole_text c line n input out g ∙ ap (λ l. g.lines ++ lines_from l []) is))
    (subst (λ t. PrintsAll 1 (g.lines ++ []) t schedule.Ended) (append-nil out) stop)

pub ends_part : (c : Option core.Core) (line : Bytes) (n : ℕ) (input out : Bytes) → Going c line [] n input out → SchedulesPart input out
ends_part c line n input out g =
    let stop = g.so_far.prints [] [] schedule.Ended (nothing_goes g.stage n) in
    subst (λ l. PrintsAll 1 l out schedule.Ended) (sym (ap (whole_lines_from []) (sym (append-nil input)) ∙ g.so_far.whole []))
    (subst (λ t. PrintsAll 1 (g.lines ++ []) t schedule.Ended) (append-nil out) stop)

-- no memory for the rest of a line
pub ends_starved : (c : Option core.Core) (line rest : Bytes) (n : ℕ) (input out : Bytes) → Going c line rest n input out → SchedulesFirst input out
ends_starved c line rest n input out g = record {
  lines = g.lines;
  of_text = (lines_from line (rest ++ []), sym (ap (lines_from []) (sym (append-nil input)) ∙ g.so_far.all []));
  prints = out;
  end = schedule.Ended;
  printed_all =
      subst (λ l. PrintsAll 1 l out schedule.Ended) (append-nil g.lines)
      (subst (λ t. PrintsAll 1 (g.lines ++ []) t schedule.Ended) (append-nil out) (g.so_far.prints [] [] schedule.Ended (nothing_goes g.stage n)));
  written = ([], append-nil out);
}

pub ends_at_once : EndsWith NoMemory [] []
ends_at_once = ends_starved None [] [] 1 [] [] at_start

-- ---- what a caller of `answer` goes on with

-- what one line came to, from wherever the run was
abbrev pub Answered : Option core.Core → Option core.Core → ℕ → Bytes → Option ScheduleEnd → Option Bytes → Option Bytes → Type 0
Answered c new n line result before after =
    (stage : Stage) → StandsAt c stage → (o : Bytes) × (next : Stage) × Adds before o after × Answers n stage line result o next × (result ≡ None → StandsAt new next)

pub goes_on : (c new : Option core.Core) (line rest line' behind : Bytes) (n : ℕ) (input out : Bytes) (before between after : Option Bytes) (more : Bytes) (result : Option ScheduleEnd)
    → line' ≡ line ++ before_mark 10 rest → Some behind ≡ behind_mark 10 rest → Adds before more between → Going c line rest n input (out ++ more)
    → Answered c new n line' result between after → result ≡ None → (all : Bytes) × Adds before all after × Going new [] behind (n + 1) input (out ++ all)
goes_on c new line rest line' behind n input out before between after more result is some adds g answered none =
    let a = answered g.stage g.stands in
    let leads : Leads g.stage n line' a.0 a.1 = subst (λ r. Answers n g.stage line' r a.0 a.1) none a.3 in (
      more ++ a.0,
      Adds-trans before between after more a.0 adds a.2,
      subst (Going new [] behind (n + 1) input) (append_assoc out more a.0)
          (led_on new input line' behind g.lines n g.stage a.1 (out ++ more) a.0 g.so_far.prints
          (cut_off line rest line' behind g.lines n input (out ++ more) g.stage is some g.so_far) (a.4 none) leads),
    )

pub stops : (c new : Option core.Core) (line rest line' behind : Bytes) (n : ℕ) (input out : Bytes) (before between after : Option Bytes) (more : Bytes) (result : Option ScheduleEnd) (end : ScheduleEnd)
    → line' ≡ line ++ before_mark 10 rest → Some behind ≡ behind_mark 10 rest → Adds before more between → Going c line rest n input (out ++ more)
    → Answered c new n line' result between after → result ≡ Some end → (all : Bytes) × Adds before all after × EndsWith end input (out ++ all)
stops c new line rest line' behind n input out before between after more result end is some adds g answered ended =
    let a = answered g.stage g.stands in
    let cut = cut_off line rest line' behind g.lines n input (out ++ more) g.stage is some g.so_far in (
      more ++ a.0,
      Adds-trans before between after more a.0 adds a.2,
      subst (EndsWith end input) (append_assoc out more a.0)
          (ends_at end input line' g.lines (lines_from [] (behind ++ [])) n g.stage a.1 (out ++ more) a.0 (ap (lines_from []) (sym (append-nil input)) ∙ cut.0 []) g.so_far.prints
          (subst (λ r. Answers n g.stage line' r a.0 a.1) ended a.3)),
    )

last_long : (line : Bytes) → nat_le (length line) max_schedule_line_bytes ≡ false → lines_from line [] ≡ line ∷ []
last_long [] is = cc
last_long (c ∷ cs) is = refl

-- a line that is too long is bad before its end is seen
pub stops_long : (c : Option core.Core) (line : Bytes) (n : ℕ) (input out : Bytes) (before between after : Option Bytes) (more o : Bytes) (end : ScheduleEnd)
    → nat_le (length line) max_schedule_line_bytes ≡ false → Adds before more between → Going c line [] n input (out ++ more) → Adds between o after → Refuses n end o
    → (all : Bytes) × Adds before all after × EndsWith end input (out ++ all)
stops_long c line n input out before between after more o end long adds g wrote refuses = (
  more ++ o,
  Adds-trans before between after more o adds wrote,
  subst (EndsWith end input) (append_assoc out more o)
      (ends_at end input line g.lines [] n g.stage g.stage (out ++ more) o (whole_text c line n input (out ++ more) g ∙ ap (λ l. g.lines ++ l) (last_long line long)) g.so_far.prints
      (refused_answers end n g.stage g.stage line o (long_at g.stage n line long) refuses)),
)

-- the last line is answered
pub last_goes : (c new : Option core.Core) (line : Bytes) (n : ℕ) (input out : Bytes) (before after : Option Bytes) (result : Option ScheduleEnd) → 0 < length line
    → Going c line [] n input out → Answered c new n line result before after → result ≡ None → (o : Bytes) × Adds before o after × EndsWith Ended input (out ++ o)
last_goes c new line n input out before after result some g answered none =
    let a = answered g.stage g.stands in
    let leads : Leads g.stage n line a.0 a.1 = subst (λ r. Answers n g.stage line r a.0 a.1) none a.3 in
    let all = g.so_far.prints (line ∷ []) (a.0 ++ []) schedule.Ended (leads [] [] schedule.Ended (nothing_goes a.1 (n + 1))) in (
      a.0,
      a.2,
      subst (λ l. PrintsAll 1 l (out ++ a.0) schedule.Ended) (sym (whole_text c line n input out g ∙ ap (λ l. g.lines ++ l) (last_line line some)))
          (subst (λ t. PrintsAll 1 (g.lines ++ line ∷ []) (out ++ t) schedule.Ended) (append-nil a.0) all),
    )

pub last_stops : (c new : Option core.Core) (line : Bytes) (n : ℕ) (input out : Bytes) (before after : Option Bytes) (result : Option ScheduleEnd) (end : ScheduleEnd) → 0 < length line
    → Going c line [] n input out → Answered c new n line result before after → result ≡ Some end → (o : Bytes) × Adds before o after × EndsWith end input (out ++ o)
last_stops c new line n input out before after result end some g answered ended =
    let a = answered g.stage g.stands in (
      a.0,
      a.2,
      ends_at end input line g.lines [] n g.stage a.1 out a.0 (whole_text c line n input out g ∙ ap (λ l. g.lines ++ l) (last_line line some)) g.so_far.prints
          (subst (λ r. Answers n g.stage line r a.0 a.1) ended a.3),
    )

pub no_bytes : (line : Bytes) → length line ≡ 0 → line ≡ []
no_bytes [] is = refl
no_bytes (c ∷ cs) is = absurd (omega (arith, is))

pub at_fresh : (c : Option core.Core) (line : Bytes) (n : ℕ) → c ≡ None → line ≡ [] → n ≡ 1 → Going c line [] n [] []
at_fresh c line n is nothing one =
    subst (λ o. Going o line [] n [] []) (sym is) (subst (λ l. Going None l [] n [] []) (sym nothing) (subst (λ m. Going None [] [] m [] []) (sym one) at_start))
