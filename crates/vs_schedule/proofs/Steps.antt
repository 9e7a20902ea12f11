-- One line at a stage: what it prints, by what it means.
use Rattle.std.proofs.Common.{◌≡◌, ◌∙◌, ◌==◌, ℕ, zero, suc, ◌+◌, Bool, true, false, not, cond, nat_le, List, [], ◌∷◌, ◌++◌, Option, Some, None, option_map, length, replicate, slice_get, refl, ap, sym, subst, append_assoc, append-nil}
use Rattle.vs_defs.specs.Bytes.{Bytes}
use Rattle.vs_defs.specs.Limits.{max_schedule_line_bytes}
use Rattle.vs_defs.specs.Request as request
use Rattle.vs_defs.specs.Store.{Limits, empty_store}
use Rattle.vs_thread_defs.specs.Core as core
use Rattle.vs_thread_defs.specs.Core.{StandsFor, ActorsStand, ActorStands}
use Rattle.vs_thread_defs.specs.Interleaving.{State, Event, Outcome, Happens, actor_of, actor_at, start}
use Rattle.vs_thread_defs.specs.Interleaving as machine
use Rattle.vs_thread_defs.specs.Machine.{GraphHistory}
use Rattle.vs_thread_defs.specs.Schedule.{Ends, Line, Blank, Bad, Begins, Happening, Unread, Prints, PrintsAll, begins, event_line, line_by, line_words, line_or_bad, printed, outcome_text, unread_outcome, bad_line_text}
use Rattle.vs_thread_defs.specs.Schedule as schedule
use Rattle.vs_core.specs.Actors.{seen_at, busy_of}
use Rattle.vs_core.specs.Actors.{Steps}
use Rattle.vs_schedule.specs.Lines.{unread_by}
use Rattle.vs_schedule.specs.Answered.{Carries}
use Rattle.vs_schedule.specs.Stage.{Stage, Opening, Running, Goes, StandsAt, Leads, IsBad}

-- ---- blank and bad lines

pub blank_opens : (n : ℕ) (line : Bytes) → line_by begins line ≡ Blank → Leads Opening n line [] Opening
blank_opens n line is ls more end goes = rw (is, PrintsAll) goes

pub begins_opens : (n : ℕ) (line : Bytes) (actors : ℕ) (limits : Limits) → line_by begins line ≡ Begins actors limits
    → Leads Opening n line [] (Running limits (start actors))
begins_opens n line actors limits is ls more end goes = rw (is, PrintsAll) goes

pub bad_opens : (n : ℕ) (line : Bytes) → line_by begins line ≡ Bad → IsBad Opening n line
bad_opens n line is ls = rw (is, PrintsAll) (refl, refl)

pub blank_runs : (limits : Limits) (s : State) (n : ℕ) (line : Bytes) → line_by event_line line ≡ Blank → Leads (Running limits s) n line [] (Running limits s)
blank_runs limits s n line is ls more end goes = rw (is, Prints) goes

pub bad_runs : (limits : Limits) (s : State) (n : ℕ) (line : Bytes) → line_by event_line line ≡ Bad → IsBad (Running limits s) n line
bad_runs limits s n line is ls = rw (is, Prints) (refl, refl)

-- ---- events

pub happens_runs : (limits : Limits) (s t : State) (n : ℕ) (line : Bytes) (verb : schedule.Verb) (e : Event) (o : Outcome)
    → line_by event_line line ≡ Happening verb e → Happens limits s e o t
    → Leads (Running limits s) n line (printed (actor_of e) verb (outcome_text o)) (Running limits t)
happens_runs limits s t n line verb e o is happens ls more end goes = rw (is, Prints) (o, t, more, happens, refl, goes)

pub unread_runs : (limits : Limits) (s : State) (n : ℕ) (line : Bytes) (verb : schedule.Verb) (k : ℕ) (e : request.Refusal)
    → line_by event_line line ≡ Unread k verb e
    → Leads (Running limits s) n line (printed k verb (outcome_text (unread_outcome (actor_at s k) e))) (Running limits s)
unread_runs limits s n line verb k e is ls more end goes = rw (is, Prints) (more, refl, goes)

-- ---- lines that are too long

long_by : (f : List Bytes → Line) (c : ℕ) (cs : Bytes) → nat_le (length (c ∷ cs)) max_schedule_line_bytes ≡ false → line_by f (c ∷ cs) ≡ Bad
long_by f c cs is = rw (is, line_words) refl

pub long_is_bad : (f : List Bytes → Line) (line : Bytes) → nat_le (length line) max_schedule_line_bytes ≡ false → line_by f line ≡ Bad
long_is_bad f [] is = cc
long_is_bad f (c ∷ cs) is = long_by f c cs is

pub long_at : (stage : Stage) (n : ℕ) (line : Bytes) → nat_le (length line) max_schedule_line_bytes ≡ false → IsBad stage n line
long_at Opening n line is = bad_opens n line (long_is_bad begins line is)
long_at (Running limits s) n line is = bad_runs limits s n line (long_is_bad event_line line is)

-- ---- an actor, as the core and as the machine have it

seen_unread : (limits : Limits) (h : GraphHistory) (e : request.Refusal) (x : core.Seen) (a : machine.Actor) → ActorStands limits h x a
    → unread_by (busy_of (Some x)) e ≡ unread_outcome (Some a) e
seen_unread limits h e core.Idle machine.Idle stands = refl
seen_unread limits h e (core.IsLooking l) (machine.Looking search place) stands = refl
seen_unread limits h e (core.IsDrafting d) (machine.Drafting add drawn place) stands = refl
seen_unread limits h e (core.IsReady r) (machine.Ready add drawn p) stands = refl
seen_unread limits h e x a stands = absurd stands

unread_at : (limits : Limits) (h : GraphHistory) (e : request.Refusal) (xs : List core.Seen) (ys : List machine.Actor) (k : ℕ) → ActorsStand limits h xs ys
    → unread_by (busy_of (slice_get xs k)) e ≡ unread_outcome (slice_get ys k) e
unread_at limits h e [] [] k stands = refl
unread_at limits h e (x ∷ xs) (a ∷ ys) zero stands = seen_unread limits h e x a stands.0
unread_at limits h e (x ∷ xs) (a ∷ ys) (suc k) stands = unread_at limits h e xs ys k stands.1
unread_at limits h e [] (a ∷ ys) k stands = absurd stands
unread_at limits h e (x ∷ xs) [] k stands = absurd stands

pub unread_same : (limits : Limits) (c : core.Core) (s : State) (e : request.Refusal) (k : ℕ) → StandsFor limits c s
    → unread_by (busy_of (seen_at c k)) e ≡ unread_outcome (actor_at s k) e
unread_same limits c s e zero stands = refl
unread_same limits c s e (suc k) stands = unread_at limits s.history e c.actors s.actors k stands.actors

-- ---- the line without a core, and the line for the core, as the code meets them

all_idle : (limits : Limits) (h : GraphHistory) (n : ℕ) → ActorsStand limits h (replicate n core.Idle) (replicate n machine.Idle)
all_idle limits h zero = tt
all_idle limits h (suc n) = (tt, all_idle limits h n)

pub opens_blank : (line : Bytes) (c : Option core.Core) → c ≡ None → line_by begins line ≡ Blank → Carries None line [] c true
opens_blank line c none is n Opening stands = (Opening, subst (λ o. StandsAt o Opening) (sym none) tt, blank_opens n line is)
opens_blank line c none is n (Running limits s) stands = absurd stands

pub opens_bad : (line : Bytes) (c : Option core.Core) → line_by begins line ≡ Bad → Carries None line [] c false
opens_bad line c is n Opening stands = bad_opens n line is
opens_bad line c is n (Running limits s) stands = absurd stands

pub opens_begun : (line : Bytes) (c : core.Core) (limits : Limits) (actors : ℕ) → c ≡ record { store = empty_store limits; actors = replicate actors core.Idle }
    → line_by begins line ≡ Begins actors limits → Carries None line [] (Some c) true
opens_begun line c limits actors fresh is n Opening stands =
    let now : StandsAt (Some (record { store = empty_store limits; actors = replicate actors core.Idle })) (Running limits (start actors)) =
    (refl, record { store = refl; legal = tt; actors = all_idle limits [] actors }) in
    (Running limits (start actors), subst (λ (x : core.Core). StandsAt (Some x) (Running limits (start actors))) (sym fresh) now, begins_opens n line actors limits is)
opens_begun line c limits actors fresh is n (Running l s) stands = absurd stands

pub runs_blank : (old : core.Core) (line out : Bytes) (new : core.Core) → new ≡ old → out ≡ [] → line_by event_line line ≡ Blank → Carries (Some old) line out (Some new) true
runs_blank old line out new same nothing is n Opening stands = absurd stands
runs_blank old line out new same nothing is n (Running limits s) stands = (
  Running limits s,
  subst (λ (x : core.Core). StandsAt (Some x) (Running limits s)) (sym same) stands,
  subst (λ o. Leads (Running limits s) n line o (Running limits s)) (sym nothing) (blank_runs limits s n line is),
)

pub runs_bad : (old : core.Core) (line out : Bytes) (new : core.Core) → line_by event_line line ≡ Bad → Carries (Some old) line out (Some new) false
runs_bad old line out new is n Opening stands = absurd stands
runs_bad old line out new is n (Running limits s) stands = bad_runs limits s n line is

pub runs_event : (old : core.Core) (line out : Bytes) (new : core.Core) (verb : schedule.Verb) (k : ℕ) (e : Event) (o : Outcome)
    → line_by event_line line ≡ Happening verb e → k ≡ actor_of e → out ≡ printed k verb (outcome_text o) → Steps old e o new → new.store.limits ≡ old.store.limits
    → Carries (Some old) line out (Some new) true
runs_event old line out new verb k e o is by prints steps kept n Opening stands = absurd stands
runs_event old line out new verb k e o is by prints steps kept n (Running limits s) stands =
    let own : StandsFor old.store.limits old s = subst (λ l. StandsFor l old s) stands.0 stands.1 in
    let step = steps s own in
    let same : limits ≡ old.store.limits = stands.0 in (
      Running limits step.0,
      (same ∙ sym kept, subst (λ l. StandsFor l new step.0) (sym same) step.2),
      subst (λ t. Leads (Running limits s) n line t (Running limits step.0)) (sym (prints ∙ ap (λ j. printed j verb (outcome_text o)) by))
          (happens_runs limits s step.0 n line verb e o is (subst (λ l. Happens l s e o step.0) (sym same) step.1)),
    )

pub runs_unread : (old : core.Core) (line out : Bytes) (new : core.Core) (verb : schedule.Verb) (k : ℕ) (cause : request.Refusal) (o : Outcome)
    → line_by event_line line ≡ Unread k verb cause → new ≡ old → out ≡ printed k verb (outcome_text o) → o ≡ unread_by (busy_of (seen_at old k)) cause
    → Carries (Some old) line out (Some new) true
runs_unread old line out new verb k cause o is same prints by n Opening stands = absurd stands
runs_unread old line out new verb k cause o is same prints by n (Running limits s) stands =
    let all : out ≡ printed k verb (outcome_text (unread_outcome (actor_at s k) cause)) = prints ∙ ap (λ x. printed k verb (outcome_text x)) (by ∙ unread_same limits old s cause k stands.1) in (
      Running limits s,
      subst (λ (x : core.Core). StandsAt (Some x) (Running limits s)) (sym same) stands,
      subst (λ t. Leads (Running limits s) n line t (Running limits s)) (sym all) (unread_runs limits s n line verb k cause is),
    )
