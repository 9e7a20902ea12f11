-- What lines mean, as the definitions' lines.
--     beginning_of meant       the definitions' meaning of a first line
--     HasUsualLimits meant     its actors and limits are within the usual ones
--     Means meant line         the definitions' meaning of any other line
--     unread_by error refusal  what comes of words that aren't read, by what a core says of the actor
--     FitsLine meant           its event is one that a core takes
use Rattle.std.specs.Prelude.{◌≡◌, ℕ, Some, None, option_and_then, option_map, Option}
use Rattle.vs_defs.specs.Bytes.{Bytes}
use Rattle.vs_defs.specs.Store as store
use Rattle.vs_defs.specs.Store.{usual_limits}
use Rattle.vs_defs.specs.Request as request
use Rattle.vs_thread_defs.specs.Interleaving as machine
use Rattle.vs_thread_defs.specs.Schedule as schedule
use Rattle.vs_thread_defs.specs.Schedule.{number_within}
use Rattle.vs_command.specs.Refusals.{refusal_of}
use Rattle.vs_store.specs.Seen.{limits_seen}
use Rattle.vs_store.specs.Kept.{AreUsual}
use Rattle.vs_core.specs.Events.{event_of, FitsEvent}
use Rattle.vs_schedule_words.specs.Verbs.{verb_of}
use Rattle.vs_schedule.specs.declared.begins.Beginning.{Beginning}
use Rattle.vs_schedule.specs.declared.begins.Beginning.TheVariants as beginning
use Rattle.vs_schedule.specs.declared.line.Line.{Line}
use Rattle.vs_schedule.specs.declared.line.Line.TheVariants.{Blank, Bad, Happening, Unread}

abbrev pub beginning_of : Beginning → schedule.Line
beginning_of beginning.Blank = schedule.Blank
beginning_of beginning.Bad = schedule.Bad
beginning_of (beginning.Begins actors limits) = schedule.Begins actors (limits_seen limits)

abbrev pub HasUsualLimits : Beginning → Type 0
HasUsualLimits beginning.Blank = Unit {0}
HasUsualLimits beginning.Bad = Unit {0}
HasUsualLimits (beginning.Begins actors limits) = AreUsual (limits_seen limits)

-- the limits that the words SET, KEYS and ALL name
abbrev pub limits_named : Bytes → Bytes → Bytes → Option store.Limits
limits_named set keys all =
    option_and_then (λ s. option_and_then (λ k. option_map (λ a. record { set = s; keys = k; all = a; changes = usual_limits.changes })
    (number_within 1 usual_limits.all all)) (number_within 1 usual_limits.keys keys)) (number_within 1 usual_limits.set set)

-- the beginning with actors and limits, where both are read
abbrev pub beginning_by : Option ℕ → Option store.Limits → schedule.Line
beginning_by actors limits = schedule.line_or_bad (option_and_then (λ k. option_map (λ l. schedule.Begins k l) limits) actors)

-- want of memory is no meaning of a line
abbrev pub Means : Line → schedule.Line → Type 0
Means Blank l = l ≡ schedule.Blank
Means Bad l = l ≡ schedule.Bad
Means (Happening verb event) l = l ≡ schedule.Happening (verb_of verb) (event_of event)
Means (Unread actor verb refusal) l = (cause : request.Refusal) × (refusal_of refusal ≡ Some cause) × (l ≡ schedule.Unread actor (verb_of verb) cause)

abbrev pub FitsLine : Line → Type 0
FitsLine Blank = Unit {0}
FitsLine Bad = Unit {0}
FitsLine (Happening verb event) = FitsEvent event
FitsLine (Unread actor verb refusal) = Unit {0}

abbrev pub unread_by : Option machine.Outcome → request.Refusal → machine.Outcome
unread_by None e = machine.Refused e
unread_by (Some o) e = o
