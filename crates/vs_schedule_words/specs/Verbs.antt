-- Verbs as the definitions' verbs.
--     verb_of verb           the definitions' verb
--     verb_named word        the verb of a word
use Rattle.std.specs.Prelude.{cond, Option, Some, None}
use Rattle.vs_defs.specs.Bytes.{Bytes}
use Rattle.vs_thread_defs.specs.Schedule as schedule
use Rattle.vs_thread_defs.specs.Schedule.{is_verb}
use Rattle.vs_schedule_words.specs.declared.verb.Verb.{Verb}
use Rattle.vs_schedule_words.specs.declared.verb.Verb.TheVariants.{Do, Look, Finish, Draft, Prepare, Commit}

abbrev pub verb_of : Verb → schedule.Verb
verb_of Do = schedule.Do
verb_of Look = schedule.Look
verb_of Finish = schedule.Finish
verb_of Draft = schedule.Draft
verb_of Prepare = schedule.Prepare
verb_of Commit = schedule.Commit

abbrev pub verb_named : Bytes → Option schedule.Verb
verb_named w =
    cond (is_verb w schedule.Do) (Some schedule.Do) (cond (is_verb w schedule.Look) (Some schedule.Look)
    (cond (is_verb w schedule.Finish) (Some schedule.Finish) (cond (is_verb w schedule.Draft) (Some schedule.Draft)
    (cond (is_verb w schedule.Prepare) (Some schedule.Prepare) (cond (is_verb w schedule.Commit) (Some schedule.Commit) None)))))
