use Rattle.std.proofs.Common.{rules, ◌≡◌, ◌∙◌, ◌-◌, None, Some, ap, sym, subst, take, drop, length, List, option_map}
use Rattle.vs_defs.specs.Bytes.{Bytes}
use Rattle.vs_defs.specs.ProgramWords.{settings_of}
use Rattle.vs_args.specs.Readings.{job_of}
use Rattle.vs_args.specs.Words.{job_named, seen, command_named, choices_of}
use Rattle.vs_args.specs.Settings.{Gives}
use Rattle.vs_args.specs.declared.command.Command.TheVariants.{Script, Schedule, Generate, Serve}
use Rattle.vs_args.proofs.Options.{split_first, job_by_command, job_with, script_of, schedule_of, generate_of, serve_of, in_ranges, in_server_ranges}
use Rattle.vs_args.proofs.plain.plain_job.Goals as goal

pub returns-in_err-seed-clause-job : goal.returns-in_err-seed-clause-job
returns-in_err-seed-clause-job c =
    let words = split_first c.args.words.now c.word-item.result c.in-len1-up.len_at_least c.word-item.is in
    let rest : List Bytes = take (length c.args.words.now - 1) (drop 1 c.args.words.now) in
    let named : command_named c.word-item.result ≡ Some c.in_ok-command.command = search rules in
    let none : c.from_residual-in_err-seed.result ≡ None = search rules in
    let nothing : settings_of (seen c.choices.result.items) rest ≡ None = search rules in
    let same : settings_of (seen (choices_of c.in_ok-command.command)) rest ≡ None = ap (λ cs. settings_of (seen cs) rest) (sym c.choices.ensures) ∙ nothing in
    ap (option_map job_of) none ∙ sym (ap job_named words ∙ job_by_command c.word-item.result rest c.in_ok-command.command named ∙ ap (option_map (job_with c.in_ok-command.command)) same)

pub returns-in-Script-clause-job : goal.returns-in-Script-clause-job
returns-in-Script-clause-job c =
    let words = split_first c.args.words.now c.word-item.result c.in-len1-up.len_at_least c.word-item.is in
    let rest : List Bytes = take (length c.args.words.now - 1) (drop 1 c.args.words.now) in
    let named : command_named c.word-item.result ≡ Some Script = search rules in
    let given : Gives (Some c.in_ok-seed.field-0) (settings_of (seen c.choices.result.items) rest) = search rules in
    let choices : c.choices.result.items ≡ choices_of Script = c.choices.ensures ∙ ap choices_of c.in-Script.is in
    let at_choices = subst (λ cs. Gives (Some c.in_ok-seed.field-0) (settings_of (seen cs) rest)) choices given in
    script_of c.in_ok-seed.field-0 (settings_of (seen (choices_of Script)) rest) at_choices
    ∙ sym (ap job_named words ∙ job_by_command c.word-item.result rest Script named)

pub returns-in-Schedule-clause-job : goal.returns-in-Schedule-clause-job
returns-in-Schedule-clause-job c =
    let words = split_first c.args.words.now c.word-item.result c.in-len1-up.len_at_least c.word-item.is in
    let rest : List Bytes = take (length c.args.words.now - 1) (drop 1 c.args.words.now) in
    let named : command_named c.word-item.result ≡ Some Schedule = search rules in
    let given : Gives (Some c.in_ok-seed.field-0) (settings_of (seen c.choices.result.items) rest) = search rules in
    let choices : c.choices.result.items ≡ choices_of Schedule = c.choices.ensures ∙ ap choices_of c.in-Schedule.is in
    let at_choices = subst (λ cs. Gives (Some c.in_ok-seed.field-0) (settings_of (seen cs) rest)) choices given in
    schedule_of c.in_ok-seed.field-0 (settings_of (seen (choices_of Schedule)) rest) at_choices
    ∙ sym (ap job_named words ∙ job_by_command c.word-item.result rest Schedule named)

pub returns-in-Generate-clause-job : goal.returns-in-Generate-clause-job
returns-in-Generate-clause-job c =
    let words = split_first c.args.words.now c.word-item.result c.in-len1-up.len_at_least c.word-item.is in
    let rest : List Bytes = take (length c.args.words.now - 1) (drop 1 c.args.words.now) in
    let named : command_named c.word-item.result ≡ Some Generate = search rules in
    let given : Gives (Some c.in_ok-seed.field-0) (settings_of (seen c.choices.result.items) rest) = search rules in
    let choices : c.choices.result.items ≡ choices_of Generate = c.choices.ensures ∙ ap choices_of c.in-Generate.is in
    let at_choices = subst (λ cs. Gives (Some c.in_ok-seed.field-0) (settings_of (seen cs) rest)) choices given in
    generate_of c.in_ok-seed.field-0 (settings_of (seen (choices_of Generate)) rest) at_choices
    ∙ sym (ap job_named words ∙ job_by_command c.word-item.result rest Generate named)

pub returns-in-Generate-clause-within : goal.returns-in-Generate-clause-within
returns-in-Generate-clause-within c =
    let rest : List Bytes = take (length c.args.words.now - 1) (drop 1 c.args.words.now) in
    let given : Gives (Some c.in_ok-seed.field-0) (settings_of (seen c.choices.result.items) rest) = search rules in
    in_ranges c.in_ok-seed.field-0 (settings_of (seen c.choices.result.items) rest) given

pub returns-in-Serve-clause-job : goal.returns-in-Serve-clause-job
returns-in-Serve-clause-job c =
    let words = split_first c.args.words.now c.word-item.result c.in-len1-up.len_at_least c.word-item.is in
    let rest : List Bytes = take (length c.args.words.now - 1) (drop 1 c.args.words.now) in
    let named : command_named c.word-item.result ≡ Some Serve = search rules in
    let given : Gives (Some c.in_ok-seed.field-0) (settings_of (seen c.choices.result.items) rest) = search rules in
    let choices : c.choices.result.items ≡ choices_of Serve = c.choices.ensures ∙ ap choices_of c.in-Serve.is in
    let at_choices = subst (λ cs. Gives (Some c.in_ok-seed.field-0) (settings_of (seen cs) rest)) choices given in
    serve_of c.in_ok-seed.field-0 (settings_of (seen (choices_of Serve)) rest) at_choices
    ∙ sym (ap job_named words ∙ job_by_command c.word-item.result rest Serve named)

pub returns-in-Serve-clause-within : goal.returns-in-Serve-clause-within
returns-in-Serve-clause-within c =
    let rest : List Bytes = take (length c.args.words.now - 1) (drop 1 c.args.words.now) in
    let given : Gives (Some c.in_ok-seed.field-0) (settings_of (seen c.choices.result.items) rest) = search rules in
    in_server_ranges c.in_ok-seed.field-0 (settings_of (seen c.choices.result.items) rest) given
