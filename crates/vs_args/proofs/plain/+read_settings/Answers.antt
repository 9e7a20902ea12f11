use Rattle.std.proofs.Common.{rules, ◌≡◌, ◌∙◌, ◌-◌, None, Some, ap, sym, subst, take, drop, length, List, ◌∷◌}
use Rattle.vs_defs.specs.Bytes.{Bytes}
use Rattle.vs_defs.specs.ProgramWords.{choice_named, choice_within, settings_of, value_in, with_setting, without_choice}
use Rattle.vs_args.specs.Settings.{Gives}
use Rattle.vs_args.specs.Words.{choice_of, seen, value_behind}
use Rattle.vs_args.proofs.Options.{split_first, joined_settings, named_settings, gives_with, no_more}
use Rattle.vs_args.proofs.plain.+read_settings.Goals as goal

pub returns-in_err-read_settings : goal.returns-in_err-read_settings
returns-in_err-read_settings t c =
    let words = split_first c.args.words.now c.word-item.result c.in-len1-up.len_at_least c.word-item.is in
    let rest : List Bytes = take (length c.args.words.now - 1) (drop 1 c.args.words.now) in
    let choice = choice_of c.in-Some.choice in
    let left = seen c.args.left.items in
    let word : c.as_slice-word.result.now ≡ c.word-item.result = c.as_slice-word.ensures in
    let found : choice_within c.word-item.result left ≡ Some choice = ap (λ w. choice_within w left) (sym word) ∙ c.in-Some.ensures.taken.0 in
    let without : seen c.take_joined.new.left.items ≡ without_choice choice left = c.in-Some.ensures.taken.1 in
    let none : c.from_residual-in_err-read_settings.result ≡ None = search rules in
    let nothing : settings_of (seen c.take_joined.new.left.items) rest ≡ None = search rules in
    let value = value_in choice (value_behind c.in-Some.choice c.word-item.result) in
    subst (λ o. Gives o (settings_of left c.args.words.now)) (sym none)
    (ap (settings_of left) words ∙ joined_settings left c.word-item.result rest choice found
    ∙ ap (with_setting choice value) (ap (λ cs. settings_of cs rest) (sym without) ∙ nothing) ∙ no_more choice value)

pub returns-in-Some : goal.returns-in-Some
returns-in-Some t c =
    let words = split_first c.args.words.now c.word-item.result c.in-len1-up.len_at_least c.word-item.is in
    let rest : List Bytes = take (length c.args.words.now - 1) (drop 1 c.args.words.now) in
    let choice = choice_of c.in-Some.choice in
    let left = seen c.args.left.items in
    let word : c.as_slice-word.result.now ≡ c.word-item.result = c.as_slice-word.ensures in
    let found : choice_within c.word-item.result left ≡ Some choice = ap (λ w. choice_within w left) (sym word) ∙ c.in-Some.ensures.taken.0 in
    let without : seen c.take_joined.new.left.items ≡ without_choice choice left = c.in-Some.ensures.taken.1 in
    let told : value_in choice c.in-Some.text.now ≡ Some c.in_ok-value.value = search rules in
    let value : value_in choice (value_behind c.in-Some.choice c.word-item.result) ≡ Some c.in_ok-value.value =
    ap (value_in choice) (ap (value_behind c.in-Some.choice) (sym word) ∙ sym c.in-Some.ensures.value) ∙ told in
    let given : Gives (Some c.in_ok-read_settings.field-0) (settings_of (seen c.take_joined.new.left.items) rest) = search rules in
    let is : settings_of left c.args.words.now ≡ with_setting choice (Some c.in_ok-value.value) (settings_of (seen c.take_joined.new.left.items) rest) =
    ap (settings_of left) words ∙ joined_settings left c.word-item.result rest choice found
    ∙ ap (λ v. with_setting choice v (settings_of (without_choice choice left) rest)) value
    ∙ ap (λ cs. with_setting choice (Some c.in_ok-value.value) (settings_of cs rest)) (sym without) in
    subst (Gives (Some c.with.result)) (sym is)
    (gives_with choice c.in_ok-value.value c.in_ok-read_settings.field-0 c.with.result (settings_of (seen c.take_joined.new.left.items) rest) c.with.ensures given)

pub returns-in_err-read_settings-2 : goal.returns-in_err-read_settings-2
returns-in_err-read_settings-2 t c =
    let words = split_first c.args.words.now c.word-item.result c.in-len1-up.len_at_least c.word-item.is in
    let behind : List Bytes = take (length c.args.words.now - 1) (drop 1 c.args.words.now) in
    let more = split_first behind c.text-item.result c.in-len1-up-rest.len_at_least c.text-item.is in
    let rest : List Bytes = take (length behind - 1) (drop 1 behind) in
    let choice = choice_of c.in_ok-choice.choice in
    let left = seen c.args.left.items in
    let word : c.as_slice-word.result.now ≡ c.word-item.result = c.as_slice-word.ensures in
    let same : seen c.take_joined.new.left.items ≡ left = ap seen c.in_default-take_joined.ensures.taken.1 in
    let joined : choice_within c.word-item.result left ≡ None = ap (λ w. choice_within w left) (sym word) ∙ c.in_default-take_joined.ensures.taken.0 in
    let found : choice_named c.word-item.result left ≡ Some choice =
    ap (λ w. choice_named w left) (sym word) ∙ ap (choice_named c.as_slice-word.result.now) (sym same) ∙ c.in_ok-choice.ensures.0 in
    let without : seen c.take_named.new.left.items ≡ without_choice choice left = c.in_ok-choice.ensures.1 ∙ ap (without_choice choice) same in
    let none : c.from_residual-in_err-read_settings-2.result ≡ None = search rules in
    let nothing : settings_of (seen c.take_named.new.left.items) rest ≡ None = search rules in
    let value = value_in choice c.text-item.result in
    subst (λ o. Gives o (settings_of left c.args.words.now)) (sym none)
    (ap (settings_of left) (words ∙ ap (λ ws. c.word-item.result ∷ ws) more)
    ∙ named_settings left c.word-item.result c.text-item.result rest choice joined found
    ∙ ap (with_setting choice value) (ap (λ cs. settings_of cs rest) (sym without) ∙ nothing) ∙ no_more choice value)

pub returns : goal.returns
returns t c =
    let words = split_first c.args.words.now c.word-item.result c.in-len1-up.len_at_least c.word-item.is in
    let behind : List Bytes = take (length c.args.words.now - 1) (drop 1 c.args.words.now) in
    let more = split_first behind c.text-item.result c.in-len1-up-rest.len_at_least c.text-item.is in
    let rest : List Bytes = take (length behind - 1) (drop 1 behind) in
    let choice = choice_of c.in_ok-choice.choice in
    let left = seen c.args.left.items in
    let word : c.as_slice-word.result.now ≡ c.word-item.result = c.as_slice-word.ensures in
    let same : seen c.take_joined.new.left.items ≡ left = ap seen c.in_default-take_joined.ensures.taken.1 in
    let joined : choice_within c.word-item.result left ≡ None = ap (λ w. choice_within w left) (sym word) ∙ c.in_default-take_joined.ensures.taken.0 in
    let found : choice_named c.word-item.result left ≡ Some choice =
    ap (λ w. choice_named w left) (sym word) ∙ ap (choice_named c.as_slice-word.result.now) (sym same) ∙ c.in_ok-choice.ensures.0 in
    let without : seen c.take_named.new.left.items ≡ without_choice choice left = c.in_ok-choice.ensures.1 ∙ ap (without_choice choice) same in
    let told : value_in choice c.as_slice.result.now ≡ Some c.in_ok-value-2.value = search rules in
    let value : value_in choice c.text-item.result ≡ Some c.in_ok-value-2.value = ap (value_in choice) (sym c.as_slice.ensures) ∙ told in
    let given : Gives (Some c.in_ok-read_settings-2.field-0) (settings_of (seen c.take_named.new.left.items) rest) = search rules in
    let is : settings_of left c.args.words.now ≡ with_setting choice (Some c.in_ok-value-2.value) (settings_of (seen c.take_named.new.left.items) rest) =
    ap (settings_of left) (words ∙ ap (λ ws. c.word-item.result ∷ ws) more)
    ∙ named_settings left c.word-item.result c.text-item.result rest choice joined found
    ∙ ap (λ v. with_setting choice v (settings_of (without_choice choice left) rest)) value
    ∙ ap (λ cs. with_setting choice (Some c.in_ok-value-2.value) (settings_of cs rest)) (sym without) in
    subst (Gives (Some c.with-2.result)) (sym is)
    (gives_with choice c.in_ok-value-2.value c.in_ok-read_settings-2.field-0 c.with-2.result (settings_of (seen c.take_named.new.left.items) rest) c.with-2.ensures given)
