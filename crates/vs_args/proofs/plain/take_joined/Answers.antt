use Rattle.std.proofs.Common.{rules, ◌≡◌, ◌∙◌, None, Some, ap}
use Rattle.std.specs.List.{position, starts_with}
use Rattle.std.specs.Bool.{nat_eq}
use Rattle.vs_args.specs.Words.{joined_name, seen}
use Rattle.vs_args.proofs.Options.{joined_absent, joined_found, joined_covers}
use Rattle.vs_args.proofs.plain.take_joined.Goals as goal

pub returns-in_err-place-clause-taken : goal.returns-in_err-place-clause-taken
returns-in_err-place-clause-taken c =
    let none : c.from_residual.result ≡ None = search rules in
    let nowhere : position (λ x. starts_with nat_eq c.args.word.now (joined_name x)) c.args.left.now.items ≡ None = search rules in
    let absent = joined_absent c.args.word.now c.args.left.now.items nowhere in
    rw none (absent, search rules)

pub split_at-requires : goal.split_at-requires
split_at-requires c =
    let at : position (λ x. starts_with nat_eq c.args.word.now (joined_name x)) c.args.left.now.items ≡ Some c.in_ok-place.place = search rules in
    joined_covers c.args.word.now c.args.left.now.items c.in_ok-place.place c.remove-choice.result c.joined_name.result.now at c.remove-choice.ensures.value c.joined_name.ensures

pub returns-clause-taken : goal.returns-clause-taken
returns-clause-taken c =
    let at : position (λ x. starts_with nat_eq c.args.word.now (joined_name x)) c.args.left.now.items ≡ Some c.in_ok-place.place = search rules in
    let found = joined_found c.args.word.now c.args.left.now.items c.in_ok-place.place c.remove-choice.result at c.remove-choice.ensures.value in
    (found.0, ap seen c.remove-choice.ensures.items ∙ found.1)
