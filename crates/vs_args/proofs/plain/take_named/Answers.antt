use Rattle.std.proofs.Common.{rules, ◌≡◌, ◌∙◌, None, Some, ap}
use Rattle.std.specs.List.{position}
use Rattle.vs_args.specs.Words.{is_named, seen}
use Rattle.vs_args.proofs.Options.{named_absent, named_found}
use Rattle.vs_args.proofs.plain.take_named.Goals as goal

pub returns-in_err-place : goal.returns-in_err-place
returns-in_err-place c =
    let none : c.from_residual.result ≡ None = search rules in
    let nowhere : position (is_named c.args.word.now) c.args.left.now.items ≡ None = search rules in
    let absent = named_absent c.args.word.now c.args.left.now.items nowhere in
    rw none (absent, search rules)

pub returns : goal.returns
returns c =
    let at : position (is_named c.args.word.now) c.args.left.now.items ≡ Some c.in_ok-place.place = search rules in
    let found = named_found c.args.word.now c.args.left.now.items c.in_ok-place.place c.remove.result at c.remove.ensures.value in
    (found.0, ap seen c.remove.ensures.items ∙ found.1)
