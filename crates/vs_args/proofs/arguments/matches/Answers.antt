use Rattle.std.proofs.Common.{rules, refl, ◌≡◌, ◌∙◌, ap₂}
use Rattle.std.proofs.lemmas.Result.{IfErr-weaker}
use Rattle.clap.specs.Words.{app_of, takes}
use Rattle.vs_args.specs.Arguments as spec
use Rattle.vs_args.proofs.arguments.matches.Goals as goal

pub returns-clause-err : goal.returns-clause-err
returns-clause-err c =
    let app_is : app_of c.in_ok-program.field-0 ≡ spec.program = search rules in
    IfErr-weaker c.try_get_matches_from.result _ _ (λ e h t. h (ap₂ takes app_is refl ∙ t)) c.try_get_matches_from.ensures.passes
