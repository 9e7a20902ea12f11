use Rattle.std.proofs.Common.{rules, true, Some}
use Rattle.vs_defs.specs.FilterText.{passes_filter}
use Rattle.vs_query.proofs.wide.hits_of.Goals as goal

pub hits_by-requires-clause-answers : goal.hits_by-requires-clause-answers
hits_by-requires-clause-answers g c κs within = ∣ (λ attr. true, search rules) ∣₁

pub hits_by-requires-in-Some-clause-answers : goal.hits_by-requires-in-Some-clause-answers
hits_by-requires-in-Some-clause-answers g c κs within = ∣ (passes_filter (Some c.in-Some.filter), search rules) ∣₁
