use Rattle.std.proofs.Common.{rules, true}
use Rattle.vs_truth.proofs.tests.found_any.Goals as goal

pub found-requires-clause-answers : goal.found-requires-clause-answers
found-requires-clause-answers c = ∣ (λ attr. true, search rules) ∣₁
