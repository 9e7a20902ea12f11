use Rattle.std.proofs.Common.{rules}
use Rattle.std.specs.Prelude.{true}
use Rattle.vs_truth_tests.proofs.run_tests.found_any.Goals as goal

pub found-requires-clause-answers : goal.found-requires-clause-answers
found-requires-clause-answers c = ∣ (λ attr. true, search rules) ∣₁
