use Rattle.std.proofs.Common.{rules}
use Rattle.std.specs.Prelude.{true}
use Rattle.vs_measure.proofs.comparing.found.Goals as goal

pub found_by-requires-clause-answers : goal.found_by-requires-clause-answers
found_by-requires-clause-answers g c = ∣ (λ attr. true, search rules) ∣₁
