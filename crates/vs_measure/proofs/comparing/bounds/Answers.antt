use Rattle.std.proofs.Common.{rules}
use Rattle.std.specs.Prelude.{true}
use Rattle.vs_measure.proofs.comparing.bounds.Goals as goal

pub bounds_by-requires-clause-answers : goal.bounds_by-requires-clause-answers
bounds_by-requires-clause-answers g c = ∣ (λ attr. true, search rules) ∣₁
