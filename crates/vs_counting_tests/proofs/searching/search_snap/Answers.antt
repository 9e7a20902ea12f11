use Rattle.std.proofs.Common.{rules}
use Rattle.std.specs.Prelude.{true}
use Rattle.vs_counting_tests.proofs.searching.search_snap.Goals as goal

pub near_by-requires-clause-answers : goal.near_by-requires-clause-answers
near_by-requires-clause-answers g c = ∣ (λ attr. true, search rules) ∣₁
