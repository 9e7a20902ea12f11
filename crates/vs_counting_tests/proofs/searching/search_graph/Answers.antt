use Rattle.std.proofs.Common.{rules}
use Rattle.std.specs.Prelude.{true}
use Rattle.vs_counting_tests.proofs.searching.search_graph.Goals as goal

pub beam_by-requires-clause-answers : goal.beam_by-requires-clause-answers
beam_by-requires-clause-answers g c = ∣ (λ attr. true, search rules) ∣₁
