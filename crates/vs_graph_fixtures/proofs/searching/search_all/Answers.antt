use Rattle.std.proofs.Common.{rules}
use Rattle.std.specs.Prelude.{true}
use Rattle.vs_graph_fixtures.proofs.searching.search_all.Goals as goal

pub search-requires-clause-answers : goal.search-requires-clause-answers
search-requires-clause-answers g c = ∣ (λ attr. true, search rules) ∣₁
