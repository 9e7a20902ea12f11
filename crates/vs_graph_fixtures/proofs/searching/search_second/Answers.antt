use Rattle.std.proofs.Common.{rules}
use Rattle.vs_graph_fixtures.specs.Members.{is_second}
use Rattle.vs_graph_fixtures.proofs.searching.search_second.Goals as goal

pub search-requires-clause-answers : goal.search-requires-clause-answers
search-requires-clause-answers g c = ∣ (is_second, search rules) ∣₁
