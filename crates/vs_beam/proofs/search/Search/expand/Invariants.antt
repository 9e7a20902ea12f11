use Rattle.std.proofs.Common.{◌≡◌, ◌+◌, ◌<◌, ◌≤◌, ℕ, Bool, length, drop, get_or}
use Rattle.std.specs.Prelude.{All, Contains}
use Rattle.vs_graph.specs.Good.{links_at}
use Rattle.vs_rank.specs.Tests.{Attribute, Answers}
use Rattle.vs_beam.specs.Beam.{HasWords, IsSpent}
use Rattle.vs_beam.specs.Searching.{IsSearchAt, AreFoundAt, IsSameSearch, unmarked}
use Rattle.vs_beam.proofs.search.Search.expand.Given as goal

-- those that were tried since the start wait to be offered
abbrev pub invariant-loop-next : goal.invariant-loop-next
invariant-loop-next g l = record {
  items : l.next-items ≡ links_at (g.N.Nodes.at l.nodes) l.layer l.id;
  start : l.start ≡ length l.fn.self.tried;
  search : IsSearchAt (g.N.Nodes.at l.nodes) l.layer l.query l.self l.slot l.start;
  found : (passes : Attribute → Bool) → Answers (g.F.Testing.gives l.wanted.test) passes → AreFoundAt (g.N.Nodes.at l.nodes) l.layer l.query passes l.self l.start;
  same : IsSameSearch l.fn.self l.self;
  expanded : l.self.expanded ≡ l.fn.self.expanded;
  frontier : l.self.frontier ≡ l.fn.self.frontier;
  more : (w : ℕ) → Contains l.fn.self.tried w → Contains l.self.tried w;
  within : l.start ≤ length l.self.tried;
  short : length l.self.tried ≤ l.start + l.next-index;
  live : All (HasWords (g.N.Nodes.at l.nodes) (length l.query)) (drop l.start l.self.tried);
  there : (IsSpent l.self.effort l.self.tried → ⊥) → (k : ℕ) → k < l.next-index → Contains l.self.tried (get_or l.next-items k 0);
  limit : length l.slot.marked ≡ length l.fn.slot.marked;
  left : unmarked l.slot + length l.self.tried ≡ unmarked l.fn.slot + length l.fn.self.tried;
  told : l.reads ≤ l.fn.reads + 1;
}
