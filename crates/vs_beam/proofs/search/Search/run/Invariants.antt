use Rattle.std.proofs.Common.{◌≡◌, ◌+◌, ◌≤◌, length}
use Rattle.vs_beam.specs.Beam.{IsSpent}
use Rattle.vs_beam.specs.Searching.{IsSearch, AreFoundBy, IsSameSearch, IsWhole, size_left, expansion_cost}
use Rattle.vs_beam.proofs.search.Search.run.Given as goal

abbrev pub invariant-loop-self : goal.invariant-loop-self
invariant-loop-self g l = record {
  search : IsSearch (g.N.Nodes.at l.nodes) l.layer l.query l.self l.slot;
  found : AreFoundBy (g.F.Testing.gives l.wanted.test) (g.N.Nodes.at l.nodes) l.layer l.query l.self;
  same : IsSameSearch l.fn.self l.self;
  whole : (IsSpent l.self.effort l.self.tried → ⊥) → IsWhole (g.N.Nodes.at l.nodes) l.layer l.self;
  limit : length l.slot.marked ≡ length l.fn.slot.marked;
  told : l.reads ≤ l.fn.reads + expansion_cost (g.N.Nodes.at l.nodes) l.layer l.self.expanded;
}

abbrev pub decreases-loop-self : goal.decreases-loop-self
decreases-loop-self g l = size_left l.self l.slot
