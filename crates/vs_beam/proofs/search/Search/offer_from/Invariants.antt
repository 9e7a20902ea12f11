use Rattle.std.proofs.Common.{◌+◌, ◌≤◌, ℕ, Bool, length}
use Rattle.vs_slot.specs.Marks.{Marks}
use Rattle.vs_rank.specs.Tests.{Attribute, Answers}
use Rattle.vs_beam.specs.Searching.{IsSearchAt, AreFoundAt, HasKept}
use Rattle.vs_beam.proofs.search.Search.offer_from.Given as goal

-- those below the place were offered
abbrev pub invariant-loop-place : goal.invariant-loop-place
invariant-loop-place g l = record {
  kept : HasKept l.fn.self l.self;
  search : (layer : ℕ) (marks : Marks) → IsSearchAt (g.N.Nodes.at l.nodes) layer l.query l.fn.self marks l.start → IsSearchAt (g.N.Nodes.at l.nodes) layer l.query l.self marks l.place;
  found : (layer : ℕ) (passes : Attribute → Bool) → Answers (g.F.Testing.gives l.wanted.test) passes
      → AreFoundAt (g.N.Nodes.at l.nodes) layer l.query passes l.fn.self l.start → AreFoundAt (g.N.Nodes.at l.nodes) layer l.query passes l.self l.place;
  from : l.start ≤ l.place;
  frontier_room : length l.self.tried ≤ l.place + l.self.frontier.spare;
  best_room : length l.self.tried ≤ l.place + l.self.best.spare;
  frontier : length l.self.frontier.keys + l.start ≤ length l.fn.self.frontier.keys + l.place;
  told : l.reads + l.start ≤ l.fn.reads + l.place;
}
