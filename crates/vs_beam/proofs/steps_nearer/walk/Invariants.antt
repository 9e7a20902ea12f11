use Rattle.std.proofs.Common.{◌≡◌, ◌+◌, ◌*◌, ◌≤◌, ℕ, length}
use Rattle.vs_graph.specs.Good.{links_at}
use Rattle.vs_beam.specs.Beam.{far_at, Walks}
use Rattle.vs_beam.proofs.steps_nearer.walk.Given as goal

abbrev pub invariant-loop-next : goal.invariant-loop-next
invariant-loop-next g l = record {
  dist : l.here.dist ≡ far_at (g.N.Nodes.at l.nodes) l.query l.here.id;
  walked : Walks (g.N.Nodes.at l.nodes) l.query l.layer l.fn.from.id l.here.id;
  told : (most : ℕ) → ((id : ℕ) → length (links_at (g.N.Nodes.at l.nodes) l.layer id) ≤ most) → l.reads + l.here.dist * (most + 1) ≤ l.fn.reads + l.fn.from.dist * (most + 1);
}

abbrev pub decreases-loop-next : goal.decreases-loop-next
decreases-loop-next g l = l.here.dist
