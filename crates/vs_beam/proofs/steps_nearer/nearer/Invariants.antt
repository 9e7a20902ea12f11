use Rattle.std.proofs.Common.{◌≡◌, ◌+◌, ◌<◌, ◌≤◌, ℕ, get_or}
use Rattle.vs_graph.specs.Good.{links_at}
use Rattle.vs_beam.specs.Beam.{far_at}
use Rattle.vs_beam.proofs.steps_nearer.nearer.Given as goal

-- none of the links before this one is nearer
abbrev pub invariant-loop-id : goal.invariant-loop-id
invariant-loop-id g l = record {
  items : l.id-items ≡ links_at (g.N.Nodes.at l.nodes) l.layer l.here;
  none : (k : ℕ) → k < l.id-index → l.within ≤ far_at (g.N.Nodes.at l.nodes) l.query (get_or l.id-items k 0);
  told : l.reads ≤ l.fn.reads + 1 + l.id-index;
}
