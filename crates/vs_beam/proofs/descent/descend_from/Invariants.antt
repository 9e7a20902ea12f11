use Rattle.std.proofs.Common.{◌≡◌, ◌+◌, ◌*◌, ◌<◌, ◌≤◌, ◌⊎◌, ℕ, length}
use Rattle.std.specs.Prelude.{slice_index, ◌==◌, if◌then◌else◌}
use Rattle.vs_graph.specs.Good.{StandsAt}
use Rattle.vs_beam.specs.Beam.{far_at, IsStop, before_layer}
use Rattle.vs_beam.proofs.descent.descend_from.Given as goal

-- the layers from this one on are done
abbrev pub invariant-loop-layer : goal.invariant-loop-layer
invariant-loop-layer g l = record {
  long : length l.at ≡ 16;
  within : l.layer ≤ l.top + 1;
  low : (l.layer ≡ l.top + 1) ⊎ (l.to_layer ≤ l.layer);
  stop : (k : ℕ) → l.layer ≤ k → k ≤ l.top → IsStop (g.N.Nodes.at l.graph.nodes) l.query k (before_layer l.entry l.top l.at k) (slice_index l.at k);
  outside : (k : ℕ) → (k < l.layer) ⊎ (l.top < k) → slice_index l.at k ≡ 0;
  here : l.here.id ≡ (if l.layer == l.top + 1 then l.entry else slice_index l.at l.layer);
  dist : l.here.dist ≡ far_at (g.N.Nodes.at l.graph.nodes) l.query l.here.id;
  stands : (k : ℕ) → k < l.layer → StandsAt (g.N.Nodes.at l.graph.nodes) k l.here.id;
  told : (n : ℕ) → n + l.layer ≡ l.top + 1 → l.reads + l.here.dist * (l.graph.m + 1) ≤ l.fn.reads + 1 + l.dist * (l.graph.m + 1) + n * (l.graph.m + 1);
}

abbrev pub decreases-loop-layer : goal.decreases-loop-layer
decreases-loop-layer g l = l.layer
