use Rattle.std.proofs.Common.{◌≤◌}
use Rattle.std.specs.Vec.{vec_capacity}
use Rattle.vs_graph.specs.Newcomer.{AreEmptyLists}
use Rattle.vs_graph.proofs.layer_links.LayerLinks.new.Given as goal

-- one empty list for each layer before this one, and room for the rest
abbrev pub invariant-loop-layer : goal.invariant-loop-layer
invariant-loop-layer l = record {
  empty : AreEmptyLists l._layer l.upper.items;
  room : l.level ≤ vec_capacity l.upper;
}
