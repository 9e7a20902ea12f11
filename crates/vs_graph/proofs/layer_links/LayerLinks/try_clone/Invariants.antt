use Rattle.std.proofs.Common.{◌≡◌, ◌≤◌, length, take}
use Rattle.std.specs.Vec.{vec_capacity}
use Rattle.vs_graph.proofs.layer_links.LayerLinks.try_clone.Given as goal

-- the lists before this one are copied, and there is room for the rest
abbrev pub invariant-loop-list : goal.invariant-loop-list
invariant-loop-list l = record {
  copied : l.upper.items ≡ take l.list-index l.list-items;
  room : length l.list-items ≤ vec_capacity l.upper;
}
