use Rattle.std.proofs.Common.{map}
use Rattle.std.specs.Prelude.{All}
use Rattle.vs_unlink.specs.Candidates.{node_in, pair_at, IsPlaced, HasPlacedOf, HasPlacedBelow}
use Rattle.vs_unlink.proofs.pairs.pair_with_later.Given as goal

-- the pairs with those before this one are there
abbrev pub invariant-loop-other : goal.invariant-loop-other
invariant-loop-other l = record {
  sound : All (IsPlaced (node_in l.nodes) l.layer l.ranked) l.found.items;
  below : HasPlacedBelow (node_in l.nodes) l.layer l.ranked l.one (map (pair_at l.ranked) l.found.items);
  here : HasPlacedOf (node_in l.nodes) l.layer l.ranked l.one l.other (map (pair_at l.ranked) l.found.items);
}
