use Rattle.std.proofs.Common.{map}
use Rattle.std.specs.Prelude.{All}
use Rattle.vs_unlink.specs.Candidates.{node_in, pair_at, IsPlaced, HasPlacedBelow}
use Rattle.vs_unlink.proofs.pairs.placed.Given as goal

-- the pairs of those before this one are there
abbrev pub invariant-loop-one : goal.invariant-loop-one
invariant-loop-one l = record {
  sound : All (IsPlaced (node_in l.nodes) l.layer l.ranked) l.found.items;
  all : HasPlacedBelow (node_in l.nodes) l.layer l.ranked l.one (map (pair_at l.ranked) l.found.items);
}
