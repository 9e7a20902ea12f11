use Rattle.std.proofs.Common.{◌≡◌, ◌≤◌, length, map, take}
use Rattle.std.specs.Vec.{vec_capacity}
use Rattle.vs_rank.specs.Ranked.{unpacked}
use Rattle.vs_rank.proofs.best.Best.into_sorted.Given as goal

-- the keys of the numbers before this one are out, and there is room for the rest
abbrev pub invariant-loop-number : goal.invariant-loop-number
invariant-loop-number l = record {
  keys : l.sorted.items ≡ map unpacked (take l.number-index l.number-items);
  room : length l.number-items ≤ vec_capacity l.sorted;
}
