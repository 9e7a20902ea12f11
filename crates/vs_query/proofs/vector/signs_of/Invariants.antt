use Rattle.std.proofs.Common.{◌≡◌, ◌≤◌, length, take, vec_capacity}
use Rattle.vs_query.proofs.vector.signs_of.Given as goal

-- the bits before this one are there, and the room is for all
abbrev pub invariant-loop-i : goal.invariant-loop-i
invariant-loop-i l = record {
  signs : l.signs.items ≡ take l.i l.bits;
  room : length l.bits ≤ vec_capacity l.signs;
}
