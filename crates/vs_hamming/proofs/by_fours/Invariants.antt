use Rattle.std.proofs.Common.{◌≡◌, ◌+◌, ◌≤◌, ◌*◌, take}
use Rattle.vs_defs.specs.Vector.{ham}
use Rattle.vs_hamming.proofs.Words.{bits_of}
use Rattle.vs_hamming.proofs.by_fours.Given as goal

-- the words before four * 4 are counted, each fourth of them in its own sum
abbrev pub invariant-loop-four : goal.invariant-loop-four
invariant-loop-four l = record {
  counted : l.first + l.second + l.third + l.fourth ≡ ham (bits_of (take (l.four * 4) l.a)) (bits_of (take (l.four * 4) l.b));
  first_small : l.first ≤ 64 * l.four;
  second_small : l.second ≤ 64 * l.four;
  third_small : l.third ≤ 64 * l.four;
  fourth_small : l.fourth ≤ 64 * l.four;
}
