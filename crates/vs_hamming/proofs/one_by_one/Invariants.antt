use Rattle.std.proofs.Common.{◌≡◌, ◌≤◌, ◌*◌, take}
use Rattle.vs_defs.specs.Vector.{ham}
use Rattle.vs_hamming.proofs.Words.{bits_of}
use Rattle.vs_hamming.proofs.one_by_one.Given as goal

-- the words before i are counted
abbrev pub invariant-loop-i : goal.invariant-loop-i
invariant-loop-i l = record {
  counted : l.total ≡ ham (bits_of (take l.i l.a)) (bits_of (take l.i l.b));
  small : l.total ≤ 64 * l.i;
}
