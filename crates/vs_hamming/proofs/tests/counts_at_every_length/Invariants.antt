use Rattle.std.proofs.Common.{◌≤◌, ◌*◌}
use Rattle.vs_hamming.proofs.tests.counts_at_every_length.Given as goal

abbrev pub invariant-loop-len : goal.invariant-loop-len
invariant-loop-len g l = record {
  small : l.want ≤ 64 * l.len-counter;
}
