use Rattle.std.proofs.Common.{◌≡◌, ◌+◌}
use Rattle.vs_set.proofs.reading.SnapMembers.beside.Given as goal

-- a read is counted for each row before this one
abbrev pub invariant-loop : goal.invariant-loop
invariant-loop g l = l.reads ≡ l.fn.reads + l.counter
