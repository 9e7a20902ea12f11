use Rattle.std.proofs.Common.{◌≤◌, ◌-◌, length}
use Rattle.vs_resp.specs.Stands.{bytes_taken}
use Rattle.vs_resp.proofs.tests.outcome.Given as goal

abbrev pub invariant-pieces : goal.invariant-pieces
invariant-pieces l = record {
  within : l.at ≤ length l.stream;
  taken : bytes_taken l.decoder ≤ l.at;
}

abbrev pub decreases-pieces : goal.decreases-pieces
decreases-pieces l = length l.initial.stream - l.at
