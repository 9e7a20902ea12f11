use Rattle.std.proofs.Common.{◌≡◌, ◌≤◌, length}
use Rattle.vs_defs.specs.Json.{skip_space}
use Rattle.vs_attr.proofs.space.skip_space.Given as goal

abbrev pub invariant-loop-text : goal.invariant-loop-text
invariant-loop-text l = record {
  value : skip_space l.text ≡ skip_space l.fn.text;
  bound : length l.text ≤ length l.fn.text;
}

abbrev pub decreases-loop-text : goal.decreases-loop-text
decreases-loop-text l = length l.text
