use Rattle.std.proofs.Common.{◌≡◌, ◌≤◌, List, ◌∷◌, length}
use Rattle.vs_defs.specs.AttributeField.{Field}
use Rattle.vs_filter.specs.Values.{value_seen}
use Rattle.vs_filter.specs.Evaluated.{exec}
use Rattle.vs_filter.proofs.evaluate.+run.Given as goal

abbrev pub decreases-run : goal.decreases-run
decreases-run l = length l.code.now

abbrev pub invariant-loop-instruction : goal.invariant-loop-instruction
invariant-loop-instruction l = record {
  shorter : length l.code ≤ length l.initial.code;
  same : (below : List Field) → exec l.attribute l.initial.code (value_seen l.initial.top ∷ below) ≡ exec l.attribute l.code (value_seen l.top ∷ below);
}

abbrev pub decreases-loop-instruction : goal.decreases-loop-instruction
decreases-loop-instruction l = length l.code
