use Rattle.std.proofs.Common.{◌≤◌}
use Rattle.std.specs.Prelude.{All}
use Rattle.vs_measure.proofs.case.efs_of.Given as goal

abbrev pub invariant-loop-word : goal.invariant-loop-word
invariant-loop-word l = All (λ ef. 1 ≤ ef) l.efs
