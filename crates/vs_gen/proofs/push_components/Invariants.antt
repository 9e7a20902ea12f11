use Rattle.std.proofs.Common.{◌≡◌, ◌++◌}
use Rattle.vs_gen.specs.Generated.{components}
use Rattle.vs_gen.proofs.push_components.Given as goal

abbrev pub invariant-loop-place : goal.invariant-loop-place
invariant-loop-place l = l.list ≡ l.initial.list ++ components l.words l.place
