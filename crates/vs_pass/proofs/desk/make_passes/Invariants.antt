use Rattle.std.proofs.Common.{◌≡◌, [], true}
use Rattle.vs_thread_defs.specs.Rule.{keeper as keeper_view}
use Rattle.vs_pass.specs.Knower.{newcomers}
use Rattle.vs_pass.proofs.desk.make_passes.Given as goal

abbrev pub invariant-loop-number : goal.invariant-loop-number
invariant-loop-number g l = (l.keeper ≡ keeper_view l.number [] true) × (l.made.items ≡ newcomers l.seed l.number)
