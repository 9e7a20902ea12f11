use Rattle.std.proofs.Common.{◌≢◌, ◌<◌, ℕ}
use Rattle.std.specs.Prelude.{IfSome}
use Rattle.vs_measure.proofs.names.is_new_name.Given as goal

abbrev pub invariant-loop-id : goal.invariant-loop-id
invariant-loop-id g l = (q : ℕ) → q < l.id → IfSome (g.N.Nodes.at l.nodes q) (λ other. other.body.name ≢ l.name)
