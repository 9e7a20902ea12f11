use Rattle.std.proofs.Common.{◌≡◌, ◌≤◌, replicate}
use Rattle.std.specs.Prelude.{vec_capacity, vec_len}
use Rattle.vs_core.specs.declared.actor.Actor.TheVariants.{Idle}
use Rattle.vs_core.proofs.stepping.Core.new.Given as goal

abbrev pub invariant-loop : goal.invariant-loop
invariant-loop l = record {
  items : l.all.items ≡ replicate l.counter Idle;
  len : vec_len l.all ≡ l.counter;
  room : l.initial.actors ≤ vec_capacity l.all;
}
