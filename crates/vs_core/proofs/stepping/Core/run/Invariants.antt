use Rattle.std.proofs.Common.{◌≡◌, ◌≤◌, length, map}
use Rattle.std.specs.Prelude.{vec_capacity, vec_len}
use Rattle.vs_core.specs.Events.{event_of, step_outcome_of}
use Rattle.vs_core.proofs.Moves.{Runs}
use Rattle.vs_core.proofs.stepping.Core.run.Given as goal

abbrev pub invariant-loop-event : goal.invariant-loop-event
invariant-loop-event l = record {
  runs : Runs l.initial.self (map event_of l.yielded) (map step_outcome_of l.outcomes.items) l.self;
  limits : l.self.store.limits ≡ l.initial.self.store.limits;
  len : vec_len l.outcomes ≡ length l.yielded;
  room : length l.fn.events ≤ vec_capacity l.outcomes;
}
