use Rattle.std.specs.Prelude.{All}
use Rattle.vs_core.specs.Events.{FitsEvent}
use Rattle.vs_core_tests.proofs.events.events.Given as goal

-- the events so far fit
abbrev pub invariant-loop-happening : goal.invariant-loop-happening
invariant-loop-happening g l = All FitsEvent l.events
