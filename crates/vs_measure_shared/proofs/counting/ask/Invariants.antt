use Rattle.vs_defs.specs.Bounds.{IsInBounds}
use Rattle.vs_command.specs.Requests.{request_of}
use Rattle.vs_measure_shared.proofs.counting.ask.Given as goal

abbrev pub invariant-loop : goal.invariant-loop
invariant-loop g l = IsInBounds (request_of l.request)
