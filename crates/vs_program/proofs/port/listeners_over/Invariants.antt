use Rattle.std.proofs.Common.{◌≡◌, length}
use Rattle.vs_program.proofs.port.listeners_over.Given as goal

abbrev pub invariant-loop : goal.invariant-loop
invariant-loop l = length l.listeners.items ≡ l.counter
