use Rattle.std.proofs.Common.{◌≡◌, take}
use Rattle.vs_filter.proofs.code.copied.Given as goal

abbrev pub invariant-loop-instruction : goal.invariant-loop-instruction
invariant-loop-instruction l = l.copy ≡ take l.instruction-index l.code
