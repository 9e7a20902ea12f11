use Rattle.std.proofs.Common.{◌≡◌, ◌≤◌, ◌+◌, ◌++◌, length}
use Rattle.vs_defs.specs.Bytes.{Bytes}
use Rattle.vs_outside.specs.Known.{Adds}
use Rattle.vs_schedule.specs.Answered.{Going}
use Rattle.vs_schedule.proofs.runner.Runner.take.Given as goal

abbrev pub invariant-loop-behind : goal.invariant-loop-behind
invariant-loop-behind g l = record {
  going : (input : Bytes) (out : Bytes) → Going l.fn.self.core l.fn.self.line l.fn.piece l.fn.self.number input out → (more : Bytes)
      × Adds (g.K.Sink.written l.fn.sink) more (g.K.Sink.written l.sink) × Going l.self.core l.self.line l.rest l.self.number input (out ++ more);
  number : l.self.number + length l.rest ≤ l.fn.self.number + length l.fn.piece;
  faults : g.K.Sink.faults l.sink ≡ g.K.Sink.faults l.fn.sink;
}

abbrev pub decreases-loop-behind : goal.decreases-loop-behind
decreases-loop-behind g l = length l.rest
