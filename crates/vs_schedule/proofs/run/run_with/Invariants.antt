use Rattle.std.proofs.Common.{◌≡◌, ◌≤◌, ◌<◌, ◌+◌, ◌-◌, ◌^◌, [], length}
use Rattle.vs_defs.specs.Bytes.{Bytes}
use Rattle.vs_outside.specs.Known.{Adds, in_front}
use Rattle.vs_schedule.specs.Answered.{Going}
use Rattle.vs_schedule.proofs.run.run_with.Given as goal

abbrev pub invariant-loop-taken : goal.invariant-loop-taken
invariant-loop-taken g l = record {
  going : (input : Bytes) × (output : Bytes) × (g.S.Source.left l.fn.source ≡ in_front input (g.S.Source.left l.source))
      × Adds (g.K.Sink.written l.fn.sink) output (g.K.Sink.written l.sink) × Going l.runner.core l.runner.line [] l.runner.number input output × (length input ≡ l.taken);
  number : l.runner.number ≤ l.taken + 1;
  some : 0 < length l.buffer;
  few : length l.buffer < 65536;
  bound : l.taken ≤ 2 ^ 62 + 65536;
  source_faults : g.S.Source.faults l.source ≡ g.S.Source.faults l.fn.source;
  sink_faults : g.K.Sink.faults l.sink ≡ g.K.Sink.faults l.fn.sink;
}

abbrev pub decreases-loop-taken : goal.decreases-loop-taken
decreases-loop-taken g l = 2 ^ 62 + 65536 - l.taken
