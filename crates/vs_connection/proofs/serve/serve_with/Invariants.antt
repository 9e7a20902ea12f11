use Rattle.std.proofs.Common.{◌≡◌, ◌≤◌, ◌<◌, ◌+◌, ◌-◌, ◌^◌, ℕ, List, None, length}
use Rattle.vs_defs.specs.Bytes.{Bytes}
use Rattle.vs_defs.specs.Stream.{Message}
use Rattle.vs_outside.specs.Known.{Adds, in_front}
use Rattle.vs_resp.specs.Stands.{bytes_taken, failure, Stands}
use Rattle.vs_connection.specs.Point.{Point}
use Rattle.vs_connection.specs.SoFar.{Going}
use Rattle.vs_connection.proofs.serve.serve_with.Given as goal

abbrev pub invariant-loop-taken : goal.invariant-loop-taken
invariant-loop-taken g l = record {
  session : (author : ℕ) (start : Point g.H.Handler.Known) → g.H.Handler.after l.fn.handler author start.history start.generator → (input : Bytes) × (output : Bytes) × (g.S.Source.left l.fn.source ≡ in_front input (g.S.Source.left l.source))
      × Adds (g.K.Sink.written l.fn.sink) output (g.K.Sink.written l.sink) × Going g.H.Handler.call author l.decoder (g.H.Handler.after l.handler author) start input output × (length input ≡ l.taken);
  begun : (input : Bytes) × (given : List Message) × Stands l.decoder input given;
  going : failure l.decoder ≡ None;
  some : 0 < length l.buffer;
  few : length l.buffer < 65536;
  fed : bytes_taken l.decoder ≤ l.taken;
  bound : l.taken ≤ 2 ^ 62 + 65536;
  source_faults : g.S.Source.faults l.source ≡ g.S.Source.faults l.fn.source;
  sink_faults : g.K.Sink.faults l.sink ≡ g.K.Sink.faults l.fn.sink;
}

abbrev pub decreases-loop-taken : goal.decreases-loop-taken
decreases-loop-taken g l = 2 ^ 62 + 65536 - l.taken
