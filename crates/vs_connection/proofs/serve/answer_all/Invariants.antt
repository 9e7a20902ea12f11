use Rattle.std.proofs.Common.{◌≡◌, ℕ, List, ◌++◌}
use Rattle.rand_pcg.specs.Lcg.{Lcg}
use Rattle.vs_defs.specs.Bytes.{Bytes}
use Rattle.vs_defs.specs.Stream.{Message}
use Rattle.vs_defs.specs.Reply.{Outcome}
use Rattle.vs_outside.specs.Known.{Adds}
use Rattle.vs_resp.specs.Stands.{failure, bytes_taken, ready_count}
use Rattle.vs_connection.specs.Point.{Point}
use Rattle.vs_connection.specs.SoFar.{SoFar, HasGiven}
use Rattle.vs_connection.proofs.Sessions.{AnsweredSome}
use Rattle.vs_connection.proofs.serve.answer_all.Given as goal

abbrev pub invariant-loop-message : goal.invariant-loop-message
invariant-loop-message g l = record {
  session : (author : ℕ) (start : Point g.H.Handler.Known) (input : Bytes) (given : List Message) (outcomes : List Outcome) (output : Bytes) (h : g.H.Handler.Known) (i : Lcg) →
      SoFar g.H.Handler.call author l.fn.decoder (g.H.Handler.after l.fn.handler author) start input given outcomes output h i →
      (more : Bytes) × Adds (g.K.Sink.written l.fn.sink) more (g.K.Sink.written l.sink) × AnsweredSome g.H.Handler.call author l.decoder (g.H.Handler.after l.handler author) start input (output ++ more);
  given : HasGiven l.decoder;
  failure : failure l.decoder ≡ failure l.fn.decoder;
  taken : bytes_taken l.decoder ≡ bytes_taken l.fn.decoder;
  faults : g.K.Sink.faults l.sink ≡ g.K.Sink.faults l.fn.sink;
}

abbrev pub decreases-loop-message : goal.decreases-loop-message
decreases-loop-message g l = ready_count l.decoder
