use Rattle.std.proofs.Common.{inl, inr}
use Rattle.vs_defs.specs.Reply as outcome
use Rattle.vs_command.specs.Outcomes.{outcome_of}
use Rattle.vs_connection.specs.Served.{IsReplied}
use Rattle.vs_session.specs.After.{After}
use Rattle.vs_session.proofs.Serving.{with_reply}
use Rattle.vs_session.proofs.server.ServerHandler.handle.Goals as goal

pub returns-clause-served : goal.returns-clause-served
returns-clause-served g c author h k after =
    let now = After (g.M.Machine.knows c.carry_out-outcome.new.self.machine author) c.carry_out-outcome.new.self.generator in
    let replied = IsReplied c.write.result (g.K.Sink.written c.args.sink.now) (g.K.Sink.written c.write.new.sink) in
    elim c.write.ensures.replied [
      | inl r ↦ with_reply now (outcome_of c.carry_out-outcome.result) replied k h c.args.message.now (c.carry_out-outcome.ensures.served author h k after) r
      | inr r ↦ with_reply now outcome.OutOfMemory replied k h c.args.message.now (c.carry_out-outcome.ensures.long r.0 author h k after) r.1
    ]
