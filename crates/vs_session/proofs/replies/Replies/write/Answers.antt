use Rattle.std.proofs.Common.{◌∙◌, ap, subst, sym, inl, inr}
use Rattle.vs_defs.specs.Reply.{Outcome}
use Rattle.vs_command.specs.Outcomes.{outcome_of}
use Rattle.vs_connection.specs.Served.{IsReplied}
use Rattle.vs_session.proofs.Changes.{short_is_reply}
use Rattle.vs_session.proofs.replies.Replies.write.Goals as goal

pub returns-in-Some-clause-replied : goal.returns-in-Some-clause-replied
returns-in-Some-clause-replied g c =
    let o : Outcome = outcome_of c.args.outcome.now in
    inl (c.write_line.ensures.replied o (short_is_reply c.args.outcome.now c.in-Some.short (sym c.in-Some.ensures) ∙ sym c.as_slice.ensures) (sym c.is_quit.ensures))

pub returns-clause-replied : goal.returns-clause-replied
returns-clause-replied g c =
    elim c.write_answer-replied.ensures.replied [
      | inl r ↦ inl (subst (IsReplied c.write_answer-replied.result (g.K.Sink.written c.args.sink.now) (g.K.Sink.written c.write_answer-replied.new.sink)) (sym (ap outcome_of c.in-Ok.is)) r)
      | inr r ↦ inr (sym c.in_default.ensures, r)
    ]
