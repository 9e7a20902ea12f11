use Rattle.std.proofs.Common.{◌≡◌, ◌∙◌, Some, ap, sym, subst}
use Rattle.std.specs.Prelude.{IfOk}
use Rattle.vs_thread_defs.specs.Schedule.{Line, event_line, line_words}
use Rattle.vs_schedule.specs.Lines.{Means}
use Rattle.vs_schedule.proofs.Lines.{line_of_words, nonempty}
use Rattle.vs_schedule.proofs.line.read_line.Goals as goal

pub returns-in-Some-clause-means : goal.returns-in-Some-clause-means
returns-in-Some-clause-means c =
    let line = c.args.line.now in
    let some = nonempty line (sym c.is_empty.ensures ∙ c.if-is_empty.false) in
    let words : line_words line ≡ Some c.as_slice.result.now = sym c.in_ok-words.ensures.words ∙ c.in-Some.is ∙ ap Some (sym c.as_slice.ensures) in
    subst (λ (l : Line). IfOk c.event_words.result (λ meant. Means meant l)) (sym (line_of_words event_line line c.as_slice.result.now some words)) c.event_words.ensures.means
