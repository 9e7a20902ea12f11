use Rattle.std.proofs.Common.{◌≡◌, ◌∙◌, ◌++◌, ap, subst, refl}
use Rattle.vs_thread_defs.specs.Schedule.{event_line, line_by, outcome_text, printed}
use Rattle.vs_schedule_words.specs.Verbs.{verb_of}
use Rattle.vs_core.specs.Events.{event_of, step_outcome_of}
use Rattle.vs_schedule.specs.Lines.{Means}
use Rattle.vs_schedule.proofs.Steps.{runs_event, runs_unread}
use Rattle.vs_schedule.proofs.runner.happen.Goals as goal

pub returns-in_ok-push_event-in-Happening : goal.returns-in_ok-push_event-in-Happening
returns-in_ok-push_event-in-Happening c =
    let line = c.args.line.now in
    let verb = verb_of c.in-Happening.verb in
    let o = step_outcome_of c.step-outcome.result in
    let is = subst (λ l. Means l (line_by event_line line)) c.in-Happening.is c.in_ok-read_line.ensures.means in
    let prints = c.in_ok-push_event-in-Happening.ensures ∙ ap (λ b. b ++ printed c.actor-actor.result verb (outcome_text o)) c.requires in
    record {
      carries = runs_event c.args.core.now line c.push_event.new.out c.step-outcome.new.self verb c.actor-actor.result (event_of c.in-Happening.event) o is c.actor-actor.ensures prints
          c.step-outcome.ensures.steps c.step-outcome.ensures.limits;
    }

pub returns-in_ok-push_event-in-Unread : goal.returns-in_ok-push_event-in-Unread
returns-in_ok-push_event-in-Unread c =
    let line = c.args.line.now in
    let verb = verb_of c.in-Unread.verb in
    let o = step_outcome_of c.unread_outcome-outcome.result in
    let m = subst (λ l. Means l (line_by event_line line)) c.in-Unread.is c.in_ok-read_line.ensures.means in
    let prints = c.in_ok-push_event-in-Unread.ensures ∙ ap (λ b. b ++ printed c.in-Unread.actor verb (outcome_text o)) c.requires in
    record {
      carries = runs_unread c.args.core.now line c.push_event-in-Unread.new.out c.args.core.now verb c.in-Unread.actor m.0 o m.2 refl prints (c.unread_outcome-outcome.ensures.outcome m.0 m.1);
    }
