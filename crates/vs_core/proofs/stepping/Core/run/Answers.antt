use Rattle.std.proofs.Common.{[], ◌∷◌, ◌++◌, map, sym, ap, ◌∙◌, subst, arith}
use Rattle.std.proofs.lemmas.List.{map-append, length_push}
use Rattle.vs_core.specs.Events.{event_of, step_outcome_of}
use Rattle.vs_core.proofs.Moves.{Runs, runs_more}
use Rattle.vs_core.proofs.stepping.Core.run.Goals as goal

pub loop-event-preserved : goal.loop-event-preserved
loop-event-preserved c =
    let i = c.loop-event.invariant in
    let p = c.push_reserved.ensures in
    let old = c.args.self.now in
    let new = c.step.new.self in
    let es = c.loop-event.yielded in
    let os = c.loop-event.outcomes.items in
    let e = c.in-Some.event in
    let o = c.step.result in record {
      runs =
          subst (λ l. Runs old l (map step_outcome_of c.push_reserved.new.self.items) new) (sym (map-append event_of es (e ∷ [])))
          (subst (λ l. Runs old (map event_of es ++ event_of e ∷ []) l new) (sym (ap (map step_outcome_of) p.items ∙ map-append step_outcome_of os (o ∷ [])))
          (runs_more old c.loop-event.self new (map event_of es) (map step_outcome_of os) (event_of e) (step_outcome_of o) i.runs c.step.ensures.steps i.limits));
      limits = c.step.ensures.limits ∙ i.limits;
      len = omega (arith, i.len, p.len, length_push es e);
      room = omega (arith, i.room, p.capacity);
    }
