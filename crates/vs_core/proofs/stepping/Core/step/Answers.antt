use Rattle.std.proofs.Common.{sym, ap, ◌∙◌, subst, slice_set}
use Rattle.vs_core.specs.Actors.{Steps, IsOfMachine, seen_at}
use Rattle.vs_core.specs.Events.{event_of, step_outcome_of}
use Rattle.vs_core.proofs.Moves.{no_actor, view, stands_there, steps_there, steps_kept, steps_limits}
use Rattle.vs_core.proofs.stepping.Core.step.Goals as goal

pub returns-in_default-clause-steps : goal.returns-in_default-clause-steps
returns-in_default-clause-steps c = no_actor c.args.self.now (event_of c.args.event) (ap (seen_at c.args.self.now) (sym c.actor.ensures) ∙ c.place_of.ensures.absent c.in_default.is)

pub take_turn-requires-clause-stands : goal.take_turn-requires-clause-stands
take_turn-requires-clause-stands c =
    let s = c.self.inside in
    stands_there s.store s.actors.items c.args.self.now c.self.view_is c.in-Some.place c.in-Some.ensures.present.1 c.index_mut.result.now c.index_mut.ensures.value c.self.invariant

-- the core behind the turn
steps : (c : goal.After-self-1) → Steps c.args.self.now (event_of c.args.event) (step_outcome_of c.take_turn.result) (view c.take_turn.new.store (slice_set c.self.inside.actors.items c.in-Some.place c.take_turn.new.actor))
steps c =
    let s = c.self.inside in
    let present = c.in-Some.ensures.present in
    steps_there s.store s.actors.items c.args.self.now c.self.view_is c.in-Some.place present.1 c.index_mut.result.now c.index_mut.ensures.value (event_of c.args.event) (step_outcome_of c.take_turn.result)
    c.take_turn.new.store c.take_turn.new.actor (sym c.actor.ensures ∙ present.0) c.take_turn.ensures.turns

pub invariant_of-self : goal.invariant_of-self
invariant_of-self c = steps_kept c.args.self.now _ (event_of c.args.event) (step_outcome_of c.take_turn.result) (subst IsOfMachine c.self.view_is c.self.invariant) (steps c)

pub returns-clause-steps : goal.returns-clause-steps
returns-clause-steps c = steps c

pub returns-clause-limits : goal.returns-clause-limits
returns-clause-limits c = steps_limits c.args.self.now _ (event_of c.args.event) (step_outcome_of c.take_turn.result) (subst IsOfMachine c.self.view_is c.self.invariant) (steps c)
