use Rattle.std.proofs.Common.{sym, ap, ◌∙◌}
use Rattle.vs_core.specs.Actors.{actor_seen, busy_of}
use Rattle.vs_core.proofs.Moves.{seen_there, busy_idle, busy_other}
use Rattle.vs_core.proofs.stepping.Core.busy.Goals as goal

pub returns-then-is_idle : goal.returns-then-is_idle
returns-then-is_idle c =
    let s = c.self.inside in
    let present = c.in-Some.ensures.present in
    let there = seen_there s.store s.actors.items c.args.self.now c.self.view_is c.in-Some.place present.1 c.index.result.now c.index.ensures c.args.actor present.0 in
    sym (ap busy_of there ∙ busy_idle (actor_seen c.index.result.now) (sym c.is_idle.ensures ∙ c.if-is_idle.true))

pub returns-else-is_idle : goal.returns-else-is_idle
returns-else-is_idle c =
    let s = c.self.inside in
    let present = c.in-Some.ensures.present in
    let there = seen_there s.store s.actors.items c.args.self.now c.self.view_is c.in-Some.place present.1 c.index.result.now c.index.ensures c.args.actor present.0 in
    sym (ap busy_of there ∙ busy_other (actor_seen c.index.result.now) (sym c.is_idle.ensures ∙ c.if-is_idle.false))
