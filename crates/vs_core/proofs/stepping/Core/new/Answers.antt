use Rattle.std.proofs.Common.{◌≡◌, replicate, sym, ap, ◌∙◌, subst, arith}
use Rattle.vs_defs.specs.Store.{empty_store}
use Rattle.vs_thread_defs.specs.Core as core
use Rattle.vs_store.specs.Seen.{limits_seen}
use Rattle.vs_core.specs.declared.actor.Actor.TheVariants.{Idle}
use Rattle.vs_core.specs.Actors.{IsOfMachine, actors_seen}
use Rattle.vs_core.proofs.Moves.{view, seen_idle, starts}
use Rattle.vs_core.proofs.stepping.Core.new.Goals as goal

fresh : (c : goal.After-new-2) → view c.new.result c.loop.all.items ≡ record { store = empty_store (limits_seen c.args.limits); actors = replicate c.args.actors core.Idle }
fresh c =
    let all : c.loop.counter ≡ c.args.actors = omega arith in
    let idle : actors_seen c.loop.all.items ≡ replicate c.args.actors core.Idle = ap actors_seen c.loop.invariant.items ∙ ap (λ n. actors_seen (replicate n Idle)) all ∙ seen_idle c.args.actors in
    λ i. record { store = c.new.ensures i; actors = idle i }

pub invariant_of-result : goal.invariant_of-result
invariant_of-result c = subst IsOfMachine (sym (fresh c)) (starts (limits_seen c.args.limits) c.args.actors)

pub returns : goal.returns
returns c = fresh c
