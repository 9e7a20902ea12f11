use Rattle.std.proofs.Common.{rules, ◌≡◌, ℕ, ◌+◌, Bool, true, false, if◌then◌else◌, List, [], sym, ap, ◌∙◌, subst, arith, refl}
use Rattle.atomic_table.specs.Table.{Me}
use Rattle.vs_tickets.specs.declared.View.{View}
use Rattle.vs_tickets.specs.Rule.{share}
use Rattle.vs_server.specs.Counts.{Counted}
use Rattle.vs_server.proofs.Counting.{counted_none, counted_more}
use Rattle.vs_server.proofs.Chaining.{chained_none, chained_more}
use Rattle.vs_server.proofs.worker.Worker.run.Goals as goal

pub returns-then-not-serve_one-clause-run : goal.returns-then-not-serve_one-clause-run
returns-then-not-serve_one-clause-run g c =
    let i = c.loop.invariant in
    let n = c.loop.self.ticket.me.0.below in
    let drawn : c.draw.result ≡ true = search rules in
    let failed : c.serve_one.result ≡ false = search rules in
    let none : n + 0 ≡ n = omega arith in
    let seat = c.draw.ensures.below drawn ∙ ap (λ (m : Me ℕ View). share m.0.parts (m.0.below + 1) m.0.past m.0.limit) i.2 in
    let rest = c.draw.ensures.table.1 ∙ ap (λ (m : Me ℕ View). m.1) i.2 in
    let one = subst (λ (b : Bool). Counted (g.L.Listener.closed c.loop.self.listener) (g.L.Listener.closed c.serve_one.new.listener) (if b then 1 else 0)) failed c.serve_one.ensures.counted in
    record { served = n; view = λ k. (seat k, rest k); counted = subst (λ (m : ℕ). Counted (g.L.Listener.closed c.args.self.now.listener) (g.L.Listener.closed c.serve_one.new.listener) m) none (counted_more _ _ _ _ _ i.3 one) }

pub loop-init : goal.loop-init
loop-init g c = ((tt, tt), refl, c.requires.fresh.view ∙ sym (ap (λ (m : Me ℕ View). (share 1 m.0.below 0 c.args.limit, [])) c.requires.fresh.view), rw c.requires.fresh.view (counted_none _), refl, chained_none _ _ _ _ _)

pub returns-then-not-serve_one-clause-chained : goal.returns-then-not-serve_one-clause-chained
returns-then-not-serve_one-clause-chained g c = chained_more _ _ _ _ _ _ _ _ _ _ _ _ _ c.loop.invariant.5 c.serve_one.ensures.chained

pub loop-preserved : goal.loop-preserved
loop-preserved g c =
    let i = c.loop.invariant in
    let drawn : c.draw.result ≡ true = search rules in
    let served : c.serve_one.result ≡ true = search rules in
    let below = c.draw.ensures.below drawn in
    let old = i.2 in
    let seat : c.draw.new.seat.me.0 ≡ share 1 (c.loop.self.ticket.me.0.below + 1) 0 c.args.limit = below ∙ ap (λ (m : Me ℕ View). share m.0.parts (c.loop.self.ticket.me.0.below + 1) m.0.past m.0.limit) old in
    let n = ap (λ (v : View). v.below) seat in
    let one = subst (λ (b : Bool). Counted (g.L.Listener.closed c.loop.self.listener) (g.L.Listener.closed c.serve_one.new.listener) (if b then 1 else 0)) served c.serve_one.ensures.counted in (
      (tt, tt),
      c.draw.ensures.table.0 ∙ i.1,
      ap (λ (v : View). (v, c.draw.new.seat.me.1)) (seat ∙ ap (λ (k : ℕ). share 1 k 0 c.args.limit) (sym n)) ∙ ap (λ (r : List _). (share 1 c.draw.new.seat.me.0.below 0 c.args.limit, r)) (c.draw.ensures.table.1 ∙ ap (λ (m : Me ℕ View). m.1) old),
      subst (λ (k : ℕ). Counted (g.L.Listener.closed c.args.self.now.listener) (g.L.Listener.closed c.serve_one.new.listener) k) (sym n) (counted_more _ _ _ _ _ i.3 one),
      c.serve_one.ensures.calm served ∙ i.4,
      chained_more _ _ _ _ _ _ _ _ _ _ _ _ _ i.5 c.serve_one.ensures.chained,
    )
