use Rattle.std.proofs.Common.{◌≡◌, ℕ, ◌+◌, ◌-◌, ◌<◌, ◌++◌, [], length, ap, sym, ◌∙◌, subst, arith, sum_by, ◌≤◌}
use Rattle.std.proofs.lemmas.List.Sums.{sum_by_push}
use Rattle.atomic_table.specs.Table.{Me}
use Rattle.vs_tickets.specs.declared.View.{View}
use Rattle.vs_tickets.specs.Rule.{share}
use Rattle.vs_server.specs.Ended.{back, seen_by}
use Rattle.vs_server.specs.declared.worker.Worker.{Worker}
use Rattle.vs_server.proofs.Sums.{all_pop, length_pop, joined, parted_left, met_none, met_more, met_all, none_left}
use Rattle.vs_server.proofs.workers.give_back.Goals as goal

pub loop-listener-preserved : goal.loop-listener-preserved
loop-listener-preserved g c =
    let W = Worker g.row.N.Denot g.row.L.Denot g.row.L-Input.Denot g.row.L-Output.Denot in
    let i = c.loop-listener.invariant in
    let h = c.in-Some.field-0 in
    let items = c.in-Some.ensures.items in
    let both = all_pop (λ (w : W). (w.ticket.table_id ≡ c.args.word.now.shared.table_id) × (w.ticket.me ≡ (share 1 w.ticket.me.0.below w.ticket.me.0.past c.args.limit, []))) _ _ h items i.2 in
    let n = length c.pop.new.self.items in
    let long : length c.loop-listener.workers.items ≡ n + 1 = length_pop _ _ h items in
    let small : n + 1 < 4294967296 = subst (λ (k : ℕ). k < 4294967296) long i.1 in
    let was = i.3 ∙ ap (λ (k : ℕ). (share (4294967296 - k) c.loop-listener.all.me.0.below c.loop-listener.all.me.0.past c.args.limit, [])) long in
    let now = joined n c.args.limit c.loop-listener.all.me h.ticket.me c.gather.new.maker.me small was both.1.1 c.gather.ensures.gathered in
    let below = now.1 in
    let past = now.2 in
    let below_all = i.4 in
    let past_all = i.5 in
    let below_cut = ap (λ l. sum_by (λ (w : W). w.ticket.me.0.below) l) items ∙ sum_by_push (λ (w : W). w.ticket.me.0.below) c.pop.new.self.items h in
    let past_cut = ap (λ l. sum_by (λ (w : W). w.ticket.me.0.past) l) items ∙ sum_by_push (λ (w : W). w.ticket.me.0.past) c.pop.new.self.items h in
    let room = i.6 in
    let p = c.push_reserved.ensures in
    let more = length_pop _ _ _ p.items in (
      c.gather.ensures.table ∙ i.0,
      omega arith,
      both.0,
      now.0,
      omega arith,
      omega arith,
      subst (λ (k : ℕ). length c.push_reserved.new.self.items + n ≤ k) (sym p.capacity) (omega arith),
      parted_left _ _ _ _ _ _ h i.7 items p.items,
      met_more _ _ _ _ h _ _ i.8 items c.met.ensures.pass c.met.ensures.last,
    )

pub loop-listener-init : goal.loop-listener-init
loop-listener-init g c =
    let W = Worker g.row.N.Denot g.row.L.Denot g.row.L-Input.Denot g.row.L-Output.Denot in
    let seat = c.requires.all.1 in
    let n = length c.args.workers.items in
    let below : c.args.all.now.me.0.below ≡ 0 = ap (λ (m : Me ℕ View). m.0.below) seat in
    let past : c.args.all.now.me.0.past ≡ 0 = ap (λ (m : Me ℕ View). m.0.past) seat in
    let none : length c.args.listeners.now.items ≡ 0 = ap length c.requires.room.0 in
    let room = c.requires.room.1 in (
      c.requires.word.0.0,
      c.requires.all.0,
      c.requires.workers,
      seat ∙ sym (ap (λ (m : Me ℕ View). (share (4294967296 - n) m.0.below m.0.past c.args.limit, [])) seat),
      omega arith,
      omega arith,
      omega arith,
      record { whole = ap (λ l. l ++ back (λ (w : W). w.listener) c.args.workers.items) c.requires.room.0 },
      met_none (λ (w : W). w.pass.seen) c.args.workers.items [],
    )

pub returns-clause-met : goal.returns-clause-met
returns-clause-met g c =
    let W = Worker g.row.N.Denot g.row.L.Denot g.row.L-Input.Denot g.row.L-Output.Denot in
    let long : length c.loop-listener.workers.items ≡ 0 = omega (arith, c.in_default.ensures.cases.0, c.loop-listener.workers.ok.0) in
    met_all (λ (w : W). w.pass.seen) c.loop-listener.workers.items c.args.workers.items (seen_by c.loop-listener.last) (none_left c.loop-listener.workers.items long) c.loop-listener.invariant.8
