use Rattle.std.proofs.Common.{◌≡◌, ℕ, ◌+◌, ◌-◌, ◌≤◌, [], length, refl, ap, sym, ◌∙◌, subst, arith}
use Rattle.std.specs.Prelude.{All}
use Rattle.std.proofs.lemmas.List.Elements.{All-push}
use Rattle.vs_tickets.specs.Rule.{share}
use Rattle.vs_session.specs.Shared.{point_of}
use Rattle.vs_server.specs.Chains.{start}
use Rattle.vs_server.specs.Counts.{IsFresh}
use Rattle.vs_server.specs.declared.worker.Worker.{Worker}
use Rattle.vs_server.proofs.Dealing.{popped, begins}
use Rattle.vs_server.proofs.Sums.{length_pop, dealt, fresh, parted_right, down_push}
use Rattle.vs_server.proofs.workers.deal_all.Goals as goal

pub loop-listener-preserved : goal.loop-listener-preserved
loop-listener-preserved g c =
    let W = Worker g.row.N.Denot g.row.L.Denot g.row.L-Input.Denot g.row.L-Output.Denot in
    let i = c.loop-listener.invariant in
    let items = c.in-Some.ensures.items in
    let n = length c.loop-listener.workers.items in
    let long : length c.loop-listener.listeners.items ≡ length c.pop.new.self.items + 1 = length_pop _ _ _ items in
    let few = i.4 in
    let room = i.3 in
    let p = c.push_reserved.ensures in
    let more : length c.push_reserved.new.self.items ≡ n + 1 = length_pop _ _ _ p.items in
    let all_of = i.10 in
    let limit = c.args.all.now.me.0.limit in
    let d = c.deal-ticket.ensures in
    let seat = dealt n limit c.loop-listener.all.me c.deal-ticket.new.maker.me (omega arith) i.1 d.maker.1 in
    let pass = popped c.args.seed (length c.loop-listener.listeners.items) (length c.pop.new.self.items) c.loop-listener.passes.items c.pop-in-Some.new.self.items c.in-Some-pop.pass i.6 long c.in-Some-pop.ensures.items in
    let first : point_of c.in-Some-pop.pass ≡ start c.args.seed c.in-Some-pop.pass.number = begins c.args.seed (length c.pop.new.self.items) c.in-Some-pop.pass pass.1 in
    let number = ap (λ k. k.number) pass.1 in (
      d.maker.0 ∙ i.0,
      seat ∙ ap (λ (k : ℕ). (share (4294967296 - k) 0 0 limit, [])) (sym more),
      c.pop.ensures.capacity ∙ i.2,
      subst (λ (k : ℕ). length c.push_reserved.new.self.items + length c.pop.new.self.items ≤ k) (sym p.capacity) (omega arith),
      omega arith,
      parted_right _ _ _ _ _ _ _ i.5 items p.items,
      pass.0,
      subst (λ l. All (λ (w : W). (w.ticket.table_id ≡ c.args.word.now.shared.table_id) × IsFresh w.ticket.me limit) l) (sym p.items) (All-push (λ (w : W). (w.ticket.table_id ≡ c.args.word.now.shared.table_id) × IsFresh w.ticket.me limit) _ _ i.7 (d.seat.0 ∙ i.0, fresh n limit c.loop-listener.all.me c.deal-ticket.result.me i.1 d.seat.1)),
      subst (λ l. All (λ (w : W). point_of w.pass ≡ start c.args.seed w.pass.number) l) (sym p.items) (All-push (λ (w : W). point_of w.pass ≡ start c.args.seed w.pass.number) _ _ i.8 first),
      down_push (λ (w : W). w.pass.number) _ _ _ _ i.9 p.items (omega arith),
      omega arith,
    )
