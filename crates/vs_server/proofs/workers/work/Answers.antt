use Rattle.std.proofs.Common.{◌≡◌, ℕ, ◌-◌, ◌<◌, ◌≤◌, [], length, ap, sym, ◌∙◌, subst, arith, All, slice_index_or}
use Rattle.std.specs.Prelude.{vec_capacity}
use Rattle.atomic_table.specs.Table.{Me}
use Rattle.vs_session.specs.Shared.{point_of}
use Rattle.vs_tickets.specs.declared.View.{View}
use Rattle.vs_tickets.specs.Rule.{share}
use Rattle.vs_server.specs.Counts.{IsFresh, AtEach}
use Rattle.vs_server.specs.Chains.{Serves}
use Rattle.vs_server.specs.declared.worker.Worker.{Worker}
use Rattle.vs_server.specs.Ended.{seen_by}
use Rattle.vs_server.proofs.Sums.{length_back, lent, seated, ended, Went}
use Rattle.vs_server.proofs.workers.work.Goals as goal

pub run_all-requires-clause-workers : goal.run_all-requires-clause-workers
run_all-requires-clause-workers g c _ _ =
    let W = Worker g.row.N.Denot g.row.L.Denot g.row.L-Input.Denot g.row.L-Output.Denot in
    let limit : c.args.all.now.me.0.limit ≡ c.args.limit = ap (λ (m : Me ℕ View). m.0.limit) c.requires.word.2 in
    let each = subst (λ (k : ℕ). All (λ (w : W). (w.ticket.table_id ≡ c.args.word.now.shared.table_id) × IsFresh w.ticket.me k) c.deal_all.new.workers.items) limit c.deal_all.ensures.workers.1 in
    subst (λ l. All (λ (w : W). (w.ticket.table_id ≡ c.args.word.now.shared.table_id) × IsFresh w.ticket.me c.args.limit) l) (sym c.deref_mut.ensures.value) each

pub give_back-drawn-requires-clause-workers : goal.give_back-drawn-requires-clause-workers
give_back-drawn-requires-clause-workers g c _ _ =
    let W = Worker g.row.N.Denot g.row.L.Denot g.row.L-Input.Denot g.row.L-Output.Denot in
    let value = c.deref_mut.ensures.value in
    let kept = c.run_all.auto.workers in
    let same : length c.run_all.new.workers ≡ length c.deal_all.new.workers.items = kept ∙ ap length value in
    let whole = lent c.deal_all.new.workers.items c.run_all.new.workers c.deal_all.new.workers.len same c.deal_all.new.workers.ok.0 in
    subst (λ l. All (λ (w : W). (w.ticket.table_id ≡ c.args.word.now.shared.table_id) × (w.ticket.me ≡ (share 1 w.ticket.me.0.below w.ticket.me.0.past c.args.limit, []))) l) (sym whole) (λ k d l.
    let short : k < length c.deref_mut.result.now = subst (λ (n : ℕ). k < n) kept l in
    let one = c.run_all.ensures k d short in
    let dealt = c.deal_all.ensures.workers.1 k d (subst (λ (n : ℕ). k < n) (ap length value) short) in
    (one.0 ∙ ap (λ l. (slice_index_or l k d).ticket.table_id) value ∙ dealt.0, seated _ _ _ _ _ one.1))

pub give_back-drawn-requires-clause-all : goal.give_back-drawn-requires-clause-all
give_back-drawn-requires-clause-all g c _ _ =
    let value = c.deref_mut.ensures.value in
    let same : length c.run_all.new.workers ≡ length c.deal_all.new.workers.items = c.run_all.auto.workers ∙ ap length value in
    let whole = lent c.deal_all.new.workers.items c.run_all.new.workers c.deal_all.new.workers.len same c.deal_all.new.workers.ok.0 in
    let long = ap length whole ∙ same in
    let limit : c.args.all.now.me.0.limit ≡ c.args.limit = ap (λ (m : Me ℕ View). m.0.limit) c.requires.word.2 in
    let many : length c.deal_all.new.workers.items ≡ length c.args.listeners.now.items = sym (length_back _ _) ∙ ap length c.deal_all.ensures.workers.0 in
    let few = c.requires.some.1 in (
      subst (λ (n : ℕ). n < 4294967296) (sym (long ∙ many)) few,
      c.deal_all.ensures.all.1 ∙ ap (λ (k : ℕ). (share (4294967296 - length c.deal_all.new.workers.items) 0 0 k, [])) limit ∙ ap (λ (n : ℕ). (share (4294967296 - n) 0 0 c.args.limit, [])) (sym long),
    )

pub give_back-drawn-requires-clause-room : goal.give_back-drawn-requires-clause-room
give_back-drawn-requires-clause-room g c _ _ =
    let value = c.deref_mut.ensures.value in
    let same : length c.run_all.new.workers ≡ length c.deal_all.new.workers.items = c.run_all.auto.workers ∙ ap length value in
    let whole = lent c.deal_all.new.workers.items c.run_all.new.workers c.deal_all.new.workers.len same c.deal_all.new.workers.ok.0 in
    let many : length c.deal_all.new.workers.items ≡ length c.args.listeners.now.items = sym (length_back _ _) ∙ ap length c.deal_all.ensures.workers.0 in
    let ok = c.args.listeners.now.ok in
    let len = ok.0 in
    let cap = ok.1 in
    let here = c.deal_all.ensures.listeners.1 in
    let long = ap length whole ∙ same ∙ many in
    (c.deal_all.ensures.listeners.0, subst (λ (n : ℕ). n ≤ vec_capacity c.deal_all.new.listeners) (sym long) (subst (λ (n : ℕ). length c.args.listeners.now.items ≤ n) (sym here) (omega arith)))

pub returns : goal.returns
returns g c =
    let W = Worker g.row.N.Denot g.row.L.Denot g.row.L-Input.Denot g.row.L-Output.Denot in
    let value = c.deref_mut.ensures.value in
    let kept = c.run_all.auto.workers in
    let same : length c.run_all.new.workers ≡ length c.deal_all.new.workers.items = kept ∙ ap length value in
    let whole = lent c.deal_all.new.workers.items c.run_all.new.workers c.deal_all.new.workers.len same c.deal_all.new.workers.ok.0 in
    let went = Went (λ (h : W). h.listener) (λ (h : W). h.ticket.me) (λ (h : W). h.has_failed) (λ (h : W). h.pass.number) (λ (h : W). point_of h.pass) (λ v. g.L.Listener.given v) (λ v. g.L.Listener.closed v) (λ v. g.L.Listener.faults v)
    (Serves g.L.Input.Source.left g.L.Input.Source.faults g.L.Output.Sink.written g.L.Output.Sink.faults g.N.TableName.limits) c.args.limit in
    ended (λ (h : W). h.listener) (λ (h : W). h.ticket.me) (λ (h : W). h.has_failed) (λ (h : W). h.pass.number) (λ (h : W). point_of h.pass) (λ v. g.L.Listener.given v) (λ v. g.L.Listener.closed v) (λ v. g.L.Listener.faults v)
    (Serves g.L.Input.Source.left g.L.Input.Source.faults g.L.Output.Sink.written g.L.Output.Sink.faults g.N.TableName.limits) c.args.limit g.N.TableName.limits c.args.seed
    c.args.listeners.now.items c.give_back-drawn.new.listeners.items c.deal_all.new.workers.items _ c.give_back-drawn.result.0 (seen_by c.give_back-drawn.result.1) c.end_last.ensures.legal c.end_last.ensures.good (ap length whole ∙ same)
    (subst (λ l. AtEach went c.deal_all.new.workers.items l) (sym whole) (subst (λ l. AtEach went l c.run_all.new.workers) value (λ i d l. let one = c.run_all.ensures i d l in (one.1, one.2, one.3, one.4))))
    c.deal_all.ensures.workers.2 c.deal_all.ensures.workers.3 c.deal_all.ensures.workers.0 c.give_back-drawn.ensures.listeners c.give_back-drawn.ensures.below c.give_back-drawn.ensures.past c.requires.some.0 c.give_back-drawn.ensures.met
