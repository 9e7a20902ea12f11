use Rattle.std.proofs.Common.{sym, subst, arith}
use Rattle.vs_thread_defs.specs.Rule.{longer}
use Rattle.vs_history.specs.Seats.{HistoryView}
use Rattle.vs_history.proofs.Histories.{length-longer}
use Rattle.vs_pass.specs.Knower.{Knower, Meets}
use Rattle.vs_pass.proofs.Passes.{sees, meets, good_of_longer}
use Rattle.vs_pass.proofs.pass.Pass.meet.Goals as goal

pub invariant_of-one : goal.invariant_of-one
invariant_of-one g c =
    let p = c.one.invariant in
    let q = c.other.invariant in
    let known = c.max-known.ensures in
    let size = length-longer c.other.inside.seat.seen c.one.inside.seat.seen in
    let m = p.counts in
    let n = q.counts in
    let good = good_of_longer c.one.inside.seat.seen c.other.inside.seat.seen c.meet.ensures.begins.0 c.meet.ensures.begins.1 p.good q.good in
    sees g.N.TableName.limits c.one.inside.number c.one.inside.known _ _ _ (longer c.other.inside.seat.seen c.one.inside.seat.seen) p c.meet.ensures.one c.meet.ensures.own_one c.meet.ensures.legal good (omega (arith, known, size, m, n))

pub invariant_of-other : goal.invariant_of-other
invariant_of-other g c =
    let p = c.one.invariant in
    let q = c.other.invariant in
    let known = c.max-known.ensures in
    let size = length-longer c.other.inside.seat.seen c.one.inside.seat.seen in
    let m = p.counts in
    let n = q.counts in
    let good = good_of_longer c.one.inside.seat.seen c.other.inside.seat.seen c.meet.ensures.begins.0 c.meet.ensures.begins.1 p.good q.good in
    sees g.N.TableName.limits c.other.inside.number c.other.inside.known _ _ _ (longer c.other.inside.seat.seen c.one.inside.seat.seen) q c.meet.ensures.other c.meet.ensures.own_other c.meet.ensures.legal good (omega (arith, known, size, m, n))

pub returns-clause-one : goal.returns-clause-one
returns-clause-one g c =
    let both = meets c.one.inside.seat.seen c.other.inside.seat.seen c.meet.ensures.begins.0 c.meet.ensures.begins.1 in
    subst (λ (k : Knower). Meets k.seen c.args.other.now.seen c.meet.new.one.seen) c.one.view_is
    (subst (λ (k : Knower). Meets c.one.inside.seat.seen k.seen c.meet.new.one.seen) c.other.view_is
    (subst (λ (v : HistoryView). Meets c.one.inside.seat.seen c.other.inside.seat.seen v.seen) (sym c.meet.ensures.one) both))

pub returns-clause-other : goal.returns-clause-other
returns-clause-other g c =
    let both = meets c.one.inside.seat.seen c.other.inside.seat.seen c.meet.ensures.begins.0 c.meet.ensures.begins.1 in
    subst (λ (k : Knower). Meets k.seen c.args.other.now.seen c.meet.new.other.seen) c.one.view_is
    (subst (λ (k : Knower). Meets c.one.inside.seat.seen k.seen c.meet.new.other.seen) c.other.view_is
    (subst (λ (v : HistoryView). Meets c.one.inside.seat.seen c.other.inside.seat.seen v.seen) (sym c.meet.ensures.other) both))
