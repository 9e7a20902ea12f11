use Rattle.std.proofs.Common.{◌∷◌, [], false, sym, ap, ◌∙◌, subst, arith, length-append}
use Rattle.vs_thread_defs.specs.Rule.{pass}
use Rattle.vs_history.specs.Seats.{HistoryView}
use Rattle.vs_history.specs.Work.{entry_of, Closed}
use Rattle.vs_history.proofs.Calls.{closed_quiet, closed_changed, legal_next}
use Rattle.vs_history.proofs.hold.close.Goals as goal

pub returns-then-after-before-clause-closed : goal.returns-then-after-before-clause-closed
returns-then-after-before-clause-closed g c =
    let r = c.requires in
    let p = c.args.pass.now in
    let w = g.W.Working.work in
    let same = sym r.counts.1 ∙ c.if-after-before.true ∙ r.counts.0 in
    subst (λ (v : HistoryView). Closed g.N.TableName.limits p.number p.seen w v.seen v.own) (sym c.leave.ensures.pass) (closed_quiet g.N.TableName.limits w p.number p.seen p.own r.did same r.legal r.own)

pub note_change-requires-clause-legal : goal.note_change-requires-clause-legal
note_change-requires-clause-legal g c =
    let r = c.requires in
    let p = c.args.pass.now in
    legal_next g.N.TableName.limits g.W.Working.work p.number p.seen r.did (λ same. c.if-after-before.false (r.counts.1 ∙ same ∙ sym r.counts.0)) r.legal

pub note_change-requires-clause-room : goal.note_change-requires-clause-room
note_change-requires-clause-room g c =
    let r = c.requires in
    let p = c.args.pass.now in
    let w = g.W.Working.work in
    let closed = closed_changed g.N.TableName.limits w p.number p.seen p.own r.did (λ same. c.if-after-before.false (r.counts.1 ∙ same ∙ sym r.counts.0)) r.legal r.own in
    let counts = closed.counts in
    let after = r.counts.1 in
    let fits = c.ranges.after.fits in
    omega (arith, counts, after, fits, length-append p.seen (entry_of p.number w ∷ []))

pub returns-clause-closed : goal.returns-clause-closed
returns-clause-closed g c =
    let r = c.requires in
    let p = c.args.pass.now in
    let w = g.W.Working.work in
    let noted = c.leave-2.ensures.pass ∙ ap (λ (v : HistoryView). pass v.number v.seen false [] v.own) c.note_change.ensures in
    subst (λ (v : HistoryView). Closed g.N.TableName.limits p.number p.seen w v.seen v.own) (sym noted)
    (closed_changed g.N.TableName.limits w p.number p.seen p.own r.did (λ same. c.if-after-before.false (r.counts.1 ∙ same ∙ sym r.counts.0)) r.legal r.own)
