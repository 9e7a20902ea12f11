use Rattle.std.proofs.Common.{◌≡◌, [], false, refl, ap, ◌∙◌, subst}
use Rattle.vs_defs.specs.History.{own}
use Rattle.vs_thread_defs.specs.Machine.{Follows}
use Rattle.vs_thread_defs.specs.Rule.{pass, note, longer, unled, taken, Settled}
use Rattle.vs_history.specs.Seats.{HistoryView}
use Rattle.vs_history.proofs.Histories.{longer_of_prefix}
use Rattle.vs_history.proofs.hold.meet.Goals as goal

pub returns-clause-one : goal.returns-clause-one
returns-clause-one g c =
    let a = c.args.one.now in
    let b = c.args.other.now in
    let t = longer b.seen a.seen in
    let lent = c.lend-lent.ensures.note ∙ ap (λ (v : HistoryView). note v.seen v.lead) c.requires.one in
    let took = c.take.ensures ∙ ap (λ (v : HistoryView). taken v c.lend-lent.result) c.requires.other ∙ ap (taken (pass b.number b.seen false [] b.own)) lent in
    let first = subst (λ (v : HistoryView). Settled (Follows g.N.TableName.limits) v c.settle.result c.settle.new.taker) took c.settle.ensures in
    let lent2 = c.lend-lent-2.ensures.note ∙ ap (λ (v : HistoryView). note v.seen v.lead) first.view in
    let lender = c.lend-lent.ensures.lender ∙ ap unled c.requires.one in
    let took2 = c.take-2.ensures ∙ ap (λ (v : HistoryView). taken v c.lend-lent-2.result) lender ∙ ap (taken (pass a.number a.seen false [] a.own)) lent2 in
    let second = subst (λ (v : HistoryView). Settled (Follows g.N.TableName.limits) v c.settle-2.result c.settle-2.new.taker) took2 c.settle-2.ensures in
    second.view ∙ ap (λ l. pass a.number l false [] a.own) (longer_of_prefix a.seen t first.olds.1.0)

pub returns-clause-own_one : goal.returns-clause-own_one
returns-clause-own_one g c =
    let a = c.args.one.now in
    let b = c.args.other.now in
    let t = longer b.seen a.seen in
    let lent = c.lend-lent.ensures.note ∙ ap (λ (v : HistoryView). note v.seen v.lead) c.requires.one in
    let took = c.take.ensures ∙ ap (λ (v : HistoryView). taken v c.lend-lent.result) c.requires.other ∙ ap (taken (pass b.number b.seen false [] b.own)) lent in
    let first = subst (λ (v : HistoryView). Settled (Follows g.N.TableName.limits) v c.settle.result c.settle.new.taker) took c.settle.ensures in
    let lent2 = c.lend-lent-2.ensures.note ∙ ap (λ (v : HistoryView). note v.seen v.lead) first.view in
    let lender = c.lend-lent.ensures.lender ∙ ap unled c.requires.one in
    let took2 = c.take-2.ensures ∙ ap (λ (v : HistoryView). taken v c.lend-lent-2.result) lender ∙ ap (taken (pass a.number a.seen false [] a.own)) lent2 in
    let second = subst (λ (v : HistoryView). Settled (Follows g.N.TableName.limits) v c.settle-2.result c.settle-2.new.taker) took2 c.settle-2.ensures in
    subst (λ l. own a.number l ≡ a.own) (longer_of_prefix a.seen t first.olds.1.0) (second.mine refl)
