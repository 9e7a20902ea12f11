-- One hold of the lock: what the desk and the pass keep, once a task was done.
use Rattle.std.proofs.Common.{◌≡◌, ℕ, true, false, [], refl, sym, ap, ◌∙◌, subst}
use Rattle.vs_defs.specs.Store.{Store, Set, Limits}
use Rattle.vs_defs.specs.History.{IsPrefix, own}
use Rattle.vs_thread_defs.specs.Machine.{GraphHistory}
use Rattle.vs_thread_defs.specs.Rule.{pass, keeper}
use Rattle.vs_history.specs.Seats.{HistoryView}
use Rattle.vs_history.specs.Work.{Work, Did, Closed}
use Rattle.vs_pass.specs.Knower.{IsPass, IsDesk}
use Rattle.vs_pass.specs.Task.{Holding}
use Rattle.vs_pass.proofs.Passes.{own_stays}

module _ (limits : Limits) (n known : ℕ) (seat desk : HistoryView) (store : Store Set) (p : IsPass limits n known seat) (d : IsDesk limits store desk) where
  pub holding : IsPrefix seat.seen desk.seen → own seat.number desk.seen ≡ seat.own → Holding limits n seat.seen desk.seen
  holding begins mine = record { begins = begins; legal = d.legal; good = d.good; own_are = own_stays limits n known seat desk.seen p mine }

  module _ (entered : HistoryView) (is : entered ≡ pass seat.number desk.seen true [] seat.own) (told w : Work) (told_is : told ≡ w) where
    number_is : entered.number ≡ n
    number_is = ap (λ (v : HistoryView). v.number) is ∙ ap (λ (v : HistoryView). v.number) p.at_rest

    seen_is : entered.seen ≡ desk.seen
    seen_is = ap (λ (v : HistoryView). v.seen) is

    pub told_did : Did limits desk.seen w → Did limits entered.seen told
    told_did did = subst (λ (x : Work). Did limits entered.seen x) (sym told_is) (subst (λ (h : GraphHistory). Did limits h w) (sym seen_is) did)

    pub closed_at : (t mine : GraphHistory) → Closed limits entered.number entered.seen told t mine → Closed limits n desk.seen w t mine
    closed_at t mine c =
        subst (λ (x : Work). Closed limits n desk.seen x t mine) told_is (subst (λ (h : GraphHistory). Closed limits n h told t mine) seen_is (subst (λ (k : ℕ). Closed limits k entered.seen told t mine) number_is c))

    pub pass_kept : (counts : ℕ) (left : HistoryView) → left ≡ pass entered.number left.seen false [] left.own → Closed limits n desk.seen w left.seen left.own → counts ≡ w.new.changes → IsPass limits n counts left
    pass_kept counts left rests c after = record {
      at_rest = rests ∙ ap (λ (k : ℕ). pass k left.seen false [] left.own) number_is ∙ ap (λ (l : GraphHistory). pass n left.seen false [] l) (sym c.own_are);
      counts = after ∙ c.counts;
      legal = c.legal;
      good = c.good d.good;
    }

    pub desk_kept : (new : Store Set) (made : ℕ) (left back : HistoryView) → back ≡ keeper made left.seen true → Closed limits n desk.seen w left.seen left.own → w.new ≡ new → IsDesk limits new back
    desk_kept new made left back leads c new_is = subst (IsDesk limits new) (sym leads) (record {
      leads = refl;
      legal = c.legal;
      good = c.good d.good;
      ends = sym new_is ∙ c.ends;
      counts = ap (λ (x : Store Set). x.changes) (sym new_is) ∙ c.counts;
    })
