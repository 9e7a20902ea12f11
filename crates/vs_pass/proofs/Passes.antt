-- What passes have seen, once they have met.
use Rattle.std.proofs.Common.{◌≡◌, ℕ, false, [], length, refl, sym, ap, ◌∙◌, subst, inl, inr, ⊎_elim}
use Rattle.vs_defs.specs.Store.{Limits}
use Rattle.vs_defs.specs.History.{IsPrefix, own}
use Rattle.vs_thread_defs.specs.Machine.{GraphHistory, GraphLegal, IsGoodThroughout}
use Rattle.vs_thread_defs.specs.Rule.{pass, longer}
use Rattle.vs_history.specs.Seats.{HistoryView}
use Rattle.vs_history.proofs.Histories.{longer_is_one}
use Rattle.vs_pass.specs.Knower.{IsPass, Meets}

-- a pass that has seen more, and no more entries of its own
pub sees : (limits : Limits) (number known knows : ℕ) (before after : HistoryView) (t : GraphHistory) → IsPass limits number known before → after ≡ pass before.number t false [] before.own → own before.number t ≡ before.own
    → GraphLegal limits t → IsGoodThroughout t → knows ≡ length t → IsPass limits number knows after
sees limits number known knows before after t was is mine legal good counts =
    let number_is = ap (λ (v : HistoryView). v.number) was.at_rest in
    let own_is : own number t ≡ before.own = subst (λ (k : ℕ). own k t ≡ before.own) number_is mine in
    let now = is ∙ ap (λ (k : ℕ). pass k t false [] before.own) number_is ∙ ap (λ (l : GraphHistory). pass number t false [] l) (sym own_is) in
    subst (IsPass limits number knows) (sym now) (record { at_rest = refl; counts = counts; legal = legal; good = good })

-- its own entries are those that it had
pub own_stays : (limits : Limits) (number known : ℕ) (before : HistoryView) (t : GraphHistory) → IsPass limits number known before → own before.number t ≡ before.own → own number t ≡ own number before.seen
own_stays limits number known before t was mine =
    let number_is = ap (λ (v : HistoryView). v.number) was.at_rest in
    subst (λ (k : ℕ). own k t ≡ before.own) number_is mine ∙ ap (λ (v : HistoryView). v.own) was.at_rest

pub meets : (xs ys : GraphHistory) → IsPrefix xs (longer ys xs) → IsPrefix ys (longer ys xs) → Meets xs ys (longer ys xs)
meets xs ys p q = ⊎_elim
    (λ (e : longer ys xs ≡ xs). inr (subst (IsPrefix ys) e q, e))
    (λ (e : longer ys xs ≡ ys). inl (subst (IsPrefix xs) e p, e))
    (longer_is_one ys xs (longer ys xs) q p)

-- the longer of two lists has good stores alone where both have
pub good_of_longer : (xs ys : GraphHistory) → IsPrefix xs (longer ys xs) → IsPrefix ys (longer ys xs) → IsGoodThroughout xs → IsGoodThroughout ys → IsGoodThroughout (longer ys xs)
good_of_longer xs ys p q of_xs of_ys = ⊎_elim
    (λ (e : longer ys xs ≡ xs). subst IsGoodThroughout (sym e) of_xs)
    (λ (e : longer ys xs ≡ ys). subst IsGoodThroughout (sym e) of_ys)
    (longer_is_one ys xs (longer ys xs) q p)
