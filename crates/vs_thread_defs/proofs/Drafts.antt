-- A draft that isn't stale finds its set's dimension, M and chosen members as they were.
use Rattle.std.proofs.Common.{◌≡◌, ℕ, ◌≤◌, Bool, true, false, cond, [], ◌∷◌, ◌++◌, refl, sym, ap, ◌∙◌, subst, inl, inr, arith, append_assoc, append-nil, take-append-drop}
use Rattle.std.specs.Prelude.{Some, None, All, take, drop, not, ◌||◌, ◌==◌}
use Rattle.std.proofs.lemmas.Bool.{cases_Bool, or_parts}
use Rattle.std.proofs.lemmas.Bool.Decides.{Decides-eqb}
use Rattle.std.proofs.lemmas.List.Elements.{All-weaker}
use Rattle.std.proofs.lemmas.Option.{none-some, same_Some}
use Rattle.vs_defs.specs.Bytes.{Bytes}
use Rattle.vs_defs.specs.Store.{Store, Set, Limits, set_of, is_member, empty_store}
use Rattle.vs_defs.specs.History.{History, Entry, LegalAfter, store_after}
use Rattle.vs_thread_defs.specs.Machine.{GraphHistory, Follows, store_of}
use Rattle.vs_thread_defs.specs.Laws.{Lasts, KeepsShape, DraftKeepsChosen}
use Rattle.vs_thread_defs.proofs.Lasting.{lasts_same, lasts_on, next_of}
use Rattle.vs_thread_defs.proofs.Chosen.{chosen_here}

store_append : {S : Type 0} (start : S) (h t : History S) → store_after start (h ++ t) ≡ store_after (store_after start h) t
store_append start [] t = refl
store_append start (e ∷ es) t = store_append e.store es t

module _ (limits : Limits) where
  -- what each change keeps is kept by all
  carried : (P : Store Set → Type 0) → ((before : GraphHistory) (e : Entry (Store Set)) → Follows limits before e → P (store_of limits before) → P e.store)
      → (before es : GraphHistory) → LegalAfter (Follows limits) before es → P (store_of limits before) → P (store_of limits (before ++ es))
  carried P step before [] legal p = subst (λ h. P (store_of limits h)) (sym (append-nil before)) p
  carried P step before (e ∷ es) legal p =
      subst (λ h. P (store_of limits h)) (append_assoc before (e ∷ []) es)
      (carried P step (before ++ e ∷ []) es legal.1 (subst P (sym (store_append (empty_store limits) before (e ∷ []))) (step before e legal.0 p)))

  split : (before xs ys : GraphHistory) → LegalAfter (Follows limits) before (xs ++ ys) → LegalAfter (Follows limits) before xs × LegalAfter (Follows limits) (before ++ xs) ys
  split before [] ys l = (tt, subst (λ h. LegalAfter (Follows limits) h ys) (sym (append-nil before)) l)
  split before (x ∷ xs) ys l =
      let r = split (before ++ x ∷ []) xs ys l.1 in
      ((l.0, r.0), subst (λ h. LegalAfter (Follows limits) h ys) (append_assoc before (x ∷ []) xs) r.1)

  module _ (key : Bytes) where
    -- no cut is a change to come
    abbrev CutWithin : Store Set → Type 0
    CutWithin s = (x : Set) → set_of key s ≡ Some x → x.contents.cut ≤ s.changes

    cut_step : (before : GraphHistory) (e : Entry (Store Set)) → Follows limits before e → CutWithin (store_of limits before) → CutWithin e.store
    cut_step before e f p y is =
        let number = f.step.contents.number in
        elim (next_of (store_of limits before) e.store e.request e.words e.answer f.drafted f.step key y is) [
          | inl c ↦ omega (arith, c, number)
          | inr h ↦ let old = p h.0 h.1 in omega (arith, old, h.2, number)
        ]

    cut_first : CutWithin (empty_store limits)
    cut_first x is = absurd (none-some x is)

    -- a set with the cut of one that was there lasts from it
    abbrev LastsFrom : Set → Store Set → Type 0
    LastsFrom was s = (was.contents.cut ≤ s.changes) × ((now : Set) → set_of key s ≡ Some now → now.contents.cut ≡ was.contents.cut → Lasts was.contents now.contents)

    lasts_step : (was : Set) (before : GraphHistory) (e : Entry (Store Set)) → Follows limits before e → LastsFrom was (store_of limits before) → LastsFrom was e.store
    lasts_step was before e f p =
        let number = f.step.contents.number in (
          (let old = p.0 in omega (arith, old, number)),
          λ now is cut. elim (next_of (store_of limits before) e.store e.request e.words e.answer f.drafted f.step key now is) [
            | inl c ↦ let old = p.0 in absurd (omega (arith, old, c, cut))
            | inr h ↦ lasts_on was.contents h.0.contents now.contents (p.1 h.0 h.1 (sym h.2 ∙ cut)) h.3
          ],
        )

not_stale : (taken : Bool) (a b : ℕ) (p : ℕ × Bool) → cond (not (a == b) || taken) (Some p) None ≡ None → a ≡ b
not_stale taken a b p e = elim (cases_Bool (not (a == b) || taken)) [
  | inl t ↦ absurd (none-some p (sym e ∙ ap (λ c. cond c (Some p) None) t))
  | inr f ↦ (Decides-eqb a b).0 (not_not (a == b) (or_parts (not (a == b)) taken f).0)
]
  where
    not_not : (b : Bool) → not b ≡ false → b ≡ true
    not_not true f = refl
    not_not false f = sym f

pub draft_keeps_chosen : DraftKeepsChosen
draft_keeps_chosen limits h add level p was now legal was_is now_is chosen fresh =
    let first = take p.place h in
    let rest = drop p.place h in
    let whole : first ++ rest ≡ h = take-append-drop p.place h in
    let parts = split limits [] first rest (subst (λ t. LegalAfter (Follows limits) [] t) (sym whole) legal) in
    let within = carried limits (CutWithin limits add.key) (cut_step limits add.key) [] first parts.0 (cut_first limits add.key) in
    let same : was.contents.cut ≡ now.contents.cut = not_stale (is_member add.name now.contents.members) was.contents.cut now.contents.cut (now.contents.cut, is_member add.name now.contents.members) fresh in
    let here : LastsFrom limits add.key was (store_of limits first)
    = (within was was_is, λ x is cut. subst (λ (y : Set). Lasts was.contents y.contents) (same_Some was x (sym was_is ∙ is)) (lasts_same was.contents)) in
    let there : LastsFrom limits add.key was (store_of limits h)
    = subst (λ t. LastsFrom limits add.key was (store_of limits t)) whole (carried limits (LastsFrom limits add.key was) (lasts_step limits add.key was) first rest parts.1 here) in
    let lasts = there.1 now now_is (sym same) in (
      lasts.dim,
      lasts.m,
      All-weaker (All (λ name. is_member name was.contents.members ≡ true)) (All (KeepsShape was.contents now.contents)) (λ l all. All-weaker (λ name. is_member name was.contents.members ≡ true) (KeepsShape was.contents now.contents) (λ name here. lasts.members name here) l all) p.chosen
          (chosen_here was add.bits level add.ef p.chosen chosen),
    )
