-- What the machine of histories and that of interleavings don't let through.
use Rattle.std.specs.Prelude.{◌≡◌, ℕ, Bool, true, false, List, [], ◌∷◌, ◌++◌, codes, Option, Some, pos, length, cond, ◌+◌, ◌==◌}
use Rattle.std.proofs.Common.{inl, inr, arith, ap, ◌∙◌, length-append}
use Rattle.std.proofs.lemmas.List.Elements.{filter-append}
use Rattle.std.proofs.lemmas.Bool.Decides.{Decides-eqb}
use mathlib.Core.Bool.{true≢false}
use Rattle.vs_defs.specs.Request as request
use Rattle.vs_defs.specs.Request.{Add, Answer}
use Rattle.vs_defs.specs.Store.{Set, Store, Limits, usual_limits}
use Rattle.vs_defs.specs.History.{Entry, own}
use Rattle.vs_defs.specs.Reply as outcome
use Rattle.vs_defs.proofs.ChangeExamples.{a}
use Rattle.vs_thread_defs.specs.Machine.{GraphHistory, GraphCall}
use Rattle.vs_thread_defs.specs.Interleaving as machine
use Rattle.vs_thread_defs.specs.Interleaving.{Happens, State}
use Rattle.vs_thread_defs.proofs.RunExample.{a_added, state, ready}

-- an addition that is answered and leaves the history as it was
one_more : (k : ℕ) (before : GraphHistory) (last : Entry (Store Set)) → last.author ≡ k → length (own k (before ++ last ∷ [])) ≡ length (own k before) + 1
one_more k before last e =
    let mine : (last.author == k) ≡ true = (Decides-eqb last.author k).1 e in
    ap length (filter-append (λ (e : Entry (Store Set)). e.author == k) before (last ∷ []) ∙ ap (λ (t : Bool). own k before ++ cond t (last ∷ []) []) mine)
    ∙ length-append (own k before) (last ∷ [])

unchanged : (limits : Limits) (k : ℕ) (s : GraphHistory) (add : Add) (words : List ℕ) (answer : Answer) → ¬ GraphCall limits k s (request.Vadd add) words (outcome.Answered answer) s
unchanged limits k s add words answer c = elim c.outcome_is [
  | inl x ↦
      let e = ap (λ (h : GraphHistory). length (own k h)) x.is_last ∙ one_more k x.before x.last x.author in
      let o = ap length x.others in
      omega (arith, e, o)
  | inr x ↦ true≢false x.1.changes_nothing
]

-- an answer at the opening state, where the author has seen a change since: VCARD of a set with a member
abbrev counted : Option Answer → ℕ
counted (Some (request.Int (pos n))) = n
counted x = 7

at_the_opening : ¬ GraphCall usual_limits 1 [] (request.Vcard (codes "s")) [] (outcome.Answered (request.Int (pos 0))) (a_added 0 1 ∷ [])
at_the_opening c = elim c.outcome_is [
  | inl x ↦
      let e : 0 ≡ length (own 1 x.before) + 1 = ap (λ (h : GraphHistory). length (own 1 h)) x.is_last ∙ one_more 1 x.before x.last x.author in
      omega (arith, e)
  | inr x ↦ let e : 1 ≡ 0 = ap counted x.1.answer_is in omega (arith, e)
]

-- a commit that says stale of a draft that stands
is_redone : machine.Outcome → Bool
is_redone (machine.Redone n t r) = true
is_redone o = false

never_stale : (n : ℕ) (t : Bool) (r : outcome.Outcome) (new : State) → ¬ Happens usual_limits (state (a_added 1 1 ∷ []) ready machine.Idle) (machine.Commit 1) (machine.Redone n t r) new
unfolding is_redone
never_stale n t r new h = elim h [
  | inl x ↦ true≢false (ap is_redone x.0)
  | inr x ↦ true≢false (ap is_redone x.outcome)
]

-- a commit that is answered has the draft's place and chosen lists in its entry
is_answered : machine.Outcome → Bool
is_answered (machine.Answered a) = true
is_answered o = false

drafted_entry : (answer : Answer) (new : State) → Happens usual_limits (state (a_added 1 1 ∷ []) ready machine.Idle) (machine.Commit 1) (machine.Answered answer) new
    → (e : Entry (Store Set)) × (new.history ≡ a_added 1 1 ∷ e ∷ []) × (e.draft ≡ Some (record { place = 1; chosen = (a ∷ []) ∷ [] }))
unfolding is_answered
drafted_entry answer new h = elim h [
  | inl x ↦ absurd (true≢false (ap is_answered x.0))
  | inr x ↦ (x.entry, ap (λ (s : State). s.history) x.state, x.draft)
]
