-- What a call of the store did in a hold, as a call of a pass in a history.
use Rattle.std.proofs.Common.{◌≡◌, ◌≢◌, ℕ, ◌≤◌, List, [], ◌∷◌, ◌++◌, length, Option, Some, None, refl, sym, ap, ◌∙◌, subst, inl, inr, ⊎_elim, arith, append_assoc, append-nil, length-append}
use Rattle.std.specs.Prelude.{IfSome, ◌==◌}
use Rattle.std.proofs.lemmas.List.Elements.{filter-append, All-push}
use mathlib.Core.List.{IsPrefix}
use Rattle.vs_defs.specs.Bounds.{IsInBounds}
use Rattle.vs_defs.specs.Read.{draws}
use Rattle.vs_defs.specs.Request.{Request}
use Rattle.vs_defs.specs.Store.{Store, Set, Limits, empty_store}
use Rattle.vs_defs.specs.Good.{GoodStore}
use Rattle.vs_defs.specs.Step.{Step, Drafted}
use Rattle.vs_defs.specs.Answers.{Answers}
use Rattle.vs_defs.specs.Refuse.{store_refusal}
use Rattle.vs_defs.specs.Store.{plain}
use Rattle.vs_defs.specs.Reply.{Outcome}
use Rattle.vs_defs.specs.Reply as outcome
use Rattle.vs_defs.specs.History.{Entry, Preparation, LegalAfter, own}
use Rattle.vs_thread_defs.specs.Machine.{GraphHistory, GraphLegal, GraphCall, DraftFits, Follows, IsGoodThroughout, StoreDoes, store_of}
use Rattle.vs_thread_defs.specs.Passes.{OfItsChange, Watches}
use Rattle.vs_history.specs.Work.{Work, entry_of, answer_in, DoesBy, Did, Closed}
use Rattle.vs_history.proofs.Beginnings.{prefix_trans, prefix_push}
use Rattle.std.proofs.lemmas.List.{same_from_push}
use Rattle.vs_history.proofs.Histories.{store_push, legal_begin, legal_push, own-push-own}

module _ (limits : Limits) where
  counts_after : (before es : GraphHistory) → LegalAfter (Follows limits) before es → (store_of limits before).changes ≡ length before → (store_of limits (before ++ es)).changes ≡ length (before ++ es)
  counts_after before [] legal is = subst (λ h. (store_of limits h).changes ≡ length h) (sym (append-nil before)) is
  counts_after before (e ∷ es) legal is =
      let number = legal.0.step.contents.number in
      let last = ap (λ (s : Store Set). s.changes) (store_push (empty_store limits) before e) in
      subst (λ h. (store_of limits h).changes ≡ length h) (append_assoc before (e ∷ []) es)
      (counts_after (before ++ e ∷ []) es legal.1 (omega (arith, number, last, is, length-append before (e ∷ []))))

  -- a store counts the changes of its history
  pub legal_counts : (h : GraphHistory) → GraphLegal limits h → (store_of limits h).changes ≡ length h
  legal_counts h legal = counts_after [] h legal refl

  module _ (old new : Store Set) (r : Request) (words : List ℕ) (draft : Option Preparation) (drafted : Option Drafted) (n : ℕ) (log : GraphHistory) where
    abbrev pub entry : Outcome → Entry (Store Set)
    entry o = record { author = n; request = r; words = words; draft = draft; answer = answer_in o; store = new }

    -- a call that left the count left the store
    nothing_did : (o : Outcome) → DoesBy drafted old r words o new → new.changes ≡ old.changes → new ≡ old
    nothing_did (outcome.Answered a) does same = ⊎_elim (λ c. let number = c.step.contents.number in absurd (omega (arith, number, same))) (λ t. t.0) does
    nothing_did (outcome.Refused e) does same = does.0
    nothing_did outcome.OutOfMemory does same = does

    -- one that moved the count made a change that may come next
    pub change_follows : (o : Outcome) → old ≡ store_of limits log → IsInBounds r → length words ≡ draws r → DraftFits limits log r draft drafted → DoesBy drafted old r words o new → new.changes ≢ old.changes → Follows limits log (entry o) × GoodStore new
    change_follows (outcome.Answered a) begins within drawn fits does moved =
        ⊎_elim
        (λ c. (
          record {
            in_bounds = within;
            words = drawn;
            unrefused = subst (λ (s : Store Set). store_refusal (plain s) r ≡ None) begins c.unrefused;
            drafted = drafted;
            draft = fits;
            step = subst (λ (s : Store Set). Step s r words a new drafted) begins c.step;
          },
          c.good,
        ))
        (λ t. absurd (moved (ap (λ (s : Store Set). s.changes) t.0)))
        does
    change_follows (outcome.Refused e) begins within drawn fits does moved = absurd (moved (ap (λ (s : Store Set). s.changes) does.0))
    change_follows outcome.OutOfMemory begins within drawn fits does moved = absurd (moved (ap (λ (s : Store Set). s.changes) does))

    quiet_call : (o : Outcome) → old ≡ store_of limits log → DoesBy drafted old r words o new → new.changes ≡ old.changes → GraphLegal limits log → (s : GraphHistory) → IsPrefix s log → own n log ≡ own n s → GraphCall limits n s r words o log
    quiet_call (outcome.Answered a) begins does same legal s p mine = record {
      goes_on = p;
      legal_before = legal_begin (Follows limits) s log p legal;
      legal = legal;
      outcome_is = ⊎_elim (λ c. let number = c.step.contents.number in absurd (omega (arith, number, same))) (λ t. inr (mine, subst (λ (x : Store Set). Answers x r words a) begins t.1)) does;
    }
    quiet_call (outcome.Refused e) begins does same legal s p mine = record {
      goes_on = p;
      legal_before = legal_begin (Follows limits) s log p legal;
      legal = legal;
      outcome_is = (mine, subst (λ (x : Store Set). store_refusal (plain x) r ≡ Some e) begins does.1);
    }
    quiet_call outcome.OutOfMemory begins does same legal s p mine = record {
      goes_on = p;
      legal_before = legal_begin (Follows limits) s log p legal;
      legal = legal;
      outcome_is = mine;
    }

    changing_call : (o : Outcome) → DoesBy drafted old r words o new → new.changes ≢ old.changes → GraphLegal limits log → GraphLegal limits (log ++ entry o ∷ []) → (s : GraphHistory) → IsPrefix s log → own n log ≡ own n s → IfSome draft (λ p. length s ≤ p.place)
        → GraphCall limits n s r words o (log ++ entry o ∷ [])
    changing_call (outcome.Answered a) does moved before legal s p mine later = record {
      goes_on = prefix_trans s log (log ++ entry (outcome.Answered a) ∷ []) p (prefix_push log (entry (outcome.Answered a)));
      legal_before = legal_begin (Follows limits) s log p before;
      legal = legal;
      outcome_is = inl (record {
        before = log;
        last = entry (outcome.Answered a);
        is_last = refl;
        author = refl;
        request = refl;
        drawn = refl;
        answer = refl;
        draft = later;
        others = mine;
      });
    }
    changing_call (outcome.Refused e) does moved before legal s p mine later = absurd (moved (ap (λ (s : Store Set). s.changes) does.0))
    changing_call outcome.OutOfMemory does moved before legal s p mine later = absurd (moved (ap (λ (s : Store Set). s.changes) does))

  good_push : (h : GraphHistory) (e : Entry (Store Set)) → GoodStore e.store → IsGoodThroughout h → IsGoodThroughout (h ++ e ∷ [])
  good_push h e good all = All-push (λ (x : Entry (Store Set)). GoodStore x.store) h e all good

  -- a hold in which the count stayed
  pub closed_quiet : (w : Work) (n : ℕ) (log mine : GraphHistory) → Did limits log w → w.new.changes ≡ w.old.changes → GraphLegal limits log → own n log ≡ mine → Closed limits n log w log mine
  closed_quiet w n log mine d same legal own_are =
      let still = nothing_did w.old w.new w.request w.words w.draft d.drafted n log w.outcome d.does same in record {
        legal = legal;
        ends = still ∙ d.begins;
        counts = ap (λ (s : Store Set). s.changes) (still ∙ d.begins) ∙ legal_counts log legal;
        own_are = own_are;
        good = λ g. g;
        call = λ s p own_s later. quiet_call w.old w.new w.request w.words w.draft d.drafted n log w.outcome d.begins d.does same legal s p own_s;
        grows = inl refl;
      }

  -- one more change is legal
  pub legal_next : (w : Work) (n : ℕ) (log : GraphHistory) → Did limits log w → w.new.changes ≢ w.old.changes → GraphLegal limits log → GraphLegal limits (log ++ entry_of n w ∷ [])
  legal_next w n log d moved legal =
      legal_push (Follows limits) log (entry_of n w) legal (change_follows w.old w.new w.request w.words w.draft d.drafted n log w.outcome d.begins d.in_bounds d.words d.draft d.does moved).0

  -- a hold in which the count moved
  pub closed_changed : (w : Work) (n : ℕ) (log mine : GraphHistory) → Did limits log w → w.new.changes ≢ w.old.changes → GraphLegal limits log → own n log ≡ mine → Closed limits n log w (log ++ entry_of n w ∷ []) (mine ++ entry_of n w ∷ [])
  closed_changed w n log mine d moved legal own_are =
      let e = entry_of n w in
      let after = legal_next w n log d moved legal in
      let last = store_push (empty_store limits) log e in record {
        legal = after;
        ends = sym last;
        counts = ap (λ (s : Store Set). s.changes) (sym last) ∙ legal_counts (log ++ e ∷ []) after;
        own_are = own-push-own n log e refl ∙ ap (λ l. l ++ e ∷ []) own_are;
        good = good_push log e (change_follows w.old w.new w.request w.words w.draft d.drafted n log w.outcome d.begins d.in_bounds d.words d.draft d.does moved).1;
        call = λ s p own_s later. changing_call w.old w.new w.request w.words w.draft d.drafted n log w.outcome d.does moved legal after s p own_s later;
        grows = inr refl;
      }

  -- ---- for those that stand on a hold

  -- a call that did its request at once, by beams in the store's own set
  pub does_at_once : (o : Outcome) (old new : Store Set) (r : Request) (words : List ℕ) → StoreDoes old r words o new → DoesBy None old r words o new
  does_at_once (outcome.Answered a) old new r words does = does
  does_at_once (outcome.Refused e) old new r words does = does
  does_at_once outcome.OutOfMemory old new r words does = does

  pub did_at_once : (o : Outcome) (old new : Store Set) (r : Request) (words : List ℕ) (log : GraphHistory) → old ≡ store_of limits log → IsInBounds r → length words ≡ draws r → StoreDoes old r words o new
      → Did limits log (record { old = old; request = r; words = words; draft = None; outcome = o; new = new })
  did_at_once o old new r words log begins within drawn does = record { begins = begins; in_bounds = within; words = drawn; drafted = None; draft = refl; does = does_at_once o old new r words does }

  -- a hold in which the pass only watched
  pub watches : (n : ℕ) (s log : GraphHistory) → IsPrefix s log → GraphLegal limits log → own n log ≡ own n s → Watches limits n s log
  watches n s log p legal mine = record { goes_on = p; legal_before = legal_begin (Follows limits) s log p legal; legal = legal; mine = mine }

  -- what holds of the entry of a hold, and of the history before it, holds of the change that its pass made
  pub of_its_change : (P : GraphHistory → Entry (Store Set) → Type 0) (w : Work) (n : ℕ) (s log t mine : GraphHistory) → Closed limits n log w t mine → IsPrefix s log → own n log ≡ own n s → P log (entry_of n w) → OfItsChange limits P n s t
  of_its_change P w n s log t mine closed p own_s holds before e is begins author = ⊎_elim
      (λ (same : t ≡ log).
      let more : own n log ≡ own n before ++ e ∷ [] = ap (own n) (sym same ∙ is) ∙ own-push-own n before e author in
      let rest = begins.0 in
      let grown : own n before ≡ own n s ++ own n rest = ap (own n) (sym begins.1) ∙ filter-append (λ x. x.author == n) s rest in
      let a = ap length more in let b = ap length grown in let c = ap length own_s in
      absurd (omega (arith, a, b, c, length-append (own n before) (e ∷ []), length-append (own n s) (own n rest))))
      (λ (grown : t ≡ log ++ entry_of n w ∷ []).
      let parts = same_from_push log before (entry_of n w) e (sym grown ∙ is) in
      subst (λ x. P before x) parts.1 (subst (λ h. P h (entry_of n w)) parts.0 holds))
      closed.grows
