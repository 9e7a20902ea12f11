-- For those that write tasks: what each kind of task did, and what its caller then knows, from the contract of the store's call alone.
use Rattle.std.proofs.Common.{◌≡◌, ◌≢◌, ℕ, ◌≤◌, Bool, true, false, true≢false, List, [], ◌∷◌, ◌++◌, length, Option, Some, None, refl, sym, ap, ◌∙◌, subst, arith, length-append}
use Rattle.std.specs.Prelude.{IsTrue, IsFalse, IfSome, cond, is_some, take}
use Rattle.std.proofs.lemmas.List.{take_all, take_at}
use Rattle.vs_defs.specs.Bounds.{IsInBounds}
use Rattle.vs_defs.specs.Memory.{needs_no_memory}
use Rattle.vs_defs.specs.Read.{draws}
use Rattle.vs_defs.specs.Request.{Request, Answer, Add, Search}
use Rattle.vs_defs.specs.Request as request
use Rattle.vs_defs.specs.Reply.{Outcome}
use Rattle.vs_defs.specs.Reply as outcome
use Rattle.vs_defs.specs.Stale.{stale}
use Rattle.vs_defs.specs.Store.{Store, Set, Limits, set_of, is_member, empty_store}
use Rattle.vs_defs.specs.History.{Entry, Preparation, IsPrefix}
use Rattle.vs_thread_defs.specs.Machine.{GraphHistory, GraphLegal, DraftFits, Follows, StoreDoes, store_of, store_at}
use Rattle.vs_thread_defs.specs.Interleaving.{can_draft_in, stale_from}
use Rattle.vs_thread_defs.specs.Core.{Looked, Drafting, IsDraftable}
use Rattle.vs_thread_defs.specs.Passes.{Watches, OfItsChange, NowCall, LookCall, DraftCall, CommitCall, commit_draft}
use Rattle.vs_thread_defs.specs.Passes as begun
use Rattle.vs_history.specs.Work.{Work, DoesBy}
use Rattle.vs_history.proofs.Beginnings.{prefix_push}
use Rattle.vs_history.proofs.Histories.{store_push, legal_begin}
use Rattle.vs_history.proofs.Calls.{did_at_once, of_its_change, legal_counts}
use Rattle.vs_pass.specs.Task.{Holding, Works, at_once, watching, is_stale, drafted_by, committing}

-- what follows from what its caller knows, the caller knows
pub knowing : (limits : Limits) (n : ℕ) (log : GraphHistory) (old new : Store Set) (w : Work) (P Q : GraphHistory → Type 0) → ((t : GraphHistory) → P t → Q t) → Works limits n log old new w P → Works limits n log old new w Q
knowing limits n log old new w P Q more works = record { old_is = works.old_is; new_is = works.new_is; did = works.did; closes = λ t mine closed. more t (works.closes t mine closed) }

module _ (limits : Limits) where
  pub at_the_end : (t : GraphHistory) → store_at limits t (length t) ≡ store_of limits t
  at_the_end t = ap (store_of limits) (take_all (length t) t (omega arith))

  pub at_a_beginning : (s log : GraphHistory) → IsPrefix s log → store_at limits log (length s) ≡ store_of limits s
  at_a_beginning s log p = ap (λ (h : GraphHistory). store_of limits (take (length s) h)) (sym p.1) ∙ ap (store_of limits) (take_at s p.0 (length s) refl)

  -- a change moves the count
  moves : (t before : GraphHistory) (e : Entry (Store Set)) → GraphLegal limits t → t ≡ before ++ e ∷ [] → e.store.changes ≢ (store_of limits before).changes
  moves t before e legal is same =
      let whole = subst (GraphLegal limits) is legal in
      let after = legal_counts limits (before ++ e ∷ []) whole in
      let sooner = legal_counts limits before (legal_begin (Follows limits) before (before ++ e ∷ []) (prefix_push before e) whole) in
      let last = ap (λ (x : Store Set). x.changes) (store_push (empty_store limits) before e) in
      omega (arith, after, sooner, last, same, length-append before (e ∷ []))

  module _ (n : ℕ) (s log : GraphHistory) (h : Holding limits n s log) where
    -- a request done at once
    pub now_works : (old new : Store Set) (r : Request) (words : List ℕ) (o : Outcome) → old ≡ store_of limits log → IsInBounds r → length words ≡ draws r → StoreDoes old r words o new → (needs_no_memory r ≡ true → o ≢ outcome.OutOfMemory)
        → Works limits n log old new (at_once old r words o new) (λ t. NowCall limits n s r words o t)
    now_works old new r words o begins within drawn does memory = record {
      old_is = refl;
      new_is = refl;
      did = did_at_once limits o old new r words log begins within drawn does;
      closes = λ t mine closed. record {
        call = closed.call s h.begins h.own_are tt;
        no_draft = of_its_change limits (λ before e. e.draft ≡ None) (at_once old r words o new) n s log t mine closed h.begins h.own_are refl;
        memory = memory;
      };
    }

    -- a task that only looks
    pub watching_works : (old : Store Set) (P : GraphHistory → Type 0) → old ≡ store_of limits log → ((t : GraphHistory) → Watches limits n s t → old ≡ store_of limits t → P t) → Works limits n log old old (watching old) P
    watching_works old P begins holds = record {
      old_is = refl;
      new_is = refl;
      did = record { begins = begins; in_bounds = tt; words = refl; drafted = None; draft = refl; does = refl };
      closes = λ t mine closed. let c = closed.call s h.begins h.own_are tt in holds t (record { goes_on = c.goes_on; legal_before = c.legal_before; legal = c.legal; mine = c.outcome_is }) closed.ends;
    }

    -- a search looks
    pub look_works : (old : Store Set) (search : Search) (looked : Looked) → old ≡ store_of limits log → looked.search ≡ search → looked.set ≡ set_of search.key old → Works limits n log old old (watching old) (λ t. LookCall limits n s search looked t)
    look_works old search looked begins search_is set_is =
        watching_works old (λ t. LookCall limits n s search looked t) begins (λ t watches ends. record {
          watches = watches;
          looked_at = record { before = omega arith; search_is = search_is; set_is = set_is ∙ ap (set_of search.key) (ends ∙ sym (at_the_end t)) };
        })

    -- an addition is drafted
    pub drafted_works : (old : Store Set) (add : Add) (drawn : ℕ) (d : Drafting) → old ≡ store_of limits log → d.add ≡ add → d.drawn ≡ drawn → set_of add.key old ≡ Some d.set → IsDraftable d.set add
        → Works limits n log old old (watching old) (λ t. DraftCall limits n s add drawn (begun.Drafted d) t)
    drafted_works old add drawn d begins add_is drawn_is set_is draftable =
        watching_works old (λ t. DraftCall limits n s add drawn (begun.Drafted d) t) begins (λ t watches ends. (
          watches,
          record { before = omega arith; add_is = add_is; drawn_is = drawn_is; set_is = ap (set_of add.key) (at_the_end t ∙ sym ends) ∙ set_is; draftable = draftable },
        ))

    -- only an answer moves the count
    answered : (old new : Store Set) (r : Request) (words : List ℕ) (o : Outcome) (P : Type 0) → StoreDoes old r words o new → ((a : Answer) → o ≡ outcome.Answered a → P) → new.changes ≢ old.changes → P
    answered old new r words (outcome.Answered a) P does holds moved = holds a refl
    answered old new r words (outcome.Refused e) P does holds moved = absurd (moved (ap (λ (x : Store Set). x.changes) does.0))
    answered old new r words outcome.OutOfMemory P does holds moved = absurd (moved (ap (λ (x : Store Set). x.changes) does))

    -- an addition that can't be drafted is done at once
    pub done_works : (old new : Store Set) (add : Add) (drawn : ℕ) (o : Outcome) → old ≡ store_of limits log → IsInBounds (request.Vadd add) → StoreDoes old (request.Vadd add) (drawn ∷ []) o new
        → ((a : Answer) → o ≡ outcome.Answered a → can_draft_in add (set_of add.key old) ≡ false)
        → Works limits n log old new (at_once old (request.Vadd add) (drawn ∷ []) o new) (λ t. DraftCall limits n s add drawn (begun.Done o) t)
    done_works old new add drawn o begins within does direct =
        let w = at_once old (request.Vadd add) (drawn ∷ []) o new in
        let now = now_works old new (request.Vadd add) (drawn ∷ []) o begins within refl does (λ e. absurd (true≢false (sym e))) in
        let P : GraphHistory → Entry (Store Set) → Type 0 = λ before e. e.store.changes ≢ (store_of limits before).changes → can_draft_in add (set_of add.key (store_of limits before)) ≡ false in record {
          old_is = refl;
          new_is = refl;
          did = now.did;
          closes = λ t mine closed. record {
            now = now.closes t mine closed;
            only_direct = λ before e is begins_ author.
                of_its_change limits P w n s log t mine closed h.begins h.own_are
                (subst (λ (x : Store Set). new.changes ≢ x.changes → can_draft_in add (set_of add.key x) ≡ false) begins (answered old new (request.Vadd add) (drawn ∷ []) o _ does direct))
                before e is begins_ author (moves t before e closed.legal is);
          };
        }

    -- a draft that was made at the end of s in the set was is committed, or done again where it is stale
    pub commit_works : (old new : Store Set) (add : Add) (drawn : ℕ) (p : Preparation) (was : Set) (o : Outcome) → old ≡ store_of limits log → IsInBounds (request.Vadd add) → p.place ≡ length s → set_of add.key (store_of limits s) ≡ Some was
        → IsTrue add.cas → IsFalse (is_member add.name was.contents.members) → DoesBy (drafted_by add p was old) old (request.Vadd add) (drawn ∷ []) o new
        → Works limits n log old new (committing add p was old drawn o new) (λ t. CommitCall limits n s add drawn p o t)
    commit_works old new add drawn p was o begins within place set_is cas absent does = record {
      old_is = refl;
      new_is = refl;
      did = record { begins = begins; in_bounds = within; words = refl; drafted = drafted_by add p was old; draft = fits (stale add p.chosen was (set_of add.key old)) refl; does = does };
      closes = λ t mine closed. record {
        call = closed.call s h.begins h.own_are (later (is_stale add p was old));
        draft = of_its_change limits (λ before e. e.draft ≡ commit_draft limits add p before) w n s log t mine closed h.begins h.own_are
            (ap (λ (x : Store Set). cond (is_some (stale add p.chosen was (set_of add.key x))) None (Some p)) begins
            ∙ ap (λ (x : Option Set). cond (is_some (stale_from add p.chosen x (set_of add.key (store_of limits log)))) None (Some p)) (sym set_there));
      };
    }
      where
        w : Work
        w = committing add p was old drawn o new

        set_there : set_of add.key (store_at limits log p.place) ≡ Some was
        set_there = ap (λ (k : ℕ). set_of add.key (store_at limits log k)) place ∙ ap (set_of add.key) (at_a_beginning s log h.begins) ∙ set_is

        there : p.place ≤ length log
        there = omega (arith, place, sym (ap length h.begins.1) ∙ length-append s h.begins.0)

        fits : (v : Option (ℕ × Bool)) → stale add p.chosen was (set_of add.key old) ≡ v → DraftFits limits log (request.Vadd add) (cond (is_some v) None (Some p)) (cond (is_some v) None (Some (was, p.chosen)))
        fits (Some why) is = refl
        fits None is = (was, refl, record { add = add; is_add = refl; cas = cas; place = there; set = set_there; was_absent = absent; stands = ap (λ (x : Store Set). stale add p.chosen was (set_of add.key x)) (sym begins) ∙ is })

        later : (b : Bool) → IfSome (cond b None (Some p)) (λ q. length s ≤ q.place)
        later true = tt
        later false = omega (arith, place)
