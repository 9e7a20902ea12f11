-- What each task did, and what its caller then knows, from what the store's calls ensure.
use Rattle.std.proofs.Common.{◌≡◌, ◌≢◌, ℕ, Bool, true, false, true≢false, cond, List, [], ◌∷◌, length, Option, Some, None, Result, Ok, Err, refl, sym, subst}
use Rattle.std.specs.Prelude.{IfOk, IfErr, IfSome, IsOkAnd, MatchResult, is_some}
use Rattle.vs_defs.specs.Bounds.{IsInBounds, IsSearchInBounds, IsAddInBounds}
use Rattle.vs_defs.specs.Memory.{needs_no_memory}
use Rattle.vs_defs.specs.Read.{draws}
use Rattle.vs_defs.specs.Refuse.{store_refusal}
use Rattle.vs_defs.specs.Request as request
use Rattle.vs_defs.specs.Request.{Request, Add, Search}
use Rattle.vs_defs.specs.Reply as outcome
use Rattle.vs_defs.specs.Reply.{Outcome}
use Rattle.vs_defs.specs.Stale.{stale_by}
use Rattle.vs_defs.specs.Step.{Drafted as DraftedIn}
use Rattle.vs_defs.specs.Store.{Store, Set, Limits, set_of, plain}
use Rattle.vs_thread_defs.specs.Core as core
use Rattle.vs_thread_defs.specs.Core.{IsDraftable, names_down}
use Rattle.vs_thread_defs.specs.Interleaving.{can_draft_in}
use Rattle.vs_thread_defs.specs.Machine.{GraphHistory, StoreDoes, store_of}
use Rattle.vs_thread_defs.specs.Passes as begun
use Rattle.vs_thread_defs.specs.Passes.{NowCall, DraftCall, CommitCall}
use Rattle.vs_command.specs.declared.answer.Answer.{Answer}
use Rattle.vs_command.specs.declared.refusal.Refusal.{Refusal}
use Rattle.vs_command.specs.declared.refusal.Refusal.TheVariants.{NoMemory}
use Rattle.vs_command.specs.Answers.{answer_of}
use Rattle.vs_command.specs.Outcomes.{outcome_of, refused_by}
use Rattle.vs_command.specs.Refusals.{refusal_of}
use Rattle.vs_command.specs.Scores.{HasScores}
use Rattle.vs_history.specs.Work.{DoesBy}
use Rattle.vs_pass.specs.Task.{Holding, Works, at_once, watching}
use Rattle.vs_pass.proofs.Tasks.{knowing, now_works, drafted_works, done_works, commit_works}
use Rattle.vs_shared.specs.declared.begun.Begun.{Begun}
use Rattle.vs_shared.specs.declared.begun.Begun.TheVariants.{Drafted, Done}
use Rattle.vs_shared.specs.Calls.{LookAnswers, DraftAnswers, BegunHasScores, IsReadyAfter, prepared_after}
use Rattle.vs_shared.specs.Done.{look_work, draft_work, CommitsReady}
use Rattle.vs_shared.proofs.Committing.{was_ready, was_there}
use Rattle.vs_shared.proofs.Looking.{looks}
use Rattle.vs_shared.proofs.Wanting.{out_of_memory}

-- ---- calls of the store

-- a refusal that left the store as it was
refused_does : (old : Store Set) (r : Request) (words : List ℕ) (cause : Option request.Refusal) → IfSome cause (λ c. store_refusal (plain old) r ≡ Some c) → StoreDoes old r words (refused_by cause) old
refused_does old r words None h = refl
refused_does old r words (Some c) h = (refl, h)

pub refused_by_draft : (d : Option DraftedIn) (old new : Store Set) (r : Request) (words : List ℕ) (cause : Option request.Refusal) → new ≡ old → IfSome cause (λ c. store_refusal (plain old) r ≡ Some c) → DoesBy d old r words (refused_by cause) new
refused_by_draft d old new r words None same h = same
refused_by_draft d old new r words (Some c) same h = (same, h)

-- a request done by beams in the store's own set
by_no_draft : (old new : Store Set) (r : Request) (words : List ℕ) (o : Outcome) → StoreDoes old r words o new → DoesBy None old r words o new
by_no_draft old new r words (outcome.Answered a) does = does
by_no_draft old new r words (outcome.Refused e) does = does
by_no_draft old new r words outcome.OutOfMemory does = does

-- no refusal answers
no_answer : (cause : Option request.Refusal) (a : request.Answer) → refused_by cause ≢ outcome.Answered a
no_answer None a is = cc
no_answer (Some c) a is = cc

pub none_of : {A : Type 0} (o : Option A) → is_some o ≡ false → o ≡ None
none_of None h = refl
none_of (Some x) h = absurd (true≢false h)

-- ---- tasks

module _ (limits : Limits) (n : ℕ) (s log : GraphHistory) (held : Holding limits n s log) (old : Store Set) (ends : old ≡ store_of limits log) where
  pub now_done : (new : Store Set) (r : Request) (words : List ℕ) (result : Result Answer Refusal) → IsInBounds r → length words ≡ draws r → StoreDoes old r words (outcome_of result) new
      → (needs_no_memory r ≡ true → result ≢ Err NoMemory) → IfOk result HasScores
      → Works limits n log old new (at_once old r words (outcome_of result) new) (λ t. NowCall limits n s r words (outcome_of result) t × IfOk result HasScores)
  now_done new r words result within drawn does memory scores =
      let o = outcome_of result in
      knowing limits n log old new (at_once old r words o new) (λ t. NowCall limits n s r words o t) (λ t. NowCall limits n s r words o t × IfOk result HasScores) (λ t call. (call, scores))
      (now_works limits n s log held old new r words o ends within drawn does (λ needs is. memory needs (out_of_memory result is)))

  pub look_done : (search : Search) (result : Result core.Looked Refusal) → IsSearchInBounds search → IfOk result (λ l. l.search ≡ search) → IfOk result (λ l. l.set ≡ set_of search.key old)
      → IfOk result (λ l. store_refusal (plain old) (request.Vsim search) ≡ None) → IfErr result (λ e. IfSome (refusal_of e) (λ cause. store_refusal (plain old) (request.Vsim search) ≡ Some cause))
      → Works limits n log old old (look_work old search result old) (λ t. LookAnswers limits n s search result t)
  look_done search (Ok looked) within search_is set_is unrefused refused = looks limits n s log held old search looked ends search_is set_is unrefused
  look_done search (Err e) within search_is set_is unrefused refused =
      now_works limits n s log held old old (request.Vsim search) [] (refused_by (refusal_of e)) ends within refl (refused_does old (request.Vsim search) [] (refusal_of e) refused) (λ needs. absurd (true≢false (sym needs)))

  module _ (add : Add) (drawn : ℕ) (within : IsAddInBounds add) where
    abbrev Drafts : Store Set → Result Begun Refusal → Type 0
    Drafts new result = Works limits n log old new (draft_work old add drawn result new) (λ t. DraftAnswers limits n s add drawn result t × IfOk result BegunHasScores)

    pub draft_begun : (d : core.Drafting) → d.add ≡ add → d.drawn ≡ drawn → set_of add.key old ≡ Some d.set → IsDraftable d.set d.add → Drafts old (Ok (Drafted d))
    draft_begun d add_is drawn_is set_is draftable =
        knowing limits n log old old (watching old) (λ t. DraftCall limits n s add drawn (begun.Drafted d) t) (λ t. DraftAnswers limits n s add drawn (Ok (Drafted d)) t × IfOk {E = Refusal} (Ok (Drafted d)) BegunHasScores) (λ t call. (call, tt))
        (drafted_works limits n s log held old add drawn d ends add_is drawn_is set_is (subst (IsDraftable d.set) add_is draftable))

    pub draft_done : (new : Store Set) (a : Answer) → can_draft_in add (set_of add.key old) ≡ false → StoreDoes old (request.Vadd add) (drawn ∷ []) (outcome.Answered (answer_of a)) new → HasScores a → Drafts new (Ok (Done a))
    draft_done new a direct does scores =
        let o = outcome.Answered (answer_of a) in
        knowing limits n log old new (at_once old (request.Vadd add) (drawn ∷ []) o new) (λ t. DraftCall limits n s add drawn (begun.Done o) t) (λ t. DraftAnswers limits n s add drawn (Ok (Done a)) t × IfOk {E = Refusal} (Ok (Done a)) BegunHasScores) (λ t call. (call, scores))
        (done_works limits n s log held old new add drawn o ends within does (λ b is. direct))

    pub draft_refused : (new : Store Set) (e : Refusal) → StoreDoes old (request.Vadd add) (drawn ∷ []) (refused_by (refusal_of e)) new → Drafts new (Err e)
    draft_refused new e does =
        let o = refused_by (refusal_of e) in
        knowing limits n log old new (at_once old (request.Vadd add) (drawn ∷ []) o new) (λ t. DraftCall limits n s add drawn (begun.Done o) t) (λ t. DraftAnswers limits n s add drawn (Err e) t × IfOk {T = Begun} (Err e) BegunHasScores) (λ t call. (call, tt))
        (done_works limits n s log held old new add drawn o ends within does (λ b is. absurd (no_answer (refusal_of e) b is)))

    pub drafted_by : (result : Result core.Drafting Refusal) (output : Result Begun Refusal) → MatchResult result (λ d. IsOkAnd output (λ b. b ≡ Drafted d)) (λ e. output ≡ Err e) → IfOk result (λ d. d.add ≡ add) → IfOk result (λ d. d.drawn ≡ drawn)
        → IfOk result (λ d. set_of add.key old ≡ Some d.set) → IfOk result (λ d. IsDraftable d.set d.add) → IfErr result (λ e. IfSome (refusal_of e) (λ cause. store_refusal (plain old) (request.Vadd add) ≡ Some cause))
        → Drafts old output
    drafted_by (Ok d) (Ok b) is add_is drawn_is set_is draftable refused = subst (λ (x : Begun). Drafts old (Ok x)) (sym is) (draft_begun d add_is drawn_is set_is draftable)
    drafted_by (Ok d) (Err e) is add_is drawn_is set_is draftable refused = absurd is
    drafted_by (Err e) output is add_is drawn_is set_is draftable refused =
        subst (Drafts old) (sym is) (draft_refused old e (refused_does old (request.Vadd add) (drawn ∷ []) (refusal_of e) refused))

    pub done_by : (new : Store Set) (result : Result Answer Refusal) (output : Result Begun Refusal) → MatchResult result (λ a. IsOkAnd output (λ b. b ≡ Done a)) (λ e. output ≡ Err e) → can_draft_in add (set_of add.key old) ≡ false
        → StoreDoes old (request.Vadd add) (drawn ∷ []) (outcome_of result) new → IfOk result HasScores → Drafts new output
    done_by new (Ok a) (Ok b) is direct does scores = subst (λ (x : Begun). Drafts new (Ok x)) (sym is) (draft_done new a direct does scores)
    done_by new (Ok a) (Err e) is direct does scores = absurd is
    done_by new (Err e) output is direct does scores = subst (Drafts new) (sym is) (draft_refused new e does)

  module _ (known : ℕ) (counts : known ≡ length s) (ready : core.Ready) (at : IsReadyAfter limits s ready) (within : IsAddInBounds ready.add) (new : Store Set) (result : Result Answer Refusal) (scores : IfOk result HasScores) where
    abbrev is_stale : ℕ → Bool
    is_stale cut = is_some (stale_by cut ready.add.name (set_of ready.add.key old))

    abbrev Commits : ℕ → ℕ → Type 0
    Commits cut place =
        Works limits n log old new (record {
          old = old;
          request = request.Vadd ready.add;
          words = ready.drawn ∷ [];
          draft = cond (is_stale cut) None (Some (record { place = place; chosen = names_down ready.chosen }));
          outcome = outcome_of result;
          new = new;
        })
        (λ t. CommitCall limits n s ready.add ready.drawn (prepared_after s ready) (outcome_of result) t × IfOk result HasScores)

    abbrev DoesAt : ℕ → Type 0
    DoesAt cut = DoesBy (cond (is_stale cut) None (Some (at.set, names_down ready.chosen))) old (request.Vadd ready.add) (ready.drawn ∷ []) (outcome_of result) new

    committed : DoesAt ready.cut → Commits ready.cut known
    committed does =
        let o = outcome_of result in
        let p = prepared_after s ready in
        subst (λ place. Commits ready.cut place) (sym counts)
        (subst (λ cut. Commits cut (length s)) (sym at.cut_is)
        (knowing limits n log old new _ (λ t. CommitCall limits n s ready.add ready.drawn p o t) (λ t. CommitCall limits n s ready.add ready.drawn p o t × IfOk result HasScores) (λ t call. (call, scores))
        (commit_works limits n s log held old new ready.add ready.drawn p at.set o ends within refl (was_there limits s ready at) at.draftable.cas at.draftable.absent
        (subst DoesAt at.cut_is does))))

    pub commit_done : stale_by ready.cut ready.add.name (set_of ready.add.key old) ≡ None → CommitsReady ready old (outcome_of result) new → Commits ready.cut known
    commit_done fresh commits =
        committed (subst (λ v. DoesBy (cond (is_some v) None (Some (at.set, names_down ready.chosen))) old (request.Vadd ready.add) (ready.drawn ∷ []) (outcome_of result) new) (sym fresh)
        (commits at.set (was_ready limits s ready at)))

    pub commit_redone : is_stale ready.cut ≡ true → StoreDoes old (request.Vadd ready.add) (ready.drawn ∷ []) (outcome_of result) new → Commits ready.cut known
    commit_redone stale does =
        committed (subst (λ b. DoesBy (cond b None (Some (at.set, names_down ready.chosen))) old (request.Vadd ready.add) (ready.drawn ∷ []) (outcome_of result) new) (sym stale)
        (by_no_draft old new (request.Vadd ready.add) (ready.drawn ∷ []) (outcome_of result) does))
