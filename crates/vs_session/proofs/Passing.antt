-- What a pass's calls make of a request: each way is one call of the machine, at the list that the pass has seen then.
use Rattle.std.proofs.Common.{◌≡◌, ◌≢◌, ◌⊎◌, ℕ, ◌≤◌, inl, inr, true, List, [], ◌∷◌, ◌++◌, length, Option, Some, None, Result, Ok, Err, refl, sym, ap, ◌∙◌, subst, arith, append_assoc, append-nil}
use Rattle.std.specs.Prelude.{IfSome}
use Rattle.vs_defs.specs.Answers.{Answers, FindsOf}
use Rattle.vs_defs.specs.Memory.{needs_no_memory}
use Rattle.vs_defs.specs.Read.{draws}
use Rattle.vs_defs.specs.Reply.{Outcome}
use Rattle.vs_defs.specs.Reply as outcome
use Rattle.vs_defs.specs.Request as request
use Rattle.vs_defs.specs.Request.{Request, Add, Search}
use Rattle.vs_defs.specs.Refuse.{store_refusal}
use Rattle.vs_defs.specs.Step.{Step}
use Rattle.vs_defs.specs.Store.{Store, Set, Limits, set_of, plain, empty_store}
use Rattle.vs_defs.specs.History.{Entry, Preparation, LegalAfter, own}
use Rattle.vs_defs.specs.History as history
use Rattle.vs_session_defs.specs.Words.{drawn, after_draws}
use Rattle.vs_pass.specs.Knower.{Knower}
use Rattle.vs_thread_defs.specs.Core as core
use Rattle.vs_thread_defs.specs.Core.{DraftedAt}
use Rattle.vs_thread_defs.specs.Machine.{GraphHistory, GraphLegal, GraphCall, Follows, store_of, store_at}
use Rattle.vs_thread_defs.specs.Passes.{Watches, CommitCall, DoneAtOnce}
use Rattle.vs_command.specs.declared.answer.Answer.{Answer}
use Rattle.vs_command.specs.declared.refusal.Refusal.{Refusal}
use Rattle.vs_command.specs.Answers.{answer_of}
use Rattle.vs_command.specs.declared.refusal.Refusal.TheVariants.{NoMemory}
use Rattle.vs_command.specs.Outcomes.{outcome_of, refused_by}
use Rattle.vs_command.specs.Refusals.{refusal_of}
use Rattle.vs_reply.specs.Replies.{short_of}
use Rattle.vs_history.proofs.Beginnings.{prefix_self, prefix_trans, prefix_length}
use Rattle.vs_pass.proofs.Tasks.{at_the_end}
use Rattle.vs_store.specs.Drafts.{IsPrepared}
use Rattle.vs_shared.specs.declared.begun.Begun.{Begun}
use Rattle.vs_shared.specs.declared.begun.Begun.TheVariants.{Drafted, Done}
use Rattle.vs_shared.specs.Calls.{HasCas, LooksUnrefused, DraftAnswers, IsReadyAfter}
use Rattle.vs_session.specs.Shared.{CallsShared}
use Rattle.vs_session.proofs.Changes.{step_is_short, brief_is_short}

-- ---- the last change of a legal history

last_follows : (limits : Limits) (pre before : GraphHistory) (e : Entry (Store Set)) → LegalAfter (Follows limits) pre (before ++ e ∷ []) → Follows limits (pre ++ before) e
last_follows limits pre [] e l = subst (λ (h : GraphHistory). Follows limits h e) (sym (append-nil pre)) l.0
last_follows limits pre (x ∷ xs) e l = subst (λ (h : GraphHistory). Follows limits h e) (append_assoc pre (x ∷ []) xs) (last_follows limits (pre ++ x ∷ []) xs e l.1)

-- an addition with CAS is an addition
pub cas_add : (r : Request) → HasCas r → (add : Add) × (r ≡ request.Vadd add)
cas_add (request.Vadd add) c = (add, refl)
cas_add (request.Ping text) c = absurd c
cas_add request.Quit c = absurd c
cas_add (request.Del keys) c = absurd c
cas_add (request.Exists keys) c = absurd c
cas_add (request.Vrem key name) c = absurd c
cas_add (request.Vsim search) c = absurd c
cas_add (request.Vcard key) c = absurd c
cas_add (request.Vdim key) c = absurd c
cas_add (request.Vemb key name) c = absurd c
cas_add (request.Vlinks key name scores) c = absurd c
cas_add (request.Vinfo key) c = absurd c
cas_add (request.Vgetattr key name) c = absurd c
cas_add (request.Vsetattr key name text) c = absurd c
cas_add (request.Vrandmember key n) c = absurd c
cas_add (request.Vismember key name) c = absurd c

later : (d : Option Preparation) (n m : ℕ) → n ≤ m → IfSome d (λ p. m ≤ p.place) → IfSome d (λ p. n ≤ p.place)
later None n m le h = tt
later (Some p) n m le h = omega (arith, le, h)

module _ (limits : Limits) (k : ℕ) where
  -- ---- memory

  pub starved : (s : GraphHistory) (r : Request) (words : List ℕ) → GraphLegal limits s → GraphCall limits k s r words outcome.OutOfMemory s
  starved s r words legal = record { goes_on = prefix_self s; legal_before = legal; legal = legal; outcome_is = refl }

  -- there was no memory for the words, or for a slot
  pub unworded : (old new : Knower) (r : Request) (e : Refusal) → e ≡ NoMemory → 1 ≤ draws r → new.number ≡ old.number → new.seen ≡ old.seen → new.stream ≡ old.stream
      → GraphCall limits new.number new.seen r (drawn (draws r) old.stream) outcome.OutOfMemory new.seen → CallsShared limits old r (refused_by (refusal_of e)) new
  unworded old new r e want some number seen stream call = record {
    call = subst (λ (x : Refusal). GraphCall limits old.number old.seen r (drawn (draws r) old.stream) (refused_by (refusal_of x)) new.seen) (sym want)
        (subst (λ (n : ℕ). GraphCall limits n old.seen r (drawn (draws r) old.stream) outcome.OutOfMemory new.seen) number
        (subst (λ (h : GraphHistory). GraphCall limits new.number h r (drawn (draws r) old.stream) outcome.OutOfMemory new.seen) seen call));
    stream = inr (record { some = some; outcome_is = ap (λ (x : Refusal). refused_by (refusal_of x)) want; seen = seen; stream = stream });
    number = number;
  }

  pub unslotted : (old new : Knower) (r : Request) (e : Refusal) → e ≡ NoMemory → new.number ≡ old.number → new.seen ≡ old.seen → new.stream ≡ after_draws (draws r) old.stream
      → GraphCall limits new.number new.seen r (drawn (draws r) old.stream) outcome.OutOfMemory new.seen → CallsShared limits old r (refused_by (refusal_of e)) new
  unslotted old new r e want number seen stream call = record {
    call = subst (λ (x : Refusal). GraphCall limits old.number old.seen r (drawn (draws r) old.stream) (refused_by (refusal_of x)) new.seen) (sym want)
        (subst (λ (n : ℕ). GraphCall limits n old.seen r (drawn (draws r) old.stream) outcome.OutOfMemory new.seen) number
        (subst (λ (h : GraphHistory). GraphCall limits new.number h r (drawn (draws r) old.stream) outcome.OutOfMemory new.seen) seen call));
    stream = inl stream;
    number = number;
  }

  pub watching_starved : (s t : GraphHistory) (r : Request) (words : List ℕ) → Watches limits k s t → GraphCall limits k s r words outcome.OutOfMemory t
  watching_starved s t r words w = record { goes_on = w.goes_on; legal_before = w.legal_before; legal = w.legal; outcome_is = w.mine }

  -- an accepted change has a short reply
  abbrev Changed : (s t : GraphHistory) → Request → List ℕ → request.Answer → Type 0
  Changed s t r words a = history.Accepts (empty_store limits) (Follows limits) Answers (λ x q. store_refusal (plain x) q) k s r words a t

  change_is_short : (s t : GraphHistory) (r : Request) (words : List ℕ) (a : Answer) → GraphLegal limits t → Changed s t r words (answer_of a) → short_of (Ok a) ≡ None → ⊥
  change_is_short s t r words a legal c long =
      let f = last_follows limits [] c.before c.last (subst (GraphLegal limits) c.is_last legal) in
      step_is_short (store_of limits c.before) c.last.request c.last.words c.last.store f.drafted a
      (subst (λ (x : request.Answer). Step (store_of limits c.before) c.last.request c.last.words x c.last.store f.drafted) c.answer f.step) long

  -- so an answer that memory is refused for may be replaced
  quiet : (s t : GraphHistory) (r : Request) (words : List ℕ) (result : Result Answer Refusal) → GraphCall limits k s r words (outcome_of result) t → short_of result ≡ None → own k t ≡ own k s
  quiet s t r words (Ok a) c long = by_way c.outcome_is where
    by_way : Changed s t r words (answer_of a) ⊎ ((own k t ≡ own k s) × Answers (store_of limits t) r words (answer_of a)) → own k t ≡ own k s
    by_way (inl d) = absurd (change_is_short s t r words a c.legal d long)
    by_way (inr d) = d.0
  quiet s t r words (Err e) c long = absurd (cc)

  pub long_call : (s t : GraphHistory) (r : Request) (words : List ℕ) (result : Result Answer Refusal) → GraphCall limits k s r words (outcome_of result) t → short_of result ≡ None
      → GraphCall limits k s r words outcome.OutOfMemory t
  long_call s t r words result c long = record { goes_on = c.goes_on; legal_before = c.legal_before; legal = c.legal; outcome_is = quiet s t r words result c long }

  -- a request that needs no memory has a short reply
  pub short_call : (s t : GraphHistory) (r : Request) (words : List ℕ) (result : Result Answer Refusal) → GraphCall limits k s r words (outcome_of result) t → needs_no_memory r ≡ true → short_of result ≢ None
  short_call s t r words (Ok a) c none long = by_way c.outcome_is where
    by_way : Changed s t r words (answer_of a) ⊎ ((own k t ≡ own k s) × Answers (store_of limits t) r words (answer_of a)) → ⊥
    by_way (inl d) = change_is_short s t r words a c.legal d long
    by_way (inr d) = brief_is_short (store_of limits t) r words a none d.1.answer_is long
  short_call s t r words (Err e) c none long = cc

  -- ---- a search that is answered in the set at its look

  pub found : (s t : GraphHistory) (search : Search) (looked : core.Looked) (a : request.Answer) → LooksUnrefused limits k s search looked t → FindsOf looked.search looked.set a
      → GraphCall limits k s (request.Vsim search) [] (outcome.Answered a) t
  found s t search looked a look finds =
      let w = look.0.watches in
      let at = look.0.looked_at in
      let set_is : looked.set ≡ set_of search.key (store_of limits t) = at.set_is ∙ ap (set_of search.key) (at_the_end limits t) in record {
        goes_on = w.goes_on;
        legal_before = w.legal_before;
        legal = w.legal;
        outcome_is = inr (
          w.mine,
          record {
            unrefused = look.1;
            changes_nothing = refl;
            answer_is = subst (λ (x : Option Set). FindsOf search x a) set_is (subst (λ (q : Search). FindsOf q looked.set a) at.search_is finds);
          },
        );
      }

  -- ---- an addition with CAS

  -- what was drafted at the end of m and prepared since may be committed
  pub ready_after : (m : GraphHistory) (add : Add) (drawn : ℕ) (d : core.Drafting) (ready : core.Ready) → DraftedAt limits m add drawn (length m) d → IsPrepared d ready → IsReadyAfter limits m ready
  ready_after m add drawn d ready at prepared = record {
    before = omega arith;
    add_is = refl;
    drawn_is = refl;
    set = d.set;
    set_is = ap (λ (x : Add). set_of x.key (store_at limits m (length m))) (prepared.add ∙ at.add_is) ∙ at.set_is;
    draftable = prepared.was.draftable;
    cut_is = prepared.was.cut;
    level_is = prepared.was.level;
    chosen_are = refl;
    are_chosen = prepared.was.chosen;
    have_bits = prepared.was.bits;
  }

  -- a draft and its commit are one call, from the list that was seen before the draft
  pub committed : (s m t : GraphHistory) (add : Add) (drawn : ℕ) (p : Preparation) (o : Outcome) → Watches limits k s m → CommitCall limits k m add drawn p o t → GraphCall limits k s (request.Vadd add) (drawn ∷ []) o t
  committed s m t add drawn p o w c = record {
    goes_on = prefix_trans s m t w.goes_on c.call.goes_on;
    legal_before = w.legal_before;
    legal = c.call.legal;
    outcome_is = by_outcome o c.call.outcome_is;
  }
    where
      Way : GraphHistory → Outcome → Type 0
      Way x q = history.OutcomeAt (empty_store limits) (Follows limits) Answers (λ y e. store_refusal (plain y) e) k x (request.Vadd add) (drawn ∷ []) q t

      by_outcome : (q : Outcome) → Way m q → Way s q
      by_outcome (outcome.Answered a) (inl d) = inl (record {
        before = d.before;
        last = d.last;
        is_last = d.is_last;
        author = d.author;
        request = d.request;
        drawn = d.drawn;
        answer = d.answer;
        draft = later d.last.draft (length s) (length m) (prefix_length s m w.goes_on) d.draft;
        others = d.others ∙ w.mine;
      })
      by_outcome (outcome.Answered a) (inr d) = inr (d.0 ∙ w.mine, d.1)
      by_outcome (outcome.Refused e) d = (d.0 ∙ w.mine, d.1)
      by_outcome outcome.OutOfMemory d = d ∙ w.mine

  -- the same, of a request and a result that are told apart
  pub committed_as : (n : ℕ) (s m t : GraphHistory) (r : Request) (add : Add) (drawn : ℕ) (p : Preparation) (result done : Result Answer Refusal) → n ≡ k → r ≡ request.Vadd add → result ≡ done → Watches limits k s m
      → CommitCall limits n m add drawn p (outcome_of done) t → GraphCall limits k s r (drawn ∷ []) (outcome_of result) t
  committed_as n s m t r add drawn p result done number is same w c =
      subst (λ (q : Request). GraphCall limits k s q (drawn ∷ []) (outcome_of result) t) (sym is)
      (subst (λ (x : Result Answer Refusal). GraphCall limits k s (request.Vadd add) (drawn ∷ []) (outcome_of x) t) (sym same)
      (committed s m t add drawn p (outcome_of done) w (subst (λ (j : ℕ). CommitCall limits j m add drawn p (outcome_of done) t) number c)))

  -- an addition that was done at once, or refused
  pub at_once : (r : Request) (add : Add) → r ≡ request.Vadd add → (drawn : ℕ) (s t : GraphHistory) (result done : Result Answer Refusal) → result ≡ done → DoneAtOnce limits k s add drawn (outcome_of done) t
      → GraphCall limits k s r (drawn ∷ []) (outcome_of result) t
  at_once r add is drawn s t result done same d =
      subst (λ (q : Request). GraphCall limits k s q (drawn ∷ []) (outcome_of result) t) (sym is)
      (subst (λ (x : Result Answer Refusal). GraphCall limits k s (request.Vadd add) (drawn ∷ []) (outcome_of x) t) (sym same) d.now.call)

  -- what was begun, by which it was
  pub was_drafted : (add : Add) (drawn : ℕ) (s t : GraphHistory) (b : Begun) (d : core.Drafting) → b ≡ Drafted d → DraftAnswers limits k s add drawn (Ok b) t → Watches limits k s t × DraftedAt limits t add drawn (length t) d
  was_drafted add drawn s t b d is answers = subst (λ (x : Begun). DraftAnswers limits k s add drawn (Ok x) t) is answers

  pub was_done : (add : Add) (drawn : ℕ) (s t : GraphHistory) (b : Begun) (a : Answer) → b ≡ Done a → DraftAnswers limits k s add drawn (Ok b) t → DoneAtOnce limits k s add drawn (outcome.Answered (answer_of a)) t
  was_done add drawn s t b a is answers = subst (λ (x : Begun). DraftAnswers limits k s add drawn (Ok x) t) is answers
