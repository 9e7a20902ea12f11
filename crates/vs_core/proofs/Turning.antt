-- What a call of the store did, as the turn of its actor.
--     unsuited        an actor that is at something else than the event needs
--     done            a request that was done
--     looked, look_refused, finished, finish_starved
--     redone, committed, commit_refused, may_commit
--     direct, drafted, draft_refused, prepared, prepare_starved
use Rattle.std.proofs.Common.{◌≡◌, ◌⊎◌, ℕ, zero, suc, List, [], ◌∷◌, ◌++◌, length, refl, sym, ap, subst, ◌∙◌, arith, inl, inr}
use Rattle.std.specs.Prelude.{Option, Some, None, Bool, true, false, IfSome, MatchOption, MatchBool, All, slice_get, slice_set}
use Rattle.std.proofs.lemmas.Bool.{false≢true}
use Rattle.std.proofs.Common.{true≢false}
use Rattle.std.proofs.lemmas.List.{take_all}
use Rattle.std.proofs.lemmas.Option.{none-some}
use Rattle.vs_defs.specs.Answers.{Answers, FindsOf}
use Rattle.vs_defs.specs.Bytes.{Bytes}
use Rattle.vs_defs.specs.Bounds.{IsInBounds, IsAddInBounds}
use Rattle.vs_defs.specs.Draws.{level_of}
use Rattle.vs_defs.specs.History.{Entry, Preparation, IsPrefix}
use Rattle.vs_defs.specs.Insertion.{IsChosen}
use Rattle.vs_defs.specs.Read.{draws}
use Rattle.vs_defs.specs.Refuse.{store_refusal}
use Rattle.vs_defs.specs.Reply as outcome
use Rattle.vs_defs.specs.Reply.{Outcome}
use Rattle.vs_defs.specs.Request as request
use Rattle.vs_defs.specs.Request.{Request, Answer, Add, Search}
use Rattle.vs_defs.specs.Stale.{stale_by}
use Rattle.vs_defs.specs.Step.{Step, Drafted}
use Rattle.vs_defs.specs.Store.{Store, Set, Limits, empty_store, set_of, plain}
use Rattle.vs_thread_defs.specs.Core as core
use Rattle.vs_thread_defs.specs.Core.{Seen, ActorStands, ReadyAt, IsDraftable, names_down}
use Rattle.vs_thread_defs.specs.Interleaving as machine
use Rattle.vs_thread_defs.specs.Interleaving.{State, Actor, Does, HappensAt, actor_at, actor_of, with_actor, can_draft_in}
use Rattle.vs_thread_defs.specs.Laws.{DraftKeepsChosen, KeepsShape}
use Rattle.vs_thread_defs.specs.Machine.{GraphHistory, GraphLegal, Follows, StoreDoes, store_of, store_at}
use Rattle.vs_history.proofs.Beginnings.{prefix_self, prefix_push}
use Rattle.vs_history.proofs.Histories.{store_push, legal_push}
use Rattle.vs_store.specs.Drafts.{IsPrepared, WasReadyIn, MayCommit, CommitsBy}
use Rattle.vs_store.proofs.Lasting.{may_commit_in}
use Rattle.vs_command.specs.Outcomes.{refused_by as refused_outcome}
use Rattle.vs_core.specs.declared.actor.Actor.{Actor as Kept}
use Rattle.vs_core.specs.declared.actor.Actor.TheVariants.{Looking, Drafting as DraftingOf, Ready as ReadyOf}
use Rattle.vs_core.specs.Actors.{actor_seen, is_idle, is_looking, is_drafting, is_ready, suits, error_of}
use Rattle.vs_core.specs.Events.{refused_by}
use Rattle.vs_core.specs.Turns.{StandsAt, Stands, Turned, Turns}
use Rattle.vs_core.proofs.Standing.{of_idle, of_looking, of_drafting, of_ready}

-- ---- states

set_back : {X : Type 0} (xs : List X) (k : ℕ) (x : X) → slice_get xs k ≡ Some x → slice_set xs k x ≡ xs
set_back [] k x at = refl
set_back (y ∷ ys) zero x at = let same : y ≡ x = cc at in ap (λ z. z ∷ ys) (sym same)
set_back (y ∷ ys) (suc k) x at = ap (λ l. y ∷ l) (set_back ys k x at)

-- an actor that is put where it was changes nothing
same_state : (s : State) (k : ℕ) (a : Actor) → actor_at s k ≡ Some a → with_actor s k a s.history ≡ s
same_state s zero a at = absurd (none-some a at)
same_state s (suc k) a at = ap (λ (l : List Actor). record { history = s.history; actors = l }) (set_back s.actors k a at)

module _ (limits : Limits) (s : State) where
  -- the store at the end
  at_end : store_at limits s.history (length s.history) ≡ store_of limits s.history
  at_end = ap (store_of limits) (take_all (length s.history) s.history (omega arith))

  -- the history stays
  stays : (e : machine.Event) (a after : Actor) (store : Store Set) (was now : Seen) (o : machine.Outcome) → StandsAt limits s (actor_of e) a store was
      → HappensAt limits a s e o (with_actor s (actor_of e) after s.history) → ActorStands limits s.history now after → Turned limits s a e o store now
  stays e a after store was now o st happens stands = record {
    history = s.history;
    after = after;
    happens = happens;
    goes_on = prefix_self s.history;
    ends = st.ends;
    legal = st.legal;
    stands = stands;
  }

  -- and its actor too
  nothing : (e : machine.Event) (a : Actor) (store : Store Set) (was : Seen) (o : machine.Outcome) → StandsAt limits s (actor_of e) a store was → HappensAt limits a s e o s → Turned limits s a e o store was
  nothing e a store was o st happens =
      stays e a a store was was o st (subst (HappensAt limits a s e o) (sym (same_state s (actor_of e) a st.there)) happens) st.stands

-- ---- an actor that is at something else than the event needs

unsuited_at : (limits : Limits) (s : State) (x : Seen) (a : Actor) (e : machine.Event) → ActorStands limits s.history x a → suits x e ≡ false → HappensAt limits a s e (error_of e) s
unsuited_at limits s core.Idle machine.Idle (machine.Do k r words) t f = absurd (true≢false f)
unsuited_at limits s core.Idle machine.Idle (machine.Look k search) t f = absurd (true≢false f)
unsuited_at limits s core.Idle machine.Idle (machine.Draft k add drawn) t f = absurd (true≢false f)
unsuited_at limits s core.Idle machine.Idle e t f = (refl, refl)
unsuited_at limits s (core.IsLooking l) (machine.Looking search place) (machine.Finish k) t f = absurd (true≢false f)
unsuited_at limits s (core.IsLooking l) (machine.Looking search place) e t f = (refl, refl)
unsuited_at limits s (core.IsDrafting d) (machine.Drafting add drawn place) (machine.Prepare k) t f = absurd (true≢false f)
unsuited_at limits s (core.IsDrafting d) (machine.Drafting add drawn place) e t f = (refl, refl)
unsuited_at limits s (core.IsReady r) (machine.Ready add drawn p) (machine.Commit k) t f = absurd (true≢false f)
unsuited_at limits s (core.IsReady r) (machine.Ready add drawn p) e t f = (refl, refl)
unsuited_at limits s x a e t f = absurd t

pub unsuited : (e : machine.Event) (old : Store Set) (was : Seen) → suits was e ≡ false → Turns e old was (error_of e) old was
unsuited e old was f s a st = nothing old.limits s e a old was (error_of e) st (unsuited_at old.limits s was a e st.stands f)

-- what the code's tests say of an actor
pub idle_is : (x : Seen) → is_idle x ≡ true → x ≡ core.Idle
idle_is core.Idle t = refl
idle_is (core.IsLooking l) t = absurd (false≢true t)
idle_is (core.IsDrafting d) t = absurd (false≢true t)
idle_is (core.IsReady r) t = absurd (false≢true t)

pub not_looking : (a : Kept) → ((l : core.Looked) → a ≡ Looking l → ⊥) → is_looking (actor_seen a) ≡ false
not_looking (Looking l) other = absurd (other l refl)
not_looking a other = refl

pub not_drafting : (a : Kept) → ((d : core.Drafting) → a ≡ DraftingOf d → ⊥) → is_drafting (actor_seen a) ≡ false
not_drafting (DraftingOf d) other = absurd (other d refl)
not_drafting a other = refl

pub not_ready : (a : Kept) → ((r : core.Ready) → a ≡ ReadyOf r → ⊥) → is_ready (actor_seen a) ≡ false
not_ready (ReadyOf r) other = absurd (other r refl)
not_ready a other = refl

-- ---- a request that is done

record Done (limits : Limits) (k : ℕ) (h : GraphHistory) (r : Request) (words : List ℕ) (o : Outcome) (new : Store Set) : Type 0 where
  history : GraphHistory
  does : Does limits k h r words o history
  goes_on : IsPrefix h history
  ends : new ≡ store_of limits history
  legal : GraphLegal limits history

done_at_once : (limits : Limits) (k : ℕ) (h : GraphHistory) (old new : Store Set) (r : Request) (words : List ℕ) (o : Outcome) → old ≡ store_of limits h → GraphLegal limits h → IsInBounds r
    → length words ≡ draws r → StoreDoes old r words o new → Done limits k h r words o new
done_at_once limits k h old new r words (outcome.Answered a) ends legal bounds drawn (inl ch) =
    let e : Entry (Store Set) = record { author = k; request = r; words = words; draft = None; answer = a; store = new } in
    let follows : Follows limits h e = record {
      in_bounds = bounds;
      words = drawn;
      unrefused = subst (λ (x : Store Set). store_refusal (plain x) r ≡ None) ends ch.unrefused;
      drafted = None;
      draft = refl;
      step = subst (λ (x : Store Set). Step x r words a new None) ends ch.step;
    } in record {
      history = h ++ e ∷ [];
      does = inl (e, refl, follows, refl, refl, refl, refl, refl);
      goes_on = prefix_push h e;
      ends = sym (store_push (empty_store limits) h e);
      legal = legal_push (Follows limits) h e legal follows;
    }
done_at_once limits k h old new r words (outcome.Answered a) ends legal bounds drawn (inr (same, answers)) = record {
  history = h;
  does = inr (refl, subst (λ (x : Store Set). Answers x r words a) ends answers);
  goes_on = prefix_self h;
  ends = same ∙ ends;
  legal = legal;
}
done_at_once limits k h old new r words (outcome.Refused e) ends legal bounds drawn (same, refused) = record {
  history = h;
  does = (subst (λ (x : Store Set). store_refusal (plain x) r ≡ Some e) ends refused, refl);
  goes_on = prefix_self h;
  ends = same ∙ ends;
  legal = legal;
}
done_at_once limits k h old new r words outcome.OutOfMemory ends legal bounds drawn same = record { history = h; does = refl; goes_on = prefix_self h; ends = same ∙ ends; legal = legal }

pub done : (k : ℕ) (r : Request) (words : List ℕ) (old new : Store Set) (o : Outcome) → IsInBounds r → length words ≡ draws r → StoreDoes old r words o new
    → Turns (machine.Do k r words) old core.Idle (machine.outcome_of o) new core.Idle
done k r words old new o bounds drawn does s a st =
    of_idle old.limits s.history (λ b. Turned old.limits s b (machine.Do k r words) (machine.outcome_of o) new core.Idle)
    (let d = done_at_once old.limits k s.history old new r words o st.ends st.legal bounds drawn does in record {
      history = d.history;
      after = machine.Idle;
      happens = (o, d.history, d.does, refl, refl);
      goes_on = d.goes_on;
      ends = d.ends;
      legal = d.legal;
      stands = tt;
    })
    a st.stands

-- what the code says of a refusal is what the machine says
pub refused_same : (c : Option request.Refusal) → refused_by c ≡ machine.outcome_of (refused_outcome c)
refused_same None = refl
refused_same (Some e) = refl

-- ---- a search

module _ (old : Store Set) (k : ℕ) where
  refusal_is : (limits : Limits) (s : State) (r : Request) (o : Option request.Refusal) → old ≡ store_of limits s.history → store_refusal (plain old) r ≡ o → o ≡ machine.refusal_at limits s.history r
  refusal_is limits s r o ends is = sym is ∙ ap (λ (x : Store Set). store_refusal (plain x) r) ends

  pub looked : (search : Search) (l : core.Looked) → l.search ≡ search → l.set ≡ set_of search.key old → store_refusal (plain old) (request.Vsim search) ≡ None
      → Turns (machine.Look k search) old core.Idle machine.Looked old (core.IsLooking l)
  looked search l same set_is unrefused s a st =
      let e = machine.Look k search in
      let n = length s.history in
      of_idle old.limits s.history (λ b. StandsAt old.limits s k b old core.Idle → Turned old.limits s b e machine.Looked old (core.IsLooking l)) (λ st.
      stays old.limits s e machine.Idle (machine.Looking search n) old core.Idle (core.IsLooking l) machine.Looked st
      (inr (subst (λ c. machine.Looks old.limits k search c s machine.Looked (with_actor s k (machine.Looking search n) s.history)) (refusal_is old.limits s (request.Vsim search) None st.ends unrefused) (refl, refl)))
      (record {
        before = omega arith;
        search_is = same;
        set_is = set_is ∙ ap (set_of search.key) (st.ends ∙ sym (at_end old.limits s));
      })) a st.stands st

  pub look_refused : (search : Search) (c : Option request.Refusal) → IfSome c (λ cause. store_refusal (plain old) (request.Vsim search) ≡ Some cause)
      → Turns (machine.Look k search) old core.Idle (refused_by c) old core.Idle
  look_refused search c refused s a st =
      let e = machine.Look k search in
      of_idle old.limits s.history (λ b. StandsAt old.limits s k b old core.Idle → Turned old.limits s b e (refused_by c) old core.Idle)
      (λ st. stays old.limits s e machine.Idle machine.Idle old core.Idle core.Idle (refused_by c) st (by c refused st) tt) a st.stands st
    where
      by : (c : Option request.Refusal) → IfSome c (λ cause. store_refusal (plain old) (request.Vsim search) ≡ Some cause) → StandsAt old.limits s k machine.Idle old core.Idle
          → HappensAt old.limits machine.Idle s (machine.Look k search) (refused_by c) (with_actor s k machine.Idle s.history)
      by None refused st = inl (refl, refl)
      by (Some cause) refused st =
          inr (subst (λ c. machine.Looks old.limits k search c s (machine.Refused cause) (with_actor s k machine.Idle s.history)) (refusal_is old.limits s (request.Vsim search) (Some cause) st.ends refused) (refl, refl))

  pub finished : (l : core.Looked) (answer : Answer) → FindsOf l.search l.set answer → Turns (machine.Finish k) old (core.IsLooking l) (machine.Answered answer) old core.Idle
  finished l answer found s a st =
      let e = machine.Finish k in
      of_looking old.limits s.history (λ b. StandsAt old.limits s k b old (core.IsLooking l) → Turned old.limits s b e (machine.Answered answer) old core.Idle) l (λ place at st.
      stays old.limits s e (machine.Looking l.search place) machine.Idle old (core.IsLooking l) core.Idle (machine.Answered answer) st
      (inr (answer, subst (λ x. FindsOf l.search x answer) at.set_is found, refl, refl)) tt) a st.stands st

  pub finish_starved : (l : core.Looked) → Turns (machine.Finish k) old (core.IsLooking l) machine.OutOfMemory old core.Idle
  finish_starved l s a st =
      let e = machine.Finish k in
      of_looking old.limits s.history (λ b. StandsAt old.limits s k b old (core.IsLooking l) → Turned old.limits s b e machine.OutOfMemory old core.Idle) l (λ place at st.
      stays old.limits s e (machine.Looking l.search place) machine.Idle old (core.IsLooking l) core.Idle machine.OutOfMemory st (inl (refl, refl)) tt) a st.stands st

  -- ---- a draft

  module _ (add : Add) (drawn : ℕ) where
    abbrev drafts_or_not : Limits → State → machine.Outcome → Actor → Bool → Type 0
    drafts_or_not limits s o after can =
        let new = with_actor s k after s.history in
        MatchBool can (machine.Starves limits k s o new ⊎ machine.Drafts limits k add drawn (machine.refusal_at limits s.history (request.Vadd add)) s o new) ((o ≡ machine.Direct) × (new ≡ s))

    can_is : (limits : Limits) (s : State) (b : Bool) → old ≡ store_of limits s.history → can_draft_in add (set_of add.key old) ≡ b → b ≡ can_draft_in add (set_of add.key (store_of limits s.history))
    can_is limits s b ends can = sym can ∙ ap (λ (x : Store Set). can_draft_in add (set_of add.key x)) ends

    pub direct : can_draft_in add (set_of add.key old) ≡ false → Turns (machine.Draft k add drawn) old core.Idle machine.Direct old core.Idle
    direct can s a st =
        let e = machine.Draft k add drawn in
        of_idle old.limits s.history (λ b. StandsAt old.limits s k b old core.Idle → Turned old.limits s b e machine.Direct old core.Idle) (λ st.
        stays old.limits s e machine.Idle machine.Idle old core.Idle core.Idle machine.Direct st
        (subst (drafts_or_not old.limits s machine.Direct machine.Idle) (can_is old.limits s false st.ends can) (refl, same_state s k machine.Idle st.there)) tt) a st.stands st

    pub drafted : (d : core.Drafting) → d.add ≡ add → d.drawn ≡ drawn → set_of add.key old ≡ Some d.set → IsDraftable d.set d.add → can_draft_in add (set_of add.key old) ≡ true
        → store_refusal (plain old) (request.Vadd add) ≡ None → Turns (machine.Draft k add drawn) old core.Idle machine.Drafted old (core.IsDrafting d)
    drafted d add_is drawn_is set_is draftable can unrefused s a st =
        let e = machine.Draft k add drawn in
        let n = length s.history in
        let after = machine.Drafting add drawn n in
        of_idle old.limits s.history (λ b. StandsAt old.limits s k b old core.Idle → Turned old.limits s b e machine.Drafted old (core.IsDrafting d)) (λ st.
        stays old.limits s e machine.Idle after old core.Idle (core.IsDrafting d) machine.Drafted st
        (subst (drafts_or_not old.limits s machine.Drafted after) (can_is old.limits s true st.ends can)
        (inr (subst (λ c. machine.Drafts old.limits k add drawn c s machine.Drafted (with_actor s k after s.history)) (refusal_is old.limits s (request.Vadd add) None st.ends unrefused) (refl, refl))))
        (record {
          before = omega arith;
          add_is = add_is;
          drawn_is = drawn_is;
          set_is = ap (set_of add.key) (at_end old.limits s ∙ sym st.ends) ∙ set_is;
          draftable = subst (IsDraftable d.set) add_is draftable;
        })) a st.stands st

    pub draft_refused : (c : Option request.Refusal) → can_draft_in add (set_of add.key old) ≡ true → IfSome c (λ cause. store_refusal (plain old) (request.Vadd add) ≡ Some cause)
        → Turns (machine.Draft k add drawn) old core.Idle (refused_by c) old core.Idle
    draft_refused c can refused s a st =
        let e = machine.Draft k add drawn in
        of_idle old.limits s.history (λ b. StandsAt old.limits s k b old core.Idle → Turned old.limits s b e (refused_by c) old core.Idle) (λ st.
        stays old.limits s e machine.Idle machine.Idle old core.Idle core.Idle (refused_by c) st
        (subst (drafts_or_not old.limits s (refused_by c) machine.Idle) (can_is old.limits s true st.ends can) (by c refused st)) tt) a st.stands st
      where
        by : (c : Option request.Refusal) → IfSome c (λ cause. store_refusal (plain old) (request.Vadd add) ≡ Some cause) → StandsAt old.limits s k machine.Idle old core.Idle
            → drafts_or_not old.limits s (refused_by c) machine.Idle true
        by None refused st = inl (refl, refl)
        by (Some cause) refused st =
            inr (subst (λ c. machine.Drafts old.limits k add drawn c s (machine.Refused cause) (with_actor s k machine.Idle s.history)) (refusal_is old.limits s (request.Vadd add) (Some cause) st.ends refused) (refl, refl))

  -- ---- the choice of its links

  pub prepared : (d : core.Drafting) (r : core.Ready) → IsPrepared d r → Turns (machine.Prepare k) old (core.IsDrafting d) machine.Prepared old (core.IsReady r)
  prepared d r p s a st =
      let e = machine.Prepare k in
      of_drafting old.limits s.history (λ b. StandsAt old.limits s k b old (core.IsDrafting d) → Turned old.limits s b e machine.Prepared old (core.IsReady r)) d (λ place at st.
      let preparation : Preparation = record { place = place; chosen = names_down r.chosen } in
      let chosen : IsChosen d.set d.add.bits (level_of d.drawn) d.add.ef (names_down r.chosen)
      = subst (λ n. IsChosen d.set d.add.bits n d.add.ef (names_down r.chosen)) (p.was.level ∙ ap level_of p.drawn) (subst (λ (x : Add). IsChosen d.set x.bits r.level x.ef (names_down r.chosen)) p.add p.was.chosen) in
      stays old.limits s e (machine.Drafting d.add d.drawn place) (machine.Ready d.add d.drawn preparation) old (core.IsDrafting d) (core.IsReady r) machine.Prepared st
      (inr (names_down r.chosen, subst (λ o. MatchOption o ⊥ (λ x. IsChosen x d.add.bits (level_of d.drawn) d.add.ef (names_down r.chosen))) (sym at.set_is) chosen, refl, refl))
      (record {
        before = at.before;
        add_is = p.add;
        drawn_is = p.drawn;
        set = d.set;
        set_is = at.set_is;
        draftable = at.draftable;
        cut_is = p.was.cut;
        level_is = p.was.level ∙ ap level_of p.drawn;
        chosen_are = refl;
        are_chosen = subst (λ (x : Add). IsChosen d.set x.bits r.level x.ef (names_down r.chosen)) p.add p.was.chosen;
        have_bits = p.was.bits;
      })) a st.stands st

  pub prepare_starved : (d : core.Drafting) → Turns (machine.Prepare k) old (core.IsDrafting d) machine.OutOfMemory old core.Idle
  prepare_starved d s a st =
      let e = machine.Prepare k in
      of_drafting old.limits s.history (λ b. StandsAt old.limits s k b old (core.IsDrafting d) → Turned old.limits s b e machine.OutOfMemory old core.Idle) d (λ place at st.
      stays old.limits s e (machine.Drafting d.add d.drawn place) machine.Idle old (core.IsDrafting d) core.Idle machine.OutOfMemory st (inl (refl, refl)) tt) a st.stands st

  -- ---- a commit

  module _ (r : core.Ready) where
    -- what the machine looks at for staleness is what the code looks at
    stale_is : (limits : Limits) (s : State) (p : Preparation) → old ≡ store_of limits s.history → ReadyAt limits s.history r.add r.drawn p r
        → machine.stale_from r.add p.chosen (set_of r.add.key (store_at limits s.history p.place)) (set_of r.add.key (store_of limits s.history)) ≡ stale_by r.cut r.add.name (set_of r.add.key old)
    stale_is limits s p ends at =
        ap (λ o. machine.stale_from r.add p.chosen o (set_of r.add.key (store_of limits s.history))) at.set_is
        ∙ ap (λ n. stale_by n r.add.name (set_of r.add.key (store_of limits s.history))) (sym at.cut_is)
        ∙ ap (λ (x : Store Set). stale_by r.cut r.add.name (set_of r.add.key x)) (sym ends)

    pub redone : (new : Store Set) (cut_now : ℕ) (taken : Bool) (o : Outcome) → IsAddInBounds r.add → stale_by r.cut r.add.name (set_of r.add.key old) ≡ Some (cut_now, taken) → StoreDoes old (request.Vadd r.add) (r.drawn ∷ []) o new
        → Turns (machine.Commit k) old (core.IsReady r) (machine.Redone cut_now taken o) new core.Idle
    redone new cut_now taken o bounds why does s a st =
        let e = machine.Commit k in
        let result : machine.Outcome = machine.Redone cut_now taken o in
        of_ready old.limits s.history (λ b. Turned old.limits s b e result new core.Idle) r (λ p at.
        let d = done_at_once old.limits k s.history old new (request.Vadd r.add) (r.drawn ∷ []) o st.ends st.legal bounds refl does in
        let t = with_actor s k machine.Idle d.history in record {
          history = d.history;
          after = machine.Idle;
          happens = inr (subst (λ w. machine.CommitsBy old.limits w k r.add r.drawn p s result t) (sym (stale_is old.limits s p st.ends at ∙ why))
              (record { answer = o; history = d.history; does = d.does; outcome = refl; state = refl }));
          goes_on = d.goes_on;
          ends = d.ends;
          legal = d.legal;
          stands = tt;
        }) a st.stands

    was_ready : (limits : Limits) (s : State) (p : Preparation) (at : ReadyAt limits s.history r.add r.drawn p r) → WasReadyIn at.set r
    was_ready limits s p at = record {
      draftable = at.draftable;
      cut = at.cut_is;
      level = at.level_is;
      chosen = subst (IsChosen at.set r.add.bits r.level r.add.ef) (sym at.chosen_are) at.are_chosen;
      bits = at.have_bits;
    }

    pub committed : (new : Store Set) (answer : Answer) → IsAddInBounds r.add → stale_by r.cut r.add.name (set_of r.add.key old) ≡ None → CommitsBy r old answer new
        → Turns (machine.Commit k) old (core.IsReady r) (machine.Answered answer) new core.Idle
    committed new answer bounds fresh commits s a st =
        let result : machine.Outcome = machine.Answered answer in
        of_ready old.limits s.history (λ b. Turned old.limits s b (machine.Commit k) result new core.Idle) r (λ p at.
        let change = commits at.set (was_ready old.limits s p at) in
        let e : Entry (Store Set) = record { author = k; request = request.Vadd r.add; words = r.drawn ∷ []; draft = Some p; answer = answer; store = new } in
        let unrefused : store_refusal (plain (store_of old.limits s.history)) (request.Vadd r.add) ≡ None = subst (λ (x : Store Set). store_refusal (plain x) (request.Vadd r.add) ≡ None) st.ends change.unrefused in
        let drafted : Option Drafted = Some (at.set, names_down r.chosen) in
        let same : drafted ≡ Some (at.set, p.chosen) = ap (λ (c : List (List Bytes)). Some (at.set, c)) at.chosen_are in
        let follows : Follows old.limits s.history e = record {
          in_bounds = bounds;
          words = refl;
          unrefused = unrefused;
          drafted = drafted;
          draft = (
            at.set,
            same,
            record {
              add = r.add;
              is_add = refl;
              cas = at.draftable.cas;
              place = at.before;
              set = at.set_is;
              was_absent = at.draftable.absent;
              stands = subst (λ n. stale_by n r.add.name (set_of r.add.key (store_of old.limits s.history)) ≡ None) at.cut_is (subst (λ (x : Store Set). stale_by r.cut r.add.name (set_of r.add.key x) ≡ None) st.ends fresh);
            },
          );
          step = subst (λ (x : Store Set). Step x (request.Vadd r.add) (r.drawn ∷ []) answer new drafted) st.ends change.step;
        } in
        let history = s.history ++ e ∷ [] in
        let t = with_actor s k machine.Idle history in record {
          history = history;
          after = machine.Idle;
          happens = inr (subst (λ w. machine.CommitsBy old.limits w k r.add r.drawn p s result t) (sym (stale_is old.limits s p st.ends at ∙ fresh))
              (subst (λ c. machine.CommitsUnlessRefused old.limits c k r.add r.drawn p s result t) (sym unrefused)
              (record { entry = e; follows = follows; author = refl; request = refl; words = refl; draft = refl; outcome = refl; state = refl })));
          goes_on = prefix_push s.history e;
          ends = sym (store_push (empty_store old.limits) s.history e);
          legal = legal_push (Follows old.limits) s.history e st.legal follows;
          stands = tt;
        }) a st.stands

    pub commit_refused : (c : Option request.Refusal) → stale_by r.cut r.add.name (set_of r.add.key old) ≡ None → IfSome c (λ cause. store_refusal (plain old) (request.Vadd r.add) ≡ Some cause)
        → Turns (machine.Commit k) old (core.IsReady r) (refused_by c) old core.Idle
    commit_refused c fresh refused s a st =
        of_ready old.limits s.history (λ b. StandsAt old.limits s k b old (core.IsReady r) → Turned old.limits s b (machine.Commit k) (refused_by c) old core.Idle) r (λ p at st.
        stays old.limits s (machine.Commit k) (machine.Ready r.add r.drawn p) machine.Idle old (core.IsReady r) core.Idle (refused_by c) st (by c refused p at st) tt) a st.stands st
      where
        by : (c : Option request.Refusal) → IfSome c (λ cause. store_refusal (plain old) (request.Vadd r.add) ≡ Some cause) → (p : Preparation) → ReadyAt old.limits s.history r.add r.drawn p r
            → StandsAt old.limits s k (machine.Ready r.add r.drawn p) old (core.IsReady r) → HappensAt old.limits (machine.Ready r.add r.drawn p) s (machine.Commit k) (refused_by c) (with_actor s k machine.Idle s.history)
        by None refused p at st = inl (refl, refl)
        by (Some cause) refused p at st =
            let t = with_actor s k machine.Idle s.history in
            inr (subst (λ w. machine.CommitsBy old.limits w k r.add r.drawn p s (machine.Refused cause) t) (sym (stale_is old.limits s p st.ends at ∙ fresh))
            (subst (λ c. machine.CommitsUnlessRefused old.limits c k r.add r.drawn p s (machine.Refused cause) t) (refusal_is old.limits s (request.Vadd r.add) (Some cause) st.ends refused) (refl, refl)))

-- a ready addition that isn't stale may be committed
pub may_commit : DraftKeepsChosen → (old : Store Set) (r : core.Ready) → Stands old (core.IsReady r) → MayCommit old r
may_commit laws old r (s, k, a, st) = of_ready old.limits s.history (λ b. MayCommit old r) r (λ p at now there fresh.
    let kept = laws old.limits s.history r.add r.level p at.set now st.legal at.set_is (ap (set_of r.add.key) (sym st.ends) ∙ there) at.are_chosen
    (subst (λ n. stale_by n r.add.name (Some now) ≡ None) at.cut_is fresh) in
    may_commit_in at.set now r (was_ready old k r old.limits s p at) kept.0 kept.1 (subst (All (All (KeepsShape at.set.contents now.contents))) (sym at.chosen_are) kept.2)) a st.stands
