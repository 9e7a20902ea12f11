-- One actor's turn as a step of the core, and steps in a row as a run.
use Rattle.std.proofs.Common.{◌≡◌, ℕ, zero, suc, ◌+◌, ◌<◌, true, false, List, [], ◌∷◌, ◌++◌, length, replicate, get_or, refl, sym, ap, subst, ◌∙◌, arith, append_assoc, append-nil}
use Rattle.std.specs.Prelude.{Some, None, MatchOption, option_map, slice_get, slice_set}
use Rattle.std.proofs.lemmas.Bool.{false≢true}
use Rattle.std.proofs.lemmas.List.{length-map}
use Rattle.std.proofs.lemmas.Option.{slice_get-map, slice_get_read}
use Rattle.vs_defs.specs.History.{LegalAfter}
use Rattle.vs_defs.specs.Store.{Store, Set, Limits, empty_store}
use Rattle.vs_thread_defs.specs.Core as core
use Rattle.vs_thread_defs.specs.Core.{Core, Seen, StandsFor, ActorsStand}
use Rattle.vs_thread_defs.specs.Interleaving as machine
use Rattle.vs_thread_defs.specs.Interleaving.{State, Actor, Event, Outcome, Happens, HappensAt, Run, actor_at, actor_of, with_actor}
use Rattle.vs_thread_defs.specs.Machine.{GraphHistory, Follows, store_of}
use Rattle.vs_history.proofs.Histories.{store_push}
use Rattle.vs_core.specs.declared.actor.Actor.{Actor as Kept}
use Rattle.vs_core.specs.declared.actor.Actor.TheVariants.{Idle}
use Rattle.vs_core.specs.Actors.{Steps, IsOfMachine, actor_seen, actors_seen, seen_at, busy_of, is_idle}
use Rattle.vs_core.specs.Turns.{Stands, Turns}
use Rattle.vs_core.proofs.Standing.{all_on, all_idle, put, found, none_found}

-- ---- limits

limits_after : (limits : Limits) (before es : GraphHistory) → LegalAfter (Follows limits) before es → (store_of limits before).limits ≡ limits → (store_of limits (before ++ es)).limits ≡ limits
limits_after limits before [] legal is = subst (λ h. (store_of limits h).limits ≡ limits) (sym (append-nil before)) is
limits_after limits before (e ∷ es) legal is =
    subst (λ h. (store_of limits h).limits ≡ limits) (append_assoc before (e ∷ []) es)
    (limits_after limits (before ++ e ∷ []) es legal.1 (ap (λ (x : Store Set). x.limits) (store_push (empty_store limits) before e) ∙ legal.0.step.contents.limits ∙ is))

-- every store of a legal history has its limits
limits_kept : (limits : Limits) (c : Core) (s : State) → StandsFor limits c s → c.store.limits ≡ limits
limits_kept limits c s st = ap (λ (x : Store Set). x.limits) st.store ∙ limits_after limits [] s.history st.legal refl

-- what steps from a core of the machine is one, with the same limits
pub steps_limits : (old new : Core) (e : Event) (o : Outcome) → IsOfMachine old → Steps old e o new → new.store.limits ≡ old.store.limits
steps_limits old new e o (s, st) steps = let t = steps s st in limits_kept old.store.limits new t.0 t.2

pub steps_kept : (old new : Core) (e : Event) (o : Outcome) → IsOfMachine old → Steps old e o new → IsOfMachine new
steps_kept old new e o (s, st) steps =
    let t = steps s st in
    (t.0, subst (λ l. StandsFor l new t.0) (sym (limits_kept old.store.limits new t.0 t.2)) t.2)

-- ---- a step

pub stands_at : (c : Core) (place : ℕ) (x : Seen) → IsOfMachine c → slice_get c.actors place ≡ Some x → Stands c.store x
stands_at c place x (s, st) at =
    let f = found c.store.limits s.history c.actors s.actors place x st.actors at in
    (s, suc place, f.0, record { ends = st.store; legal = st.legal; there = f.1; stands = f.2 })

pub steps_by : (c : Core) (e : Event) (place : ℕ) (o : Outcome) (new : Store Set) (was now : Seen) → actor_of e ≡ place + 1 → slice_get c.actors place ≡ Some was → Turns e c.store was o new now
    → Steps c e o (record { store = new; actors = slice_set c.actors place now })
steps_by c e place o new was now number at turns s st =
    let limits = c.store.limits in
    let k : actor_of e ≡ suc place = omega (arith, number) in
    let f = found limits s.history c.actors s.actors place was st.actors at in
    let there : actor_at s (actor_of e) ≡ Some f.0 = ap (actor_at s) k ∙ f.1 in
    let t = turns s f.0 (record { ends = st.store; legal = st.legal; there = there; stands = f.2 }) in
    let state = with_actor s (actor_of e) t.after t.history in
    let after : Core = record { store = new; actors = slice_set c.actors place now } in (
      state,
      subst (λ w. MatchOption w (machine.Is c.store.limits machine.NoSuchActor s o state) (λ a. HappensAt limits a s e o state)) (sym there) t.happens,
      subst (λ n. StandsFor limits after (with_actor s n t.after t.history)) (sym k) (record {
        store = t.ends;
        legal = t.legal;
        actors = put limits t.history c.actors s.actors place now t.after
            (subst (λ h. ActorsStand limits h c.actors s.actors) t.goes_on.1 (all_on limits s.history t.goes_on.0 c.actors s.actors st.actors)) t.stands;
      }),
    )

-- an event of no actor
pub no_actor : (c : Core) (e : Event) → seen_at c (actor_of e) ≡ None → Steps c e machine.NoSuchActor c
no_actor c e none s st =
    (s, subst (λ w. MatchOption w (machine.Is c.store.limits machine.NoSuchActor s machine.NoSuchActor s) (λ a. HappensAt c.store.limits a s e machine.NoSuchActor s)) (sym (by (actor_of e) none)) (refl, refl), st)
  where
    by : (k : ℕ) → seen_at c k ≡ None → actor_at s k ≡ None
    by zero none = refl
    by (suc k) none = none_found c.store.limits s.history c.actors s.actors k st.actors none

-- ---- the actors as they are kept

abbrev pub view : Store Set → List Kept → Core
view store items = record { store = store; actors = actors_seen items }

seen_set : (xs : List Kept) (place : ℕ) (x : Kept) → actors_seen (slice_set xs place x) ≡ slice_set (actors_seen xs) place (actor_seen x)
seen_set [] place x = refl
seen_set (y ∷ ys) zero x = refl
seen_set (y ∷ ys) (suc place) x = ap (λ l. actor_seen y ∷ l) (seen_set ys place x)

module _ (store : Store Set) (items : List Kept) (c : Core) (same : view store items ≡ c) (place : ℕ) (within : place < length c.actors) (x : Kept) (here : x ≡ get_or items place x) where
  kept_at : slice_get (actors_seen items) place ≡ Some (actor_seen x)
  kept_at =
      let long : length (actors_seen items) ≡ length c.actors = ap (λ (d : Core). length d.actors) same in
      slice_get-map actor_seen items place
      ∙ ap (option_map actor_seen) (slice_get_read items (length items) place x refl (omega (arith, within, long, length-map items actor_seen)) here)

  pub seen_there : (number : ℕ) → number ≡ place + 1 → seen_at c number ≡ Some (actor_seen x)
  seen_there number is =
      let k : number ≡ suc place = omega (arith, is) in
      ap (seen_at c) k ∙ ap (λ (d : Core). slice_get d.actors place) (sym same) ∙ kept_at

  pub stands_there : IsOfMachine (view store items) → Stands store (actor_seen x)
  stands_there of_it = stands_at (view store items) place (actor_seen x) of_it kept_at

  pub steps_there : (e : Event) (o : Outcome) (new : Store Set) (y : Kept) → actor_of e ≡ place + 1 → Turns e store (actor_seen x) o new (actor_seen y) → Steps c e o (view new (slice_set items place y))
  steps_there e o new y number turns =
      subst (λ d. Steps d e o (view new (slice_set items place y))) same
      (subst (λ l. Steps (view store items) e o (record { store = new; actors = l })) (sym (seen_set items place y)) (steps_by (view store items) e place o new (actor_seen x) (actor_seen y) number kept_at turns))

-- why an actor can't begin something
pub busy_idle : (x : Seen) → is_idle x ≡ true → busy_of (Some x) ≡ None
busy_idle core.Idle t = refl
busy_idle (core.IsLooking l) t = absurd (false≢true t)
busy_idle (core.IsDrafting d) t = absurd (false≢true t)
busy_idle (core.IsReady r) t = absurd (false≢true t)

pub busy_other : (x : Seen) → is_idle x ≡ false → busy_of (Some x) ≡ Some machine.ActorBusy
busy_other core.Idle t = absurd (false≢true (sym t))
busy_other x t = refl

-- ---- the start

pub seen_idle : (n : ℕ) → actors_seen (replicate n Idle) ≡ replicate n core.Idle
seen_idle zero = refl
seen_idle (suc n) = ap (λ l. core.Idle ∷ l) (seen_idle n)

pub starts : (limits : Limits) (n : ℕ) → IsOfMachine (record { store = empty_store limits; actors = replicate n core.Idle })
starts limits n = (machine.start n, record { store = refl; legal = tt; actors = all_idle limits n })

-- ---- a run

abbrev pub Runs : Core → List Event → List Outcome → Core → Type 0
Runs old es os new = (s : State) → StandsFor old.store.limits old s → (t : State) × Run old.store.limits s es os t × StandsFor old.store.limits new t

run_push : (limits : Limits) (s mid t : State) (es : List Event) (os : List Outcome) (e : Event) (o : Outcome) → Run limits s es os mid → Happens limits mid e o t → Run limits s (es ++ e ∷ []) (os ++ o ∷ []) t
run_push limits s mid t [] [] e o run happens = (t, subst (λ x. Happens limits x e o t) run happens, refl)
run_push limits s mid t (d ∷ es) (p ∷ os) e o run happens = (run.0, run.1, run_push limits run.0 mid t es os e o run.2 happens)
run_push limits s mid t [] (p ∷ os) e o run happens = absurd run
run_push limits s mid t (d ∷ es) [] e o run happens = absurd run

pub runs_none : (c : Core) → Runs c [] [] c
runs_none c s st = (s, refl, st)

pub runs_more : (old mid new : Core) (es : List Event) (os : List Outcome) (e : Event) (o : Outcome) → Runs old es os mid → Steps mid e o new → mid.store.limits ≡ old.store.limits
    → Runs old (es ++ e ∷ []) (os ++ o ∷ []) new
runs_more old mid new es os e o runs steps same s st =
    let r = runs s st in
    let t = steps r.0 (subst (λ l. StandsFor l mid r.0) (sym same) r.2) in (
      t.0,
      run_push old.store.limits s r.0 t.0 es os e o r.1 (subst (λ l. Happens l r.0 e o t.0) same t.1),
      subst (λ l. StandsFor l new t.0) same t.2,
    )
