-- Actors stand on where the history has grown, and where one of them is changed; and who stands at a number.
use Rattle.std.proofs.Common.{◌≡◌, ℕ, zero, suc, ◌≤◌, List, [], ◌∷◌, ◌++◌, length, replicate, refl, sym, ap, subst, ◌∙◌, arith, length-append}
use Rattle.std.specs.Prelude.{Some, None, slice_get, slice_set}
use Rattle.std.proofs.lemmas.List.{take-append-le}
use Rattle.std.proofs.lemmas.Option.{none-some}
use Rattle.vs_defs.specs.History.{Preparation}
use Rattle.vs_defs.specs.Store.{Limits, set_of}
use Rattle.vs_thread_defs.specs.Machine.{GraphHistory, store_of, store_at}
use Rattle.vs_thread_defs.specs.Interleaving as machine
use Rattle.vs_thread_defs.specs.Interleaving.{Actor}
use Rattle.vs_thread_defs.specs.Core as core
use Rattle.vs_thread_defs.specs.Core.{Seen, LookedAt, DraftedAt, ReadyAt, ActorStands, ActorsStand}

module _ (limits : Limits) where
  at_before : (h more : GraphHistory) (p : ℕ) → p ≤ length h → store_at limits (h ++ more) p ≡ store_at limits h p
  at_before h more p le = ap (store_of limits) (take-append-le p h more le)

  -- ---- one actor

  stands_on : (h more : GraphHistory) (x : Seen) (a : Actor) → ActorStands limits h x a → ActorStands limits (h ++ more) x a
  stands_on h more core.Idle machine.Idle s = tt
  stands_on h more (core.IsLooking l) (machine.Looking search place) s = record {
    before = omega (arith, s.before, length-append h more);
    search_is = s.search_is;
    set_is = s.set_is ∙ ap (set_of search.key) (sym (at_before h more place s.before));
  }
  stands_on h more (core.IsDrafting d) (machine.Drafting add drawn place) s = record {
    before = omega (arith, s.before, length-append h more);
    add_is = s.add_is;
    drawn_is = s.drawn_is;
    set_is = ap (set_of add.key) (at_before h more place s.before) ∙ s.set_is;
    draftable = s.draftable;
  }
  stands_on h more (core.IsReady r) (machine.Ready add drawn p) s = record {
    before = omega (arith, s.before, length-append h more);
    add_is = s.add_is;
    drawn_is = s.drawn_is;
    set = s.set;
    set_is = ap (set_of add.key) (at_before h more p.place s.before) ∙ s.set_is;
    draftable = s.draftable;
    cut_is = s.cut_is;
    level_is = s.level_is;
    chosen_are = s.chosen_are;
    are_chosen = s.are_chosen;
    have_bits = s.have_bits;
  }
  stands_on h more x a s = absurd s

  -- what holds of the machine's actor holds where it has to be this one
  pub of_idle : (h : GraphHistory) (P : Actor → Type 0) → P machine.Idle → (a : Actor) → ActorStands limits h core.Idle a → P a
  of_idle h P p machine.Idle s = p
  of_idle h P p a s = absurd s

  pub of_looking : (h : GraphHistory) (P : Actor → Type 0) (l : core.Looked) → ((place : ℕ) → LookedAt limits h l.search place l → P (machine.Looking l.search place)) → (a : Actor) → ActorStands limits h (core.IsLooking l) a → P a
  of_looking h P l f (machine.Looking search place) s =
      subst (λ x. P (machine.Looking x place)) s.search_is (f place (subst (λ x. LookedAt limits h x place l) (sym s.search_is) s))
  of_looking h P l f a s = absurd s

  pub of_drafting : (h : GraphHistory) (P : Actor → Type 0) (d : core.Drafting) → ((place : ℕ) → DraftedAt limits h d.add d.drawn place d → P (machine.Drafting d.add d.drawn place)) → (a : Actor) → ActorStands limits h (core.IsDrafting d) a → P a
  of_drafting h P d f (machine.Drafting add drawn place) s =
      subst (λ w. P (machine.Drafting add w place)) s.drawn_is (
      subst (λ x. P (machine.Drafting x d.drawn place)) s.add_is (
      f place (subst (λ x. DraftedAt limits h x d.drawn place d) (sym s.add_is) (subst (λ w. DraftedAt limits h add w place d) (sym s.drawn_is) s))))
  of_drafting h P d f a s = absurd s

  pub of_ready : (h : GraphHistory) (P : Actor → Type 0) (r : core.Ready) → ((p : Preparation) → ReadyAt limits h r.add r.drawn p r → P (machine.Ready r.add r.drawn p)) → (a : Actor) → ActorStands limits h (core.IsReady r) a → P a
  of_ready h P r f (machine.Ready add drawn p) s =
      subst (λ w. P (machine.Ready add w p)) s.drawn_is (
      subst (λ x. P (machine.Ready x r.drawn p)) s.add_is (
      f p (subst (λ x. ReadyAt limits h x r.drawn p r) (sym s.add_is) (subst (λ w. ReadyAt limits h add w p r) (sym s.drawn_is) s))))
  of_ready h P r f a s = absurd s

  -- ---- all actors

  pub all_on : (h more : GraphHistory) (xs : List Seen) (bs : List Actor) → ActorsStand limits h xs bs → ActorsStand limits (h ++ more) xs bs
  all_on h more [] [] s = tt
  all_on h more (x ∷ xs) (b ∷ bs) s = (stands_on h more x b s.0, all_on h more xs bs s.1)
  all_on h more [] (b ∷ bs) s = absurd s
  all_on h more (x ∷ xs) [] s = absurd s

  pub put : (h : GraphHistory) (xs : List Seen) (bs : List Actor) (k : ℕ) (x : Seen) (a : Actor) → ActorsStand limits h xs bs → ActorStands limits h x a → ActorsStand limits h (slice_set xs k x) (slice_set bs k a)
  put h [] [] k x a s t = tt
  put h (y ∷ ys) (b ∷ bs) zero x a s t = (t, s.1)
  put h (y ∷ ys) (b ∷ bs) (suc k) x a s t = (s.0, put h ys bs k x a s.1 t)
  put h [] (b ∷ bs) k x a s t = absurd s
  put h (y ∷ ys) [] k x a s t = absurd s

  -- the machine's actor of a place, and none where there is none
  pub found : (h : GraphHistory) (xs : List Seen) (bs : List Actor) (k : ℕ) (x : Seen) → ActorsStand limits h xs bs → slice_get xs k ≡ Some x → (a : Actor) × (slice_get bs k ≡ Some a) × ActorStands limits h x a
  found h [] bs k x s at = absurd (none-some x at)
  found h (y ∷ ys) (b ∷ bs) zero x s at = (b, refl, subst (λ z. ActorStands limits h z b) (same_some at) s.0)
    where
      same_some : Some y ≡ Some x → y ≡ x
      same_some e = cc e
  found h (y ∷ ys) (b ∷ bs) (suc k) x s at = found h ys bs k x s.1 at
  found h (y ∷ ys) [] k x s at = absurd s

  pub none_found : (h : GraphHistory) (xs : List Seen) (bs : List Actor) (k : ℕ) → ActorsStand limits h xs bs → slice_get xs k ≡ None → slice_get bs k ≡ None
  none_found h [] [] k s at = refl
  none_found h [] (b ∷ bs) k s at = absurd s
  none_found h (y ∷ ys) (b ∷ bs) zero s at = absurd (none-some y (sym at))
  none_found h (y ∷ ys) (b ∷ bs) (suc k) s at = none_found h ys bs k s.1 at
  none_found h (y ∷ ys) [] k s at = absurd s

  pub all_idle : (n : ℕ) → ActorsStand limits [] (replicate n core.Idle) (replicate n machine.Idle)
  all_idle zero = tt
  all_idle (suc n) = (tt, all_idle n)
