-- Whoever is chosen for a new member is a member of the set in which the beams ran.
use Rattle.std.proofs.Common.{◌≡◌, ℕ, ◌+◌, ◌-◌, Bool, true, false, List, [], ◌∷◌, ◌++◌, refl, sym, subst}
use Rattle.std.specs.Prelude.{Option, Some, None, MatchOption, IsTrue, is_some, All, replicate, filter, min}
use Rattle.std.proofs.lemmas.Bool.{false≢true}
use Rattle.std.proofs.lemmas.List.Elements.{All-nil, All-cons, All-head, All-tail, All-append, All-replicate, All-take, All-filter, All-weaker}
use Rattle.vs_defs.specs.Bytes.{Bytes, first_in}
use Rattle.vs_defs.specs.Vector.{Vector}
use Rattle.vs_defs.specs.Store.{Member, Set, member_of, is_member}
use Rattle.vs_defs.specs.Links.{reaches, stands_at, bits_at}
use Rattle.vs_defs.specs.Linking.{is_choice, selected_behind}
use Rattle.vs_defs.specs.Beam.{IsBeam, descent_start, layers_down, level_at}
use Rattle.vs_defs.specs.Insertion.{ChoosesFrom, IsChosen, IsChosenBelow, pass_all}

of_some : {A R : Type 0} (o : Option A) (P : A → Type 0) → MatchOption o ⊥ P → ((x : A) → P x → R) → R
of_some None P h f = absurd h
of_some (Some x) P h f = f x h

-- those that are selected are of the list
module _ (P : Bytes → Type 0) (bits : Bytes → Vector) (q : Vector) (m : ℕ) where
  choice_by : (b : Bool) (done cs : List Bytes) (c : Bytes) → P c → All P (selected_behind bits q m (done ++ c ∷ []) cs) → All P (selected_behind bits q m done cs)
      → All P (elim b [ true ↦ c ∷ selected_behind bits q m (done ++ c ∷ []) cs | false ↦ selected_behind bits q m done cs ])
  choice_by true done cs c p in_it out = All-cons P c (selected_behind bits q m (done ++ c ∷ []) cs) p in_it
  choice_by false done cs c p in_it out = out

  selected_of : (done cs : List Bytes) → All P cs → All P (selected_behind bits q m done cs)
  selected_of done [] h = All-nil P
  selected_of done (c ∷ cs) h =
      let rest = All-tail P c cs h in
      choice_by (is_choice bits q m done c) done cs c (All-head P c cs h) (selected_of (done ++ c ∷ []) cs rest) (selected_of done cs rest)

reaches_some : (layer : ℕ) (name : Bytes) (members : List Member) → IsTrue (stands_at members layer name) → is_member name members ≡ true
reaches_some layer name members h = by (member_of name members) h
  where
    by : (o : Option Member) → IsTrue (reaches layer o) → is_some o ≡ true
    by None e = absurd (false≢true e)
    by (Some x) e = refl

module _ (s : Set) (q : Vector) (ef : ℕ) where
  abbrev IsHere : Bytes → Type 0
  IsHere name = is_member name s.contents.members ≡ true

  found_here : (layer : ℕ) (start : Bytes) (tried found : List Bytes) → IsBeam s q layer start ef 0 pass_all tried found → All IsHere found
  found_here layer start tried found beam =
      subst (All IsHere) (sym beam.best)
      (All-take IsHere ef (filter pass_all tried)
      (All-filter pass_all IsHere tried (All-weaker (λ a. IsTrue (stands_at s.contents.members layer a)) IsHere (λ a h. reaches_some layer a s.contents.members h) tried beam.stand)))

  chooses_here : (start : Bytes) (ls : List ℕ) (cs : List (List Bytes)) → ChoosesFrom s q ef start ls cs → All (All IsHere) cs
  chooses_here start [] [] h = All-nil (All IsHere)
  chooses_here start (l ∷ ls) (c ∷ cs) h =
      let tried = h.0 in
      let found = h.1 in
      All-cons (All IsHere) c cs
      (subst (All IsHere) (sym h.3) (selected_of IsHere (bits_at s.contents.members) q s.contents.m [] found (found_here l start tried found h.2)))
      (of_some (first_in found) (λ next. ChoosesFrom s q ef next ls cs) h.4 (λ next more. chooses_here next ls cs more))
  chooses_here start [] (c ∷ cs) h = absurd h
  chooses_here start (l ∷ ls) [] h = absurd h

pub chosen_here : (s : Set) (q : Vector) (level ef : ℕ) (chosen : List (List Bytes)) → IsChosen s q level ef chosen → All (All (λ name. is_member name s.contents.members ≡ true)) chosen
chosen_here s q level ef chosen h = by s.wiring.entry h
  where
    by : (o : Option Bytes) → MatchOption o (chosen ≡ replicate (level + 1) []) (λ e. IsChosenBelow s q level (level_at s e) ef chosen) → All (All (IsHere s q ef)) chosen
    by None e = subst (All (All (IsHere s q ef))) (sym e) (All-replicate (All (IsHere s q ef)) (level + 1) [] (All-nil (IsHere s q ef)))
    by (Some e) d =
        let top = level_at s e in
        subst (All (All (IsHere s q ef))) (sym d.4)
        (All-append (All (IsHere s q ef)) (replicate (level - top) []) d.1 (All-replicate (All (IsHere s q ef)) (level - top) [] (All-nil (IsHere s q ef)))
        (of_some (descent_start s d.0) (λ start. ChoosesFrom s q ef start (layers_down (min level top) 0) d.1) d.3 (λ start c. chooses_here s q ef start (layers_down (min level top) 0) d.1 c)))
