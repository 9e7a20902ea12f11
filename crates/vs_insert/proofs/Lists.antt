-- The definitions' choice: one list for each layer, each of at most M members of the layer, all different.
use Rattle.std.proofs.Common.{◌≡◌, ◌≢◌, ℕ, zero, suc, ◌+◌, ◌-◌, ◌<◌, ◌≤◌, ◌⊎◌, Bool, true, false, not, min, List, [], ◌∷◌, ◌++◌, length, take, get_or, refl, sym, ap, ◌∙◌, subst, arith, inl, inr}
use Rattle.std.specs.Prelude.{Some, None, IsTrue, nat_lt, MatchOption, All, AllPairs, filter, replicate}
use Rattle.std.specs.List.{list_any}
use Rattle.std.specs.declared.option.Option.{Option}
use Rattle.std.proofs.Math.ListN.{get_or-append}
use Rattle.std.proofs.Math.Nat.{min-eq_left, min-eq_right}
use Rattle.std.proofs.lemmas.Bool.{and_parts, cases_lt, ltb-true}
use Rattle.std.proofs.lemmas.List.{length-append, length-replicate, get_or-append_right}
use Rattle.std.proofs.lemmas.List.Elements.{All-cons, All-filter, All-take}
use Rattle.std.proofs.lemmas.List.Kept.{AllPairs-cons, AllPairs-filter}
use Rattle.vs_defs.specs.Bytes.{Bytes, first_in}
use Rattle.vs_defs.specs.Vector.{Vector, ham}
use Rattle.vs_defs.specs.Store.{Set}
use Rattle.vs_defs.specs.Links.{bits_at, stands_at}
use Rattle.vs_defs.specs.Linking.{is_choice, selected_behind, selected}
use Rattle.vs_defs.specs.Beam.{IsBeam, layers_down, level_at, descent_start}
use Rattle.vs_defs.specs.Insertion.{ChoosesFrom, IsChosenBelow, IsChosen, pass_all}
use Rattle.vs_insert.specs.Joined.{layers_below}
use Rattle.vs_insert.proofs.Named.{layers_are}
use Rattle.vs_insert.specs.Chosen.{AreLayerNames, AreChosenNames}

-- ---- lists

no_pairs : {X : Type 0} (R : X → X → Type 0) → AllPairs R []
no_pairs R = λ i j d less short. absurd (omega (arith, short))

first_apart : {X : Type 0} (R : X → X → Type 0) (x : X) (xs : List X) → AllPairs R (x ∷ xs) → All (R x) xs
first_apart R x xs h = λ k d less. h 0 (suc k) d (omega arith) (omega (arith, less))

rest_apart : {X : Type 0} (R : X → X → Type 0) (x : X) (xs : List X) → AllPairs R (x ∷ xs) → AllPairs R xs
rest_apart R x xs h = λ i j d less short. h (suc i) (suc j) d (omega (arith, less)) (omega (arith, short))

pairs_take : {X : Type 0} (R : X → X → Type 0) (n : ℕ) (xs : List X) → AllPairs R xs → AllPairs R (take n xs)
pairs_take R zero xs h = no_pairs R
pairs_take R (suc n) [] h = no_pairs R
pairs_take R (suc n) (x ∷ xs) h = AllPairs-cons R x (take n xs) (All-take (R x) n xs (first_apart R x xs h)) (pairs_take R n xs (rest_apart R x xs h))

-- ---- one choice

module _ (bits : Bytes → Vector) (q : Vector) (m : ℕ) where
  abbrev Behind : List Bytes → Bytes → List Bytes → Bool → List Bytes
  Behind chosen c cs b = elim b [ true ↦ c ∷ selected_behind bits q m (chosen ++ c ∷ []) cs | false ↦ selected_behind bits q m chosen cs ]

  all_by : (P : Bytes → Type 0) (chosen : List Bytes) (c : Bytes) (cs : List Bytes) (b : Bool) → P c → All P (selected_behind bits q m (chosen ++ c ∷ []) cs) → All P (selected_behind bits q m chosen cs) → All P (Behind chosen c cs b)
  all_by P chosen c cs true h more same = All-cons P c (selected_behind bits q m (chosen ++ c ∷ []) cs) h more
  all_by P chosen c cs false h more same = same

  behind_all : (P : Bytes → Type 0) (names chosen : List Bytes) → All P names → All P (selected_behind bits q m chosen names)
  behind_all P [] chosen h = h
  behind_all P (c ∷ cs) chosen h =
      let rest : All P cs = λ k d less. h (suc k) d (omega (arith, less)) in
      all_by P chosen c cs (is_choice bits q m chosen c) (h 0 c (omega arith)) (behind_all P cs (chosen ++ c ∷ []) rest) (behind_all P cs chosen rest)

  apart_by : (chosen : List Bytes) (c : Bytes) (cs : List Bytes) (b : Bool) → All (λ d. c ≢ d) (selected_behind bits q m (chosen ++ c ∷ []) cs) → AllPairs (λ a b. a ≢ b) (selected_behind bits q m (chosen ++ c ∷ []) cs)
      → AllPairs (λ a b. a ≢ b) (selected_behind bits q m chosen cs) → AllPairs (λ a b. a ≢ b) (Behind chosen c cs b)
  apart_by chosen c cs true other more same = AllPairs-cons (λ (a b : Bytes). a ≢ b) c (selected_behind bits q m (chosen ++ c ∷ []) cs) other more
  apart_by chosen c cs false other more same = same

  behind_apart : (names chosen : List Bytes) → AllPairs (λ a b. a ≢ b) names → AllPairs (λ a b. a ≢ b) (selected_behind bits q m chosen names)
  behind_apart [] chosen h = h
  behind_apart (c ∷ cs) chosen h =
      let rest = rest_apart (λ (a b : Bytes). a ≢ b) c cs h in
      apart_by chosen c cs (is_choice bits q m chosen c) (behind_all (λ b. c ≢ b) cs (chosen ++ c ∷ []) (first_apart (λ (a b : Bytes). a ≢ b) c cs h)) (behind_apart cs (chosen ++ c ∷ []) rest) (behind_apart cs chosen rest)

  few_by : (chosen : List Bytes) (c : Bytes) (cs : List Bytes) (b : Bool) → is_choice bits q m chosen c ≡ b
      → (length (chosen ++ c ∷ []) ≤ m → length (chosen ++ c ∷ []) + length (selected_behind bits q m (chosen ++ c ∷ []) cs) ≤ m)
      → length chosen + length (selected_behind bits q m chosen cs) ≤ m → length chosen + length (Behind chosen c cs b) ≤ m
  few_by chosen c cs true e more same =
      let room : length chosen < m
      = ltb-true (length chosen) m (and_parts (nat_lt (length chosen) m) (not (list_any (λ s. nat_lt (ham (bits s) (bits c)) (ham q (bits c))) chosen)) e).0 in
      let one : length (chosen ++ c ∷ []) ≡ length chosen + 1 = length-append chosen (c ∷ []) in
      let all : length (chosen ++ c ∷ []) + length (selected_behind bits q m (chosen ++ c ∷ []) cs) ≤ m = more (omega (arith, one, room)) in
      omega (arith, all, one)
  few_by chosen c cs false e more same = same

  behind_few : (names chosen : List Bytes) → length chosen ≤ m → length chosen + length (selected_behind bits q m chosen names) ≤ m
  behind_few [] chosen h = omega (arith, h)
  behind_few (c ∷ cs) chosen h = few_by chosen c cs (is_choice bits q m chosen c) refl (behind_few cs (chosen ++ c ∷ [])) (behind_few cs chosen h)

no_names : (s : Set) (layer : ℕ) → AreLayerNames s layer []
no_names s layer = record { few = omega arith; once = no_pairs (λ (a b : Bytes). a ≢ b); stand = λ k d less. absurd (omega (arith, less)) }

module _ (s : Set) (q : Vector) (ef : ℕ) where
  one_layer : (layer : ℕ) (start : Bytes) (tried found names : List Bytes) → IsBeam s q layer start ef 0 pass_all tried found → names ≡ selected (bits_at s.contents.members) q s.contents.m found → AreLayerNames s layer names
  one_layer layer start tried found names beam is =
      let bits = bits_at s.contents.members in
      let m = s.contents.m in
      let differ : AllPairs (λ (a b : Bytes). a ≢ b) found
      = subst (AllPairs (λ (a b : Bytes). a ≢ b)) (sym beam.best) (pairs_take (λ (a b : Bytes). a ≢ b) ef (filter pass_all tried) (AllPairs-filter (λ (a b : Bytes). a ≢ b) pass_all tried beam.distinct)) in
      let stand : All (λ name. IsTrue (stands_at s.contents.members layer name)) found
      = subst (All (λ name. IsTrue (stands_at s.contents.members layer name))) (sym beam.best)
      (All-take (λ name. IsTrue (stands_at s.contents.members layer name)) ef (filter pass_all tried) (All-filter pass_all (λ name. IsTrue (stands_at s.contents.members layer name)) tried beam.stand)) in
      subst (AreLayerNames s layer) (sym is)
      (record { few = omega (arith, behind_few bits q m found [] (omega arith)); once = behind_apart bits q m found [] differ; stand = behind_all bits q m (λ name. IsTrue (stands_at s.contents.members layer name)) found [] stand })

  rest_of : (ls : List ℕ) (cs : List (List Bytes)) (o : Option Bytes) → MatchOption o ⊥ (λ next. ChoosesFrom s q ef next ls cs) → (next : Bytes) × ChoosesFrom s q ef next ls cs
  rest_of ls cs None h = absurd h
  rest_of ls cs (Some next) h = (next, h)

  all_layers : (ls : List ℕ) (cs : List (List Bytes)) (start : Bytes) → ChoosesFrom s q ef start ls cs
      → (length cs ≡ length ls) × ((i : ℕ) (d : List Bytes) → i < length cs → AreLayerNames s (get_or ls i 0) (get_or cs i d))
  all_layers [] [] start h = (refl, λ i d less. absurd (omega (arith, less)))
  all_layers [] (c ∷ cs) start h = absurd h
  all_layers (l ∷ ls) [] start h = absurd h
  all_layers (l ∷ ls) (c ∷ cs) start h =
      let next = rest_of ls cs (first_in h.1) h.4 in
      let later = all_layers ls cs next.0 next.1 in
      (ap suc later.0, each later.1) where
        each : ((i : ℕ) (d : List Bytes) → i < length cs → AreLayerNames s (get_or ls i 0) (get_or cs i d)) → (i : ℕ) (d : List Bytes) → i < suc (length cs) → AreLayerNames s (get_or (l ∷ ls) i 0) (get_or (c ∷ cs) i d)
        each later zero d less = one_layer l start h.0 h.1 c h.2 h.3
        each later (suc i) d less = later i d (omega (arith, less))

-- ---- all layers

below_long : (n : ℕ) → length (layers_below n) ≡ n
below_long zero = refl
below_long (suc n) = ap suc (below_long n)

below_at : (n i : ℕ) → i < n → get_or (layers_below n) i 0 + i + 1 ≡ n
below_at zero i h = absurd (omega (arith, h))
below_at (suc n) zero h = omega arith
below_at (suc n) (suc i) h = omega (arith, below_at n i (omega (arith, h)))

empty_at : (n i : ℕ) (d : List Bytes) → i < n → get_or (replicate n []) i d ≡ []
empty_at zero i d h = absurd (omega (arith, h))
empty_at (suc n) zero d h = refl
empty_at (suc n) (suc i) d h = empty_at n i d (omega (arith, h))

module _ (s : Set) (q : Vector) (level ef : ℕ) where
  none_chosen : (chosen : List (List Bytes)) → chosen ≡ replicate (level + 1) [] → AreChosenNames s level chosen
  none_chosen chosen is =
      subst (AreChosenNames s level) (sym is)
      (record {
        layers = length-replicate (level + 1) [];
        lists = λ i d h. subst (AreLayerNames s (level - i)) (sym (empty_at (level + 1) i d (omega (arith, h, length-replicate {A = List Bytes} (level + 1) [])))) (no_names s (level - i));
      })

  shared_is : (top : ℕ) → (level - top) + min level top ≡ level
  shared_is top = elim (cases_lt top level) [
    | inl above ↦ (let le : top ≤ level = omega (arith, above) in let least : min level top ≡ top = min-eq_right le in omega (arith, above, least))
    | inr below ↦ (let le : level ≤ top = omega (arith, below) in let least : min level top ≡ level = min-eq_left le in omega (arith, below, least))
  ]

  module _ (top : ℕ) (cs : List (List Bytes)) (start : Bytes) (h : ChoosesFrom s q ef start (layers_below (suc (min level top))) cs) where
    long : length cs ≡ suc (min level top)
    long = (all_layers s q ef (layers_below (suc (min level top))) cs start h).0 ∙ below_long (suc (min level top))

    each_list : (i : ℕ) (d : List Bytes) → i < length (replicate (level - top) [] ++ cs) → (i < level - top) ⊎ (level - top ≤ i) → AreLayerNames s (level - i) (get_or (replicate (level - top) [] ++ cs) i d)
    each_list i d less (inl low) =
        subst (AreLayerNames s (level - i))
        (sym (get_or-append (replicate (level - top) []) cs d i (omega (arith, low, length-replicate {A = List Bytes} (level - top) [])) ∙ empty_at (level - top) i d low)) (no_names s (level - i))
    each_list i d less (inr high) =
        let k = i - (level - top) in
        let inside : k < length cs = omega (arith, less, high, length-append (replicate (level - top) []) cs, length-replicate {A = List Bytes} (level - top) []) in
        let layer : get_or (layers_below (suc (min level top))) k 0 ≡ level - i = omega (arith, below_at (suc (min level top)) k (omega (arith, inside, long)), shared_is top, high, inside, long) in
        subst (λ l. AreLayerNames s l (get_or (replicate (level - top) [] ++ cs) i d)) layer
        (subst (AreLayerNames s (get_or (layers_below (suc (min level top))) k 0)) (sym (get_or-append_right (replicate (level - top) []) cs (level - top) i d (length-replicate (level - top) []) high))
        ((all_layers s q ef (layers_below (suc (min level top))) cs start h).1 k d inside))

    some_chosen : (chosen : List (List Bytes)) → chosen ≡ replicate (level - top) [] ++ cs → AreChosenNames s level chosen
    some_chosen chosen is =
        subst (AreChosenNames s level) (sym is)
        (record {
          layers = omega (arith, length-append (replicate (level - top) []) cs, length-replicate {A = List Bytes} (level - top) [], long, shared_is top);
          lists = λ i d less. each_list i d less (elim (cases_lt i (level - top)) [ inl low ↦ inl low | inr high ↦ inr high ]);
        })

  by_start : (top : ℕ) (cs chosen : List (List Bytes)) (o : Option Bytes) → MatchOption o ⊥ (λ start. ChoosesFrom s q ef start (layers_down (min level top) 0) cs) → chosen ≡ replicate (level - top) [] ++ cs → AreChosenNames s level chosen
  by_start top cs chosen None h is = absurd h
  by_start top cs chosen (Some start) h is = some_chosen top cs start (subst (λ ls. ChoosesFrom s q ef start ls cs) (layers_are (min level top)) h) chosen is

  by_entry : (chosen : List (List Bytes)) (entry : Option Bytes) → MatchOption entry (chosen ≡ replicate (level + 1) []) (λ e. IsChosenBelow s q level (level_at s e) ef chosen) → AreChosenNames s level chosen
  by_entry chosen None is = none_chosen chosen is
  by_entry chosen (Some e) h = by_start (level_at s e) h.1 chosen (descent_start s h.0) h.3 h.4

  pub chosen_names : (chosen : List (List Bytes)) → IsChosen s q level ef chosen → AreChosenNames s level chosen
  chosen_names chosen h = by_entry chosen s.wiring.entry h
