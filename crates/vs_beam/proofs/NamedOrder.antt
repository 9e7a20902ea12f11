-- The order of expansion over ids is one over names.
use Rattle.std.proofs.Common.{◌≡◌, ◌≢◌, ℕ, zero, suc, ◌+◌, ◌<◌, ◌≤◌, ◌⊎◌, inl, inr, Bool, true, false, ◌&&◌, cond, ltb, List, [], ◌∷◌, length, take, map, refl, sym, ap, ◌∙◌, subst, arith}
use Rattle.std.specs.Prelude.{filter, count_by, slice_index, IsTrue, AllPairs, Contains}
use Rattle.std.specs.List.{remove}
use Rattle.std.specs.List.Sorted.{IsPermutation}
use Rattle.std.specs.declared.option.Option.{Option}
use Rattle.std.proofs.lemmas.Bool.{and_parts, and_from}
use Rattle.std.proofs.lemmas.List.{length-map, get_or-take, get_or_default, length-take}
use Rattle.std.proofs.lemmas.List.Edits.{length-remove}
use Rattle.std.proofs.lemmas.List.Sums.{sum_by-cons, length-filter}
use Rattle.std.proofs.lemmas.List.Sorted.{IsPermutation-remove, Contains-permutation}
use Rattle.vs_graph.specs.declared.node.Node.{Node}
use Rattle.vs_graph.specs.Good.{IsLinked, StandsAt}
use Rattle.vs_rank.specs.declared.Key.{Key}
use Rattle.vs_beam.specs.Beam.{far_at, attr_at, IsKnown, IsNext}
use Rattle.vs_rank.specs.Tests.{Attribute}
use Rattle.vs_defs.specs.Bytes.{Bytes}
use Rattle.vs_beam.specs.Beam.{IsBeam}
use Rattle.vs_beam.proofs.Stages.{Stage, IsNamedBy, IsMet, IsNextName}
use Rattle.vs_beam.proofs.Names.{contains_map}

-- ---- no more than there are places

abbrev Apart : List Bytes → Type 0
Apart [] = Unit {0}
Apart (x ∷ xs) = (Contains xs x → ⊥) × Apart xs

apart_from_pairs : (xs : List Bytes) → AllPairs (λ a b. a ≢ b) xs → Apart xs
apart_from_pairs [] h = tt
apart_from_pairs (x ∷ xs) h = (
  (λ has. h zero (suc has.0) x (omega arith) (omega (arith, has.1)) (sym has.2)),
  apart_from_pairs xs (λ i j d before below e. h (suc i) (suc j) d (omega (arith, before)) (omega (arith, below)) e),
)

in_cons : {X : Type 0} (x y : X) (xs : List X) → Contains (x ∷ xs) y → (x ≡ y) ⊎ Contains xs y
in_cons x y xs (zero, below, e) = inl e
in_cons x y xs (suc k, below, e) = inr (k, omega (arith, below), e)

count_case : (b : Bool) (p : List ℕ → Bool) (x : List ℕ) (xs : List Bytes) (n : ℕ) → p x ≡ b → (b ≡ true → count_by p xs + 1 ≤ n) → (b ≡ false → count_by p xs ≤ n) → count_by p (x ∷ xs) ≤ n
count_case true p x xs n e taken left =
    let all : count_by p (x ∷ xs) ≡ 1 + count_by p xs = sum_by-cons (λ y. cond (p y) 1 0) x xs ∙ ap (λ c. cond c 1 0 + count_by p xs) e in
    omega (arith, all, taken refl)
count_case false p x xs n e taken left =
    let all : count_by p (x ∷ xs) ≡ 0 + count_by p xs = sum_by-cons (λ y. cond (p y) 1 0) x xs ∙ ap (λ c. cond c 1 0 + count_by p xs) e in
    omega (arith, all, left refl)

pub counted : (p : List ℕ → Bool) (xs ys : List Bytes) → Apart xs → ((x : List ℕ) → Contains xs x → p x ≡ true → Contains ys x) → count_by p xs ≤ length ys
counted p [] ys apart all = omega arith
counted p (x ∷ xs) ys apart all =
    count_case (p x) p x xs (length ys) refl
    (λ one.
    let has = all x (0, omega arith, refl) one in
    let rest = remove ys has.0 in
    let moved : IsPermutation ys (x ∷ rest) = IsPermutation-remove ys has.0 x has.1 (sym has.2) in
    let fewer : count_by p xs ≤ length rest = counted p xs rest apart.1 (λ z in_xs passes.
    elim (in_cons x z rest (Contains-permutation ys (x ∷ rest) z moved (all z (suc in_xs.0, omega (arith, in_xs.1), in_xs.2) passes))) [
      | inl e ↦ absurd (apart.0 (subst (λ n. Contains xs n) (sym e) in_xs))
      | inr h ↦ h
    ]) in
    omega (arith, fewer, length-remove ys has.0 has.1))
    (λ none. counted p xs ys apart.1 (λ z in_xs passes. all z (suc in_xs.0, omega (arith, in_xs.1), in_xs.2) passes))

keeps_case : (b : Bool) (x w : ℕ) (xs : List ℕ) → Contains xs w → Contains (cond b (x ∷ xs) xs) w
keeps_case true x w xs h = (suc h.0, omega (arith, h.1), h.2)
keeps_case false x w xs h = h

first_case : (b : Bool) (x w : ℕ) (xs : List ℕ) → b ≡ true → x ≡ w → Contains (cond b (x ∷ xs) xs) w
first_case true x w xs h e = (0, omega arith, e)
first_case false x w xs h e = absurd cc

contains_filter : (q : ℕ → Bool) (xs : List ℕ) (w : ℕ) → Contains xs w → q w ≡ true → Contains (filter q xs) w
contains_filter q [] w has h = absurd (omega (arith, has.1))
contains_filter q (x ∷ xs) w has h =
    elim (in_cons x w xs has) [
      | inl e ↦ first_case (q x) x w (filter q xs) (ap q e ∙ h) e
      | inr more ↦ keeps_case (q x) x w (filter q xs) (contains_filter q xs w more h)
    ]

unmap : (f : ℕ → List ℕ) (xs : List ℕ) (y : List ℕ) → Contains (map f xs) y → (x : ℕ) × Contains xs x × (f x ≡ y)
unmap f [] y has = absurd (omega (arith, has.1))
unmap f (x ∷ xs) y has =
    elim (in_cons (f x) y (map f xs) has) [
      | inl e ↦ (x, (0, omega arith, refl), e)
      | inr more ↦ (let rest = unmap f xs y more in (rest.0, (suc rest.1.0, omega (arith, rest.1.1), rest.1.2), rest.2))
    ]

module _ (at : ℕ → Option Node) (layer start : ℕ) (query : List ℕ) (width : ℕ) (passes : Attribute → Bool) (name : ℕ → Bytes) (stage : Stage)
    (by : IsNamedBy at layer query passes name stage) (stand : (a b : ℕ) → IsLinked at layer a b → StandsAt at layer a × StandsAt at layer b) (from : StandsAt at layer start)
    (before : List ℕ) (expanded_stand : (y : ℕ) → Contains before y → StandsAt at layer y) where
  known_stands : (w : ℕ) → IsKnown at layer start before w → StandsAt at layer w
  known_stands w (inl e) = subst (λ n. StandsAt at layer n) (sym e) from
  known_stands w (inr h) = (stand h.0 w h.2).1

  pub met_of : (w : ℕ) → IsKnown at layer start before w → IsMet stage (name start) (map name before) (name w)
  met_of w (inl e) = inl (ap name e)
  met_of w (inr h) = inr (name h.0, contains_map name before h.0 h.1, by.link h.0 w h.2)

  known_of : (x : List ℕ) → IsMet stage (name start) (map name before) x → (w : ℕ) × IsKnown at layer start before w × (name w ≡ x)
  known_of x (inl e) = (start, inl refl, sym e)
  known_of x (inr h) =
      let y = unmap name before h.0 h.1 in
      let w = by.from_link y.0 x (expanded_stand y.0 y.1) (subst (λ n. IsTrue (stage.linked n x)) (sym y.2) h.2) in
      (w.0, inr (y.0, y.1, w.1), w.2)

  pub next_name : (known : List ℕ) (v : ℕ) → IsNext at layer start query width passes before v known → IsNextName stage (name start) width (map name before) (name v)
  next_name known v h =
      let v_known = h.each_known v h.one_of_them in
      let v_far : stage.distance (name v) ≡ far_at at query v = by.far v (known_stands v v_known) in
      record {
        met = met_of v v_known;
        fewer = λ names is_met apart says.
            let q = λ (id : ℕ). passes (attr_at at id) && ltb (far_at at query id) (far_at at query v) in
            let ys = map name (filter q known) in
            let long : length ys ≡ count_by q known = length-map (filter q known) name ∙ length-filter q known in
            let most = counted (λ x. is_met x && stage.pass x && ltb (stage.distance x) (stage.distance (name v))) names ys (apart_from_pairs names apart) (λ x in_names passing.
            let parts = and_parts _ _ passing in
            let more = and_parts _ _ parts.0 in
            let w = known_of x (says x more.0) in
            let w_stands = known_stands w.0 w.1 in
            let pass : passes (attr_at at w.0) ≡ true = sym (by.passing w.0 w_stands) ∙ ap stage.pass w.2 ∙ more.1 in
            let far : far_at at query w.0 ≡ stage.distance x = sym (by.far w.0 w_stands) ∙ ap stage.distance w.2 in
            let near : ltb (far_at at query w.0) (far_at at query v) ≡ true = ap (λ n. ltb n (far_at at query v)) far ∙ ap (λ n. ltb (stage.distance x) n) (sym v_far) ∙ parts.1 in
            subst (λ n. Contains ys n) w.2 (contains_map name (filter q known) w.0 (contains_filter q known w.0 (h.all_known w.0 w.1) (and_from _ _ pass near)))) in
            omega (arith, most, long, h.fewer);
        nearest = λ x met not.
            let w = known_of x met in
            let near = h.nearest w.0 (h.all_known w.0 w.1) (λ has. not (subst (λ n. Contains (map name before) n) w.2 (contains_map name before w.0 has))) in
            let far : stage.distance x ≡ far_at at query w.0 = ap stage.distance (sym w.2) ∙ by.far w.0 (known_stands w.0 w.1) in
            omega (arith, near, far, v_far);
      }

in_take : (i : ℕ) (xs : List ℕ) (y : ℕ) → Contains (take i xs) y → Contains xs y
in_take i xs y has =
    let inside : (has.0 < i) × (has.0 < length xs) = (omega (arith, has.1, length-take i xs), omega (arith, has.1, length-take i xs)) in
    (has.0, inside.1, sym (get_or-take i xs has.0 y inside.0) ∙ has.2)

known_stand : (at : ℕ → Option Node) (layer start : ℕ) (before : List ℕ) (w : ℕ) → ((a b : ℕ) → IsLinked at layer a b → StandsAt at layer a × StandsAt at layer b) → StandsAt at layer start → IsKnown at layer start before w → StandsAt at layer w
known_stand at layer start before w stand from (inl e) = subst (λ n. StandsAt at layer n) (sym e) from
known_stand at layer start before w stand from (inr h) = (stand h.0 w h.2).1

-- those that a beam expanded stand at the layer
pub each_expanded_stands : (at : ℕ → Option Node) (layer start : ℕ) (query : List ℕ) (width effort : ℕ) (passes : Attribute → Bool) (tried expanded : List ℕ) (found : List Key)
    → ((a b : ℕ) → IsLinked at layer a b → StandsAt at layer a × StandsAt at layer b) → StandsAt at layer start
    → IsBeam at layer start query width effort passes tried expanded found → (y : ℕ) → Contains expanded y → StandsAt at layer y
each_expanded_stands at layer start query width effort passes tried expanded found stand from beam y has =
    let one = beam.order has.0 has.1 in
    let there = known_stand at layer start (take has.0 expanded) (slice_index expanded has.0) stand from (one.1.each_known _ one.1.one_of_them) in
    subst (λ n. StandsAt at layer n) (get_or_default expanded has.0 0 y has.1 ∙ has.2) there

pub expansion_is_named : (at : ℕ → Option Node) (layer start : ℕ) (query : List ℕ) (width effort : ℕ) (passes : Attribute → Bool) (name : ℕ → Bytes) (stage : Stage) (tried expanded : List ℕ) (found : List Key)
    → IsNamedBy at layer query passes name stage → ((a b : ℕ) → IsLinked at layer a b → StandsAt at layer a × StandsAt at layer b) → StandsAt at layer start
    → IsBeam at layer start query width effort passes tried expanded found
    → (i : ℕ) → i < length expanded → IsNextName stage (name start) width (map name (take i expanded)) (name (slice_index expanded i))
expansion_is_named at layer start query width effort passes name stage tried expanded found by stand from beam i below =
    let stands : (y : ℕ) → Contains expanded y → StandsAt at layer y = each_expanded_stands at layer start query width effort passes tried expanded found stand from beam in
    let this = beam.order i below in
    next_name at layer start query width passes name stage by stand from (take i expanded) (λ y has. stands y (in_take i expanded y has)) this.0 (slice_index expanded i) this.1
