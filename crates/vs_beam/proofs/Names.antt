-- A beam over ids is one over names.
use Rattle.std.proofs.Common.{◌≡◌, ◌≢◌, ℕ, suc, ◌-◌, ◌<◌, ◌≤◌, ◌⊎◌, inl, inr, Bool, true, false, cond, List, [], ◌∷◌, length, take, map, get_or, refl, sym, ap, ◌∙◌, subst, arith, append-nil, length-take}
use Rattle.std.specs.Prelude.{filter, slice_get, Some, IsTrue, All, AllPairs, Contains}
use Rattle.std.specs.List.{AllByRecursion}
use Rattle.std.specs.List.Sorted.{IsPermutation}
use Rattle.std.specs.declared.option.Option.{Option}
use Rattle.std.proofs.lemmas.List.{get_or-map, get_or-take, length-map, take-map}
use Rattle.std.proofs.lemmas.List.Elements.{All-map, All-take, All-filter, Contains-get_or, recursion_from_All}
use Rattle.std.proofs.lemmas.List.Sorted.{IsPermutation-map, IsPermutation-sym, All-permutation, Contains-permutation, length_permutation}
use Rattle.vs_graph.specs.declared.node.Node.{Node}
use Rattle.vs_graph.specs.Good.{StandsAt}
use Rattle.vs_rank.specs.declared.Key.{Key}
use Rattle.vs_rank.proofs.Keys.{same_sorted, rises_sorted, ascends_from_rises}
use Rattle.vs_beam.specs.Beam.{far_at, key_at, attr_at, ranked, IsBeam, IsClose, IsSpent, AreDifferent}
use Rattle.vs_beam.specs.Searching.{ids_of}
use Rattle.vs_rank.specs.Tests.{Attribute}
use Rattle.vs_defs.specs.Bytes.{Bytes, first_in, last_in}
use Rattle.vs_beam.proofs.Stages.{Stage, IsNearerThanLast, IsNamedBeam, IsNamedBy, names_of}
use Rattle.vs_beam.proofs.Steps.{last_of, at_most_dist, ranked_keys, expanded_once}

pub contains_map : {X Y : Type 0} (f : X → Y) (xs : List X) (x : X) → Contains xs x → Contains (map f xs) (f x)
contains_map f xs x has = (has.0, subst (λ n. has.0 < n) (sym (length-map xs f)) has.1, get_or-map f xs has.0 x (f x) has.1 ∙ ap f has.2)

first_name : (name : ℕ → Bytes) (ids : List ℕ) (start : ℕ) → slice_get ids 0 ≡ Some start → first_in (map name ids) ≡ Some (name start)
first_name name [] start h = cc
first_name name (x ∷ xs) start h = let e : x ≡ start = cc in ap (λ n. Some (name n)) e

filter_case : (b c : Bool) (name : ℕ → Bytes) (key : Key) (keys : List Key) (names : List Bytes) → c ≡ b → names_of name keys ≡ names
    → names_of name (cond b (key ∷ keys) keys) ≡ cond c (name key.id ∷ names) names
filter_case true c name key keys names e h = rw e (ap (λ (l : List Bytes). name key.id ∷ l) h)
filter_case false c name key keys names e h = rw e h

filter_names : (name : ℕ → Bytes) (p : Key → Bool) (pass : List ℕ → Bool) (keys : List Key) → AllByRecursion (λ key. pass (name key.id) ≡ p key) keys
    → names_of name (filter p keys) ≡ filter pass (names_of name keys)
filter_names name p pass [] h = refl
filter_names name p pass (key ∷ keys) h = filter_case (p key) (pass (name key.id)) name key (filter p keys) (filter pass (names_of name keys)) h.0 (filter_names name p pass keys h.1)

last_names : (name : ℕ → Bytes) (found : List Key) (d : Key) → 0 < length found → last_in (names_of name found) ≡ Some (name (get_or found (length found - 1) d).id)
last_names name [] d some = absurd (omega arith)
last_names name (x ∷ []) d some = refl
last_names name (x ∷ y ∷ ys) d some =
    let rest = last_names name (y ∷ ys) d (omega arith) in
    let e : length (x ∷ y ∷ ys) - 1 ≡ suc (length (y ∷ ys) - 1) = omega arith in
    rest ∙ ap (λ n. Some (name (get_or (x ∷ y ∷ ys) n d).id)) (sym e)

map_ids : (name : ℕ → Bytes) (keys : List Key) → map name (ids_of keys) ≡ names_of name keys
map_ids name [] = refl
map_ids name (key ∷ keys) = ap (λ (l : List Bytes). name key.id ∷ l) (map_ids name keys)

none_last : (found : List Key) (name : ℕ → Bytes) (stage : Stage) (v : List ℕ) → IsNearerThanLast stage (names_of name found) v → 0 < length found
none_last [] name stage v h = absurd h
none_last (x ∷ xs) name stage v h = omega arith

module _ (at : ℕ → Option Node) (layer start : ℕ) (query : List ℕ) (ef effort : ℕ) (passes : Attribute → Bool) (name : ℕ → Bytes) (stage : Stage) (tried expanded : List ℕ) (found : List Key)
    (by : IsNamedBy at layer query passes name stage) (beam : IsBeam at layer start query ef effort passes tried expanded found) where
  ids_keys : (ids : List ℕ) → ids_of (map (key_at at query) ids) ≡ ids
  ids_keys [] = refl
  ids_keys (x ∷ xs) = ap (λ (l : List ℕ). x ∷ l) (ids_keys xs)

  same_ids : IsPermutation tried (ids_of (ranked at query tried))
  same_ids = subst (λ l. IsPermutation l (ids_of (ranked at query tried))) (ids_keys tried) (IsPermutation-map (λ (key : Key). key.id) (map (key_at at query) tried) (ranked at query tried) (same_sorted (map (key_at at query) tried)))

  long : length (ranked at query tried) ≡ length tried
  long = sym (length-map (ranked at query tried) (λ (key : Key). key.id)) ∙ length_permutation _ _ same_ids

  long_names : length (names_of name (ranked at query tried)) ≡ length tried
  long_names = length-map (ranked at query tried) (λ (key : Key). name key.id) ∙ long

  -- each ranked key is that of a member of the layer
  standing : All (λ key. StandsAt at layer key.id) (ranked at query tried)
  standing k d below =
      let id : get_or (ids_of (ranked at query tried)) k (get_or (ranked at query tried) k d).id ≡ (get_or (ranked at query tried) k d).id = get_or-map (λ (key : Key). key.id) (ranked at query tried) k d _ below in
      subst (λ n. StandsAt at layer n) id
      (All-permutation (StandsAt at layer) tried (ids_of (ranked at query tried)) same_ids beam.stand k _ (subst (λ n. k < n) (sym (length-map (ranked at query tried) (λ (key : Key). key.id))) below))

  name_at : (k : ℕ) (d : List ℕ) (e : Key) → k < length (ranked at query tried) → get_or (names_of name (ranked at query tried)) k d ≡ name (get_or (ranked at query tried) k e).id
  name_at k d e below = get_or-map (λ (key : Key). name key.id) (ranked at query tried) k e d below

  distance_at : (k : ℕ) (e : Key) → k < length (ranked at query tried) → stage.distance (name (get_or (ranked at query tried) k e).id) ≡ (get_or (ranked at query tried) k e).dist
  distance_at k e below = by.far _ (standing k e below) ∙ sym (ap (λ (key : Key). key.dist) (ranked_keys at layer query tried k e below))

  distinct : AllPairs (λ a b. a ≢ b) (names_of name (ranked at query tried))
  distinct i j d before below same =
      let r = ranked at query tried in
      let e = key_at at query 0 in
      let j_in : j < length r = subst (λ n. j < n) (length-map r (λ (key : Key). name key.id)) below in
      let i_in : i < length r = omega (arith, before, j_in) in
      let ids : (get_or r i e).id ≡ (get_or r j e).id = by.apart _ _ (standing i e i_in) (standing j e j_in) (sym (name_at i d e i_in) ∙ same ∙ name_at j d e j_in) in
      let once : AreDifferent (ids_of r) = expanded_once at layer query tried (ids_of r) [] beam.once (subst (λ l. IsPermutation tried l) (sym (append-nil (ids_of r))) same_ids) in
      once i j 0 before (subst (λ n. j < n) (sym (length-map r (λ (key : Key). key.id))) j_in)
      (get_or-map (λ (key : Key). key.id) r i e 0 i_in ∙ ids ∙ sym (get_or-map (λ (key : Key). key.id) r j e 0 j_in))

  sorted : (i j : ℕ) (d : List ℕ) → i ≤ j → j < length (names_of name (ranked at query tried)) → stage.distance (get_or (names_of name (ranked at query tried)) i d) ≤ stage.distance (get_or (names_of name (ranked at query tried)) j d)
  sorted i j d order below =
      let r = ranked at query tried in
      let e = key_at at query 0 in
      let j_in : j < length r = subst (λ n. j < n) (length-map r (λ (key : Key). name key.id)) below in
      let i_in : i < length r = omega (arith, order, j_in) in
      let dist : (get_or r i e).dist ≤ (get_or r j e).dist = at_most_dist (get_or r i e) (get_or r j e) (ascends_from_rises r (rises_sorted (map (key_at at query) tried)) i j e order j_in) in
      let one : stage.distance (get_or (names_of name r) i d) ≡ (get_or r i e).dist = ap stage.distance (name_at i d e i_in) ∙ distance_at i e i_in in
      let two : stage.distance (get_or (names_of name r) j d) ≡ (get_or r j e).dist = ap stage.distance (name_at j d e j_in) ∙ distance_at j e j_in in
      omega (arith, dist, one, two)

  best : names_of name found ≡ take ef (filter stage.pass (names_of name (ranked at query tried)))
  best =
      let r = ranked at query tried in
      let p = λ (key : Key). passes (attr_at at key.id) in
      let all : names_of name (filter p r) ≡ filter stage.pass (names_of name r) = filter_names name p stage.pass r (recursion_from_All (λ (key : Key). stage.pass (name key.id) ≡ p key) r (λ k d below. by.passing _ (standing k d below))) in
      ap (names_of name) beam.best ∙ sym (take-map (λ (key : Key). name key.id) ef (filter p r)) ∙ ap (take ef) all

  -- the keys that were found are ranked
  found_keys : All (λ key. (key ≡ key_at at query key.id) × StandsAt at layer key.id) found
  found_keys =
      let P = λ (key : Key). (key ≡ key_at at query key.id) × StandsAt at layer key.id in
      subst (λ l. All (λ key. (key ≡ key_at at query key.id) × StandsAt at layer key.id) l) (sym beam.best)
      (All-take (λ key. (key ≡ key_at at query key.id) × StandsAt at layer key.id) ef _ (All-filter (λ (key : Key). passes (attr_at at key.id)) (λ key. (key ≡ key_at at query key.id) × StandsAt at layer key.id) (ranked at query tried) (λ k d below. (ranked_keys at layer query tried k d below, standing k d below))))

  close_of : (i : ℕ) (d : List ℕ) (e : Key) → i < length (ranked at query tried)
      → (i < ef) ⊎ (IsNearerThanLast stage (names_of name found) (get_or (names_of name (ranked at query tried)) i d) ⊎ (length (names_of name found) < ef))
      → IsClose at query ef tried found (get_or (ranked at query tried) i e).id
  close_of i d e below (inl h) =
      let r = ranked at query tried in
      let v = (get_or r i e).id in
      let inside : i < length (take ef r) = omega (arith, h, below, length-take ef r) in
      inl (
        i,
        subst (λ n. i < n) (sym (length-map (take ef r) (λ (key : Key). key.id))) inside,
        get_or-map (λ (key : Key). key.id) (take ef r) i e v inside ∙ ap (λ (key : Key). key.id) (get_or-take ef r i e h),
      )
  close_of i d e below (inr (inl h)) =
      let r = ranked at query tried in
      let some : 0 < length found = none_last found name stage _ h in
      let n = length found - 1 in
      let last = get_or found n e in
      let known = found_keys n e (omega (arith, some)) in
      let nearer : stage.distance (get_or (names_of name r) i d) < stage.distance (name last.id) = rw (last_names name found e some) at h in
      let one : stage.distance (get_or (names_of name r) i d) ≡ far_at at query (get_or r i e).id = ap stage.distance (name_at i d e below) ∙ by.far _ (standing i e below) in
      let two : stage.distance (name last.id) ≡ last.dist = by.far last.id known.1 ∙ sym (ap (λ (key : Key). key.dist) known.0) in
      let less : far_at at query (get_or r i e).id < last.dist = omega (arith, nearer, one, two) in
      inr (inr (rw (last_of found e some) less))
  close_of i d e below (inr (inr h)) = inr (inl (subst (λ n. n < ef) (length-map found (λ (key : Key). name key.id)) h))

  not_spent : (effort ≡ 0) ⊎ (length (names_of name (ranked at query tried)) < effort) → IsSpent effort tried → ⊥
  not_spent (inl e) spent = omega (arith, e, spent.0)
  not_spent (inr h) spent = omega (arith, h, spent.1, long_names)

  closed : (effort ≡ 0) ⊎ (length (names_of name (ranked at query tried)) < effort) → (i : ℕ) (d b : List ℕ) → i < length (names_of name (ranked at query tried))
      → (i < ef) ⊎ (IsNearerThanLast stage (names_of name found) (get_or (names_of name (ranked at query tried)) i d) ⊎ (length (names_of name found) < ef))
      → IsTrue (stage.linked (get_or (names_of name (ranked at query tried)) i d) b) → Contains (names_of name (ranked at query tried)) b
  closed free i d b below close link =
      let r = ranked at query tried in
      let e = key_at at query 0 in
      let i_in : i < length r = subst (λ n. i < n) (length-map r (λ (key : Key). name key.id)) below in
      let v = (get_or r i e).id in
      let there : Contains r (get_or r i e) = Contains-get_or r i e i_in in
      let has : Contains tried v = Contains-permutation (ids_of r) tried v (IsPermutation-sym _ _ same_ids) (contains_map (λ (key : Key). key.id) r (get_or r i e) there) in
      let other = by.from_link v b (standing i e i_in) (subst (λ n. IsTrue (stage.linked n b)) (name_at i d e i_in) link) in
      let in_tried : Contains tried other.0 = beam.closed (not_spent free) v other.0 has (close_of i d e i_in close) other.1 in
      let in_ids : Contains (ids_of r) other.0 = Contains-permutation tried (ids_of r) other.0 same_ids in_tried in
      subst (λ n. Contains (names_of name r) n) other.2 (subst (λ l. Contains l (name other.0)) (map_ids name r) (contains_map name (ids_of r) other.0 in_ids))

  reached : (j : ℕ) (d : List ℕ) → 0 < j → j < length (map name tried) → (i : ℕ) × (i < j) × IsTrue (stage.linked (get_or (map name tried) i d) (get_or (map name tried) j d))
  reached j d pos below =
      let j_in : j < length tried = subst (λ n. j < n) (length-map tried name) below in
      let old = beam.reached j pos j_in in
      let from : get_or (map name tried) old.0 d ≡ name (get_or tried old.0 0) = get_or-map name tried old.0 0 d (omega (arith, old.1, j_in)) in
      let to : get_or (map name tried) j d ≡ name (get_or tried j 0) = get_or-map name tried j 0 d j_in in
      (old.0, old.1, rw (from, to) (by.link _ _ old.2))

  pub same_names : IsPermutation (names_of name (ranked at query tried)) (map name tried)
  same_names = subst (λ l. IsPermutation l (map name tried)) (map_ids name (ranked at query tried)) (IsPermutation-map name (ids_of (ranked at query tried)) tried (IsPermutation-sym _ _ same_ids))

  pub is_named : IsNamedBeam stage (name start) ef effort (names_of name (ranked at query tried)) (names_of name found)
  is_named = record {
    distinct = distinct;
    stand = All-map (λ a. IsTrue (stage.stands a)) (λ (key : Key). name key.id) (ranked at query tried) (λ k d below. by.standing _ (standing k d below));
    sorted = sorted;
    order = map name tried;
    same = same_names;
    first = first_name name tried start beam.start_first;
    reached = reached;
    best = best;
    limit = λ pos. subst (λ n. n ≤ effort) (sym long_names) (beam.few pos);
    closed = closed;
  }
