-- What each step of a search keeps.
use Rattle.std.proofs.Common.{◌≡◌, ◌≢◌, ℕ, zero, suc, ◌-◌, ◌<◌, ◌≤◌, inl, inr, Bool, true, false, ◌&&◌, cond, List, [], ◌∷◌, ◌++◌, length, take, map, get_or, min, refl, sym, ap, ◌∙◌, subst, arith, ltb, Some, length-append, length-take}
use Rattle.std.specs.Prelude.{filter, count_by, slice_get, slice_index, All, Contains, not, slice_set, nat_eq}
use Rattle.std.specs.List.Sorted.{IsPermutation}
use Rattle.std.specs.declared.option.Option.{Option}
use Rattle.std.specs.Option.{option_map_or}
use Rattle.std.proofs.lemmas.Bool.Decides.{nat_tests, Decides-eqb}
use Rattle.std.proofs.lemmas.Map.Keys.{IsDistinct-IsPermutation}
use Rattle.std.proofs.lemmas.Map.Made.{AllPairs-from_IsDistinct, IsDistinct-from_AllPairs}
use Rattle.std.proofs.lemmas.Bool.{cases_eq, cases_lt, and_parts, and_cases, leb-true, leb-false, false≢true, true≢false}
use Rattle.std.proofs.lemmas.List.{map_push, length_push, get_or_push, get_or_append_left, get_or-set_same, get_or-set_other, get_or_default, take-append-le, get_or-take, take_at, get_or-map, length-map}
use Rattle.std.proofs.lemmas.List.Elements.{All-map, All-nil, All-push, All-cons, All-tail, All-head, All-contains, All-weaker, Contains-push, Contains-push_cases, Contains-append_left, Contains-append_cases, Contains-get_or}
use Rattle.std.proofs.lemmas.List.Quantifiers.{all_pairs_push}
use Rattle.std.proofs.lemmas.List.Sorted.{IsPermutation-sym, IsPermutation-map, IsPermutation-trans, IsPermutation-push_more, IsPermutation-pop_more, IsPermutation-middle, IsPermutation-append_right, All-permutation, Contains-permutation, sum_by-IsPermutation}
use Rattle.std.proofs.lemmas.List.Sums.{count_by-le-length}
use Rattle.std.proofs.lemmas.Option.{slice_get-get_or}
use Rattle.vs_graph.specs.declared.node.Node.{Node}
use Rattle.vs_graph.specs.Good.{IsLinked, StandsAt}
use Rattle.vs_laws.proofs.Tests.{nat_eq_flips}
use Rattle.vs_rank.specs.declared.Key.{Key}
use Rattle.vs_rank.specs.Tests.{Attribute}
use Rattle.vs_rank.specs.Ranked.{Least, key_lt, with_key, sorted_keys, is_beyond}
use Rattle.vs_rank.proofs.Keys.{front_with, same_sorted, rises_sorted, rises_filter, ascends_from_rises, below_trans}
use Rattle.vs_beam.specs.Beam.{far_at, key_at, attr_at, best_of, ranked, IsClose, IsReached, IsKnown, AreDifferent, AreNext, IsNext, IsSpent, count_nearer}
use Rattle.vs_beam.specs.Searching.{IsSearchOf, AreFoundOf, ids_of}
use Rattle.vs_beam.proofs.Counts.{count_map, count_filter, few_nearer, is_nearer}
use Rattle.vs_beam.proofs.Stopping.{first_below}

-- ---- lists

first_push : (xs : List ℕ) (y x : ℕ) → slice_get xs 0 ≡ Some x → slice_get (xs ++ y ∷ []) 0 ≡ Some x
first_push [] y x h = cc
first_push (z ∷ zs) y x h = h

pub has_first : (xs : List ℕ) (x : ℕ) → slice_get xs 0 ≡ Some x → Contains xs x
has_first [] x h = cc
has_first (z ∷ zs) x h = (0, omega arith, cc)

pub at_index : (xs : List ℕ) (v : ℕ) → (h : Contains xs v) → slice_index xs h.0 ≡ v
at_index xs v h = get_or_default xs h.0 0 v h.1 ∙ h.2

pub last_of : (found : List Key) (d : Key) → 0 < length found → slice_get found (length found - 1) ≡ Some (get_or found (length found - 1) d)
last_of found d some = slice_get-get_or found (length found - 1) d (omega arith)

not_nearer : (last key : Key) → key_lt last key ≡ false → ltb last.dist key.dist ≡ false
not_nearer last key h = grind (arith, nat_tests)

apart_false : (last key : Key) → key.dist < last.dist → key_lt last key ≡ false
apart_false last key h = grind (arith, nat_tests)

beyond_not_nearer : (last key : Key) → key.dist < last.dist → key_lt last key ≡ true → ⊥
beyond_not_nearer last key h b = true≢false (sym b ∙ apart_false last key h)

-- a key that is not beyond a full list is at most its last
at_most_last : (least : Least) (found : List Key) (key : Key) → least.keys ≡ found → 0 < length found → least.most ≤ length found → is_beyond least key ≡ false
    → key_lt (get_or found (length found - 1) key) key ≡ false
at_most_last least found key keys some full near =
    let last : slice_get least.keys (length least.keys - 1) ≡ Some (get_or found (length found - 1) key) = ap (λ f. slice_get f (length f - 1)) keys ∙ last_of found key some in
    elim (and_cases _ _ near) [
      | inl h ↦ absurd (let l : length least.keys < least.most = leb-false _ _ h in omega (arith, l, full, ap length keys))
      | inr h ↦ sym (ap (λ o. option_map_or (λ l. key_lt l key) o false) last) ∙ h
    ]

none_kept : (found : List Key) (key : Key) → length found ≡ 0 → option_map_or (λ l. key_lt l key) (slice_get found (length found - 1)) false ≡ true → ⊥
none_kept [] key e h = false≢true h
none_kept (x ∷ xs) key e h = omega (arith, e)

-- what a key beyond is farther than
pub beyond_last : (least : Least) (found : List Key) (key : Key) → least.keys ≡ found → is_beyond least key ≡ true
    → (0 < length found) × (least.most ≤ length found) × (key_lt (get_or found (length found - 1) key) key ≡ true)
beyond_last least found key keys beyond =
    let parts = and_parts _ _ beyond in
    let full : least.most ≤ length least.keys = leb-true _ _ parts.0 in
    let by : option_map_or (λ l. key_lt l key) (slice_get found (length found - 1)) false ≡ true = subst (λ f. option_map_or (λ l. key_lt l key) (slice_get f (length f - 1)) false ≡ true) keys parts.1 in
    elim (cases_eq (length found) 0) [
      | inl e ↦ absurd (none_kept found key e by)
      | inr ne ↦
          let some : 0 < length found = omega (arith, ne) in
          (some, omega (arith, full, ap length keys), sym (ap (λ o. option_map_or (λ l. key_lt l key) o false) (last_of found key some)) ∙ by)
    ]

-- the list is full, and its last is less than the key
abbrev pub LiesBeyond : Least → List Key → Key → Type 0
LiesBeyond least found key = (0 < length found) × (least.most ≤ length found) × (key_lt (get_or found (length found - 1) key) key ≡ true)

last_is : (found : List Key) (d e : Key) → 0 < length found → get_or found (length found - 1) d ≡ get_or found (length found - 1) e
last_is found d e some = get_or_default found (length found - 1) d e (omega (arith, some))

-- what isn't less than a key beyond lies beyond
pub beyond_too : (least : Least) (key other : Key) → is_beyond least key ≡ true → key_lt other key ≡ false → LiesBeyond least least.keys other
beyond_too least key other beyond least_first =
    let kept = beyond_last least least.keys key refl beyond in
    (kept.0, kept.1, below_trans (get_or least.keys (length least.keys - 1) other) key other (rw (last_is least.keys other key kept.0) kept.2) least_first)

least_order : (last key other : Key) → key_lt last other ≡ true → key_lt last key ≡ false → key_lt other key ≡ false
least_order last key other p q = grind (arith, nat_tests)

-- what lies beyond is not less than what doesn't
pub not_before : (least : Least) (key other : Key) → is_beyond least key ≡ false → is_beyond least other ≡ true → key_lt other key ≡ false
not_before least key other near beyond =
    let kept = beyond_last least least.keys other refl beyond in
    let apart = at_most_last least least.keys key refl kept.0 kept.1 near in
    least_order (get_or least.keys (length least.keys - 1) other) key other kept.2 (rw (last_is least.keys other key kept.0) apart)

pub at_most_dist : (key other : Key) → key_lt other key ≡ false → key.dist ≤ other.dist
at_most_dist key other h = grind (arith, nat_tests)

module _ (at : ℕ → Option Node) (layer : ℕ) (query : List ℕ) where
  reached_push : (tried : List ℕ) (id v : ℕ) → IsReached at layer tried → Contains tried v → IsLinked at layer v id → IsReached at layer (tried ++ id ∷ [])
  reached_push tried id v reached has link k pos below =
      elim (cases_lt k (length tried)) [
        | inl h ↦
            let old = reached k pos h in
            let from : get_or (tried ++ id ∷ []) old.0 0 ≡ get_or tried old.0 0 = get_or_append_left tried (id ∷ []) 0 old.0 (omega (arith, old.1, h)) in
            let to : get_or (tried ++ id ∷ []) k 0 ≡ get_or tried k 0 = get_or_append_left tried (id ∷ []) 0 k h in
            (old.0, old.1, rw (from, to) old.2)
        | inr h ↦
            let e : length tried ≡ k = omega (arith, length_push tried id, below, h) in
            let from : get_or (tried ++ id ∷ []) has.0 0 ≡ v = get_or_append_left tried (id ∷ []) 0 has.0 has.1 ∙ at_index tried v has in
            let to : get_or (tried ++ id ∷ []) k 0 ≡ id = get_or_push tried id 0 k e in
            (has.0, omega (arith, has.1, e), rw (from, to) link)
      ]

  marks_push : (bits : List Bool) (tried : List ℕ) (id : ℕ) → id < length bits → ((q : ℕ) → get_or bits q false ≡ true → Contains tried q)
      → (q : ℕ) → get_or (slice_set bits id true) q false ≡ true → Contains (tried ++ id ∷ []) q
  marks_push bits tried id h old q is =
      elim (cases_eq q id) [
        | inl e ↦ subst (λ n. Contains (tried ++ id ∷ []) n) (sym e) (Contains-push tried id)
        | inr ne ↦ Contains-append_left tried (id ∷ []) q (old q (sym (get_or-set_other bits id q true false ne) ∙ is))
      ]

  all_marks_push : (bits : List Bool) (tried : List ℕ) (id : ℕ) → id < length bits → ((q : ℕ) → Contains tried q → get_or bits q false ≡ true)
      → (q : ℕ) → Contains (tried ++ id ∷ []) q → get_or (slice_set bits id true) q false ≡ true
  all_marks_push bits tried id h old q has =
      elim (cases_eq q id) [
        | inl e ↦ subst (λ n. get_or (slice_set bits id true) n false ≡ true) (sym e) (get_or-set_same bits id true false h)
        | inr ne ↦ get_or-set_other bits id q true false ne ∙ elim (Contains-push_cases tried id q has) [ inl c ↦ old q c | inr e ↦ absurd (ne (sym e)) ]
      ]

  split_push : (tried expanded : List ℕ) (left more : List Key) (id : ℕ) → IsPermutation tried (expanded ++ map (λ (key : Key). key.id) left) → IsPermutation (key_at at query id ∷ left) more
      → IsPermutation (tried ++ id ∷ []) (expanded ++ map (λ (key : Key). key.id) more)
  split_push tried expanded left more id split pushed =
      let ids = λ (keys : List Key). map (λ (key : Key). key.id) keys in
      let moved : IsPermutation (id ∷ ids left) (ids more) = IsPermutation-map (λ (key : Key). key.id) (key_at at query id ∷ left) more pushed in
      IsPermutation-push_more tried (expanded ++ ids left) (expanded ++ ids more) id split
      (IsPermutation-trans _ _ _ (IsPermutation-sym _ _ (IsPermutation-middle expanded id (ids left))) (IsPermutation-append_right expanded (id ∷ ids left) (ids more) moved))

  -- an expanded id was tried
  pub expanded_tried : (tried expanded rest : List ℕ) (v : ℕ) → IsPermutation tried (expanded ++ rest) → Contains expanded v → Contains tried v
  expanded_tried tried expanded rest v split has = Contains-permutation (expanded ++ rest) tried v (IsPermutation-sym _ _ split) (Contains-append_left expanded rest v has)

  known_more : (start : ℕ) (expanded : List ℕ) (id w : ℕ) → IsKnown at layer start expanded w → IsKnown at layer start (expanded ++ id ∷ []) w
  known_more start expanded id w (inl e) = inl e
  known_more start expanded id w (inr h) = inr (h.0, Contains-append_left expanded (id ∷ []) h.0 h.1, h.2)

  known_tried : (start : ℕ) (tried expanded : List ℕ) (w : ℕ) → slice_get tried 0 ≡ Some start → ((v u : ℕ) → Contains expanded v → IsLinked at layer v u → Contains tried u)
      → IsKnown at layer start expanded w → Contains tried w
  known_tried start tried expanded w first whole (inl e) = subst (λ n. Contains tried n) (sym e) (has_first tried start first)
  known_tried start tried expanded w first whole (inr h) = whole h.0 w h.1 h.2

  key_in : (left : List Key) (v : ℕ) → All (λ key. key ≡ key_at at query key.id) left → Contains (ids_of left) v → Contains left (key_at at query v)
  key_in left v all has =
      let below : has.0 < length left = subst (λ n. has.0 < n) (length-map left (λ (key : Key). key.id)) has.1 in
      let x = get_or left has.0 (key_at at query v) in
      let id : x.id ≡ v = sym (get_or-map (λ (key : Key). key.id) left has.0 (key_at at query v) v below) ∙ has.2 in
      (has.0, below, all has.0 (key_at at query v) below ∙ ap (key_at at query) id)

  pub ranked_keys : (tried : List ℕ) → All (λ key. key ≡ key_at at query key.id) (ranked at query tried)
  ranked_keys tried = All-permutation (λ key. key ≡ key_at at query key.id) _ _ (same_sorted (map (key_at at query) tried)) (All-map (λ key. key ≡ key_at at query key.id) (key_at at query) tried (λ k d h. refl))

  nearest_of : (tried expanded : List ℕ) (left : List Key) (key : Key) (w : ℕ) → IsPermutation tried (expanded ++ ids_of left) → All (λ key. key ≡ key_at at query key.id) left
      → All (λ other. key_lt other key ≡ false) left → Contains tried w → (Contains expanded w → ⊥) → key.dist ≤ far_at at query w
  nearest_of tried expanded left key w split keys least has not =
      elim (Contains-append_cases expanded (ids_of left) w (Contains-permutation tried (expanded ++ ids_of left) w split has)) [
        | inl e ↦ absurd (not e)
        | inr e ↦ at_most_dist key (key_at at query w) (All-contains (λ other. key_lt other key ≡ false) left (key_at at query w) least (key_in left w keys e))
      ]

  -- one more id is tried
  pub tries : (start effort : ℕ) (tried expanded : List ℕ) (left more : List Key) (bits : List Bool) (id : ℕ)
      → IsSearchOf at layer query start effort tried expanded left bits
      → IsPermutation (key_at at query id ∷ left) more
      → id < length bits → get_or bits id false ≡ false → StandsAt at layer id → (v : ℕ) × Contains expanded v × IsLinked at layer v id → (IsSpent effort tried → ⊥)
      → IsSearchOf at layer query start effort (tried ++ id ∷ []) expanded more (slice_set bits id true)
  tries start effort tried expanded left more bits id h pushed fits fresh stands linked room = record {
    start_first = first_push tried id start h.start_first;
    once = all_pairs_push (λ a b. a ≢ b) tried id h.once (λ k d below e.
        let has : Contains tried id = subst (λ n. Contains tried n) e (Contains-get_or tried k d below) in
        true≢false (sym (h.all_marked id has) ∙ fresh));
    stand = All-push (StandsAt at layer) tried id h.stand stands;
    reached = reached_push tried id linked.0 h.reached (expanded_tried tried expanded _ linked.0 h.split linked.1) linked.2;
    known = All-push (IsKnown at layer start expanded) tried id h.known (inr linked);
    few = λ pos. elim (cases_eq (length tried) effort) [ inl e ↦ absurd (room (pos, e)) | inr ne ↦ (let old : length tried ≤ effort = h.few pos in omega (arith, old, ne, length_push tried id)) ];
    split = split_push tried expanded left more id h.split pushed;
    keys = All-permutation (λ key. key ≡ key_at at query key.id) _ _ pushed (All-cons (λ key. key ≡ key_at at query key.id) (key_at at query id) left refl h.keys);
    marked = marks_push bits tried id fits h.marked;
    all_marked = all_marks_push bits tried id fits h.all_marked;
  }

  -- what is left may be in any order
  pub moves : (start effort : ℕ) (tried expanded : List ℕ) (left more : List Key) (bits : List Bool)
      → IsSearchOf at layer query start effort tried expanded left bits → IsPermutation left more
      → IsSearchOf at layer query start effort tried expanded more bits
  moves start effort tried expanded left more bits h moved = record {
    start_first = h.start_first;
    once = h.once;
    stand = h.stand;
    reached = h.reached;
    known = h.known;
    few = h.few;
    split = IsPermutation-trans _ _ _ h.split (IsPermutation-append_right expanded (ids_of left) (ids_of more) (IsPermutation-map (λ (key : Key). key.id) left more moved));
    keys = All-permutation (λ key. key ≡ key_at at query key.id) _ _ moved h.keys;
    marked = h.marked;
    all_marked = h.all_marked;
  }

  -- the next id is expanded
  pub advances : (start effort : ℕ) (tried expanded : List ℕ) (left rest : List Key) (bits : List Bool) (key : Key)
      → IsSearchOf at layer query start effort tried expanded left bits
      → IsPermutation left (key ∷ rest)
      → IsSearchOf at layer query start effort tried (expanded ++ key.id ∷ []) rest bits
  advances start effort tried expanded left rest bits key h taken =
      let parts = All-permutation (λ key. key ≡ key_at at query key.id) left (key ∷ rest) taken h.keys in
      let ids : IsPermutation (ids_of left) (key.id ∷ ids_of rest) = IsPermutation-map (λ (k : Key). k.id) left (key ∷ rest) taken in
      record {
        start_first = h.start_first;
        once = h.once;
        stand = h.stand;
        reached = h.reached;
        known = All-weaker (IsKnown at layer start expanded) (IsKnown at layer start (expanded ++ key.id ∷ [])) (known_more start expanded key.id) tried h.known;
        few = h.few;
        split = IsPermutation-pop_more tried expanded (ids_of left) (ids_of rest) key.id h.split ids;
        keys = All-tail (λ key. key ≡ key_at at query key.id) key rest parts;
        marked = h.marked;
        all_marked = h.all_marked;
      }

  pub expanded_once : (tried expanded rest : List ℕ) → AreDifferent tried → IsPermutation tried (expanded ++ rest) → AreDifferent expanded
  expanded_once tried expanded rest once split =
      let all = IsDistinct-IsPermutation nat_eq nat_eq_flips tried (expanded ++ rest) split (IsDistinct-from_AllPairs Decides-eqb tried once) in
      let pairs = AllPairs-from_IsDistinct Decides-eqb (expanded ++ rest) all in
      λ i j d before below e.
      pairs i j d before (omega (arith, below, length-append expanded rest))
      (get_or_append_left expanded rest d i (omega (arith, before, below)) ∙ e ∙ sym (get_or_append_left expanded rest d j below))

  none_at : (bits : List Bool) → ((id : ℕ) → get_or bits id false ≡ false) → (q : ℕ) → get_or bits q false ≡ true → Contains [] q
  none_at bits empty q is = absurd (true≢false (sym is ∙ empty q))

  pub starts : (start effort : ℕ) (left : List Key) (bits : List Bool) → IsPermutation (key_at at query start ∷ []) left
      → start < length bits → ((id : ℕ) → get_or bits id false ≡ false) → StandsAt at layer start
      → IsSearchOf at layer query start effort (start ∷ []) [] left (slice_set bits start true)
  starts start effort left bits pushed fits empty stands = record {
    start_first = refl;
    once = λ i j d before below e. omega (arith, before, below);
    stand = All-push (StandsAt at layer) [] start (All-nil (StandsAt at layer)) stands;
    reached = λ k pos below. absurd (omega (arith, pos, below));
    known = All-push (IsKnown at layer start []) [] start (All-nil (IsKnown at layer start [])) (inl refl);
    few = λ pos. omega (arith, pos);
    split = IsPermutation-map (λ (key : Key). key.id) (key_at at query start ∷ []) left pushed;
    keys = All-permutation (λ key. key ≡ key_at at query key.id) _ _ pushed (All-cons (λ key. key ≡ key_at at query key.id) (key_at at query start) [] refl (All-nil (λ key. key ≡ key_at at query key.id)));
    marked = marks_push bits [] start fits (none_at bits empty);
    all_marked = all_marks_push bits [] start fits (λ q has. absurd (omega (arith, has.1)));
  }

module _ (at : ℕ → Option Node) (layer : ℕ) (query : List ℕ) (passes : Attribute → Bool) where
  best_push : (width : ℕ) (tried : List ℕ) (found : List Key) (id : ℕ) → found ≡ best_of at query passes width tried
      → cond (passes (attr_at at id)) (take width (with_key found (key_at at query id))) found ≡ best_of at query passes width (tried ++ id ∷ [])
  best_push width tried found id is =
      let p = λ (key : Key). passes (attr_at at key.id) in
      let one = front_with p width (map (key_at at query) tried) (key_at at query id) in
      let two : best_of at query passes width (tried ++ id ∷ []) ≡ take width (filter p (sorted_keys (map (key_at at query) tried ++ key_at at query id ∷ []))) =
      ap (λ keys. take width (filter p (sorted_keys keys))) (map_push (key_at at query) tried id) in
      ap (λ f. cond (passes (attr_at at id)) (take width (with_key f (key_at at query id))) f) is ∙ sym (two ∙ one)

  abbrev passing : List ℕ → List Key
  passing tried = filter (λ (key : Key). passes (attr_at at key.id)) (ranked at query tried)

  -- an id that is not beyond the best has fewer than the width strictly nearer
  pub fewer_nearer : (width : ℕ) (tried : List ℕ) (found : List Key) (least : Least) (key : Key) → 0 < width → found ≡ best_of at query passes width tried
      → least.most ≡ width → least.keys ≡ found → is_beyond least key ≡ false → count_nearer at query passes key.dist tried < width
  fewer_nearer width tried found least key pos is most keys near =
      let s = passing tried in
      let q = is_nearer key.dist in
      let p = λ (k : Key). passes (attr_at at k.id) in
      let all : count_nearer at query passes key.dist tried ≡ count_by q s =
      sym (count_map (λ (k : Key). p k && q k) (key_at at query) tried) ∙ sym (sum_by-IsPermutation (λ (k : Key). cond (p k && q k) 1 0) (map (key_at at query) tried) (ranked at query tried) (same_sorted (map (key_at at query) tried))) ∙ sym (count_filter p q (ranked at query tried)) in
      let long : length found ≡ min width (length s) = ap length is ∙ length-take width s in
      elim (cases_lt (length s) width) [
        | inl h ↦ omega (arith, all, h, count_by-le-length q s)
        | inr h ↦
            let n = length found - 1 in
            let full : length found ≡ width = omega (arith, long, h) in
            let last = get_or found n key in
            let apart : key_lt last key ≡ false = at_most_last least found key keys (omega (arith, full, pos)) (omega (arith, full, most)) near in
            let here : get_or s n key ≡ last = sym (ap (λ f. get_or f n key) is ∙ get_or-take width s n key (omega (arith, full, pos))) in
            let not : q (get_or s n key) ≡ false = ap q here ∙ not_nearer last key apart in
            let few : count_by q s ≤ n = few_nearer key.dist n s key (rises_filter p (ranked at query tried) (rises_sorted (map (key_at at query) tried))) (omega (arith, full, pos, h)) not in
            omega (arith, all, few, full, pos)
      ]

  -- an id that is close is not beyond the last of the best
  close_not_beyond : (width : ℕ) (tried : List ℕ) (found : List Key) (v : ℕ) (d : Key) → found ≡ best_of at query passes width tried → width ≤ length found → 0 < length found
      → IsClose at query width tried found v → key_lt (get_or found (length found - 1) d) (key_at at query v) ≡ true → ⊥
  close_not_beyond width tried found v d is wide some (inl has) beyond =
      let s = passing tried in
      let r = ranked at query tried in
      let n = length found - 1 in
      let long : length found ≡ min width (length s) = ap length is ∙ length-take width s in
      let below : has.0 < length (take width r) = subst (λ n. has.0 < n) (length-map (take width r) (λ (key : Key). key.id)) has.1 in
      let within : (has.0 < width) × (has.0 < length r) = (omega (arith, below, length-take width r), omega (arith, below, length-take width r)) in
      let x = get_or (take width r) has.0 d in
      let there : x ≡ get_or r has.0 d = get_or-take width r has.0 d within.0 in
      let id : x.id ≡ v = sym (get_or-map (λ (key : Key). key.id) (take width r) has.0 d v below) ∙ has.2 in
      let key : get_or r has.0 d ≡ key_at at query v = sym there ∙ (there ∙ ranked_keys at layer query tried has.0 d within.1 ∙ ap (λ (k : Key). key_at at query k.id) (sym there)) ∙ ap (key_at at query) id in
      let here : get_or s n d ≡ get_or found n d = sym (ap (λ f. get_or f n d) is ∙ get_or-take width s n d (omega (arith, long, wide, some))) in
      let least = first_below (λ a b. key_lt b a ≡ false) (λ (k : Key). passes (attr_at at k.id)) r d (λ i j p q. ascends_from_rises r (rises_sorted (map (key_at at query) tried)) i j d p q) n (omega (arith, long, wide, some)) has.0 (omega (arith, within.0, long, wide, some)) in
      let no : key_lt (get_or found n d) (key_at at query v) ≡ false = subst (λ k. key_lt (get_or found n d) k ≡ false) key (subst (λ k. key_lt k (get_or r has.0 d) ≡ false) here least) in
      true≢false (sym beyond ∙ no)
  close_not_beyond width tried found v d is wide some (inr (inl fewer)) beyond = omega (arith, fewer, wide)
  close_not_beyond width tried found v d is wide some (inr (inr nearer)) beyond =
      let at_last = rw (last_of found d some) at nearer in
      beyond_not_nearer (get_or found (length found - 1) d) (key_at at query v) at_last beyond

  pub closed_at : (start effort width : ℕ) (tried expanded : List ℕ) (found left : List Key) (bits : List Bool) (least : Least)
      → IsSearchOf at layer query start effort tried expanded left bits
      → found ≡ best_of at query passes width tried
      → least.most ≡ width
      → All (LiesBeyond least found) left
      → ((v w : ℕ) → Contains expanded v → IsLinked at layer v w → Contains tried w)
      → (v w : ℕ) → Contains tried v → IsClose at query width tried found v → IsLinked at layer v w → Contains tried w
  closed_at start effort width tried expanded found left bits least h best most far whole v w has close link =
      elim (Contains-append_cases expanded (ids_of left) v (Contains-permutation tried (expanded ++ ids_of left) v h.split has)) [
        | inl e ↦ whole v w e link
        | inr e ↦
            let kept = All-contains (LiesBeyond least found) left (key_at at query v) far (key_in at layer query left v h.keys e) in
            absurd (close_not_beyond width tried found v (key_at at query v) best (omega (arith, kept.1, most)) kept.0 close kept.2)
      ]

  order_push : (start width : ℕ) (expanded known : List ℕ) (id : ℕ) → AreNext at layer start query width passes expanded → IsNext at layer start query width passes expanded id known
      → AreNext at layer start query width passes (expanded ++ id ∷ [])
  order_push start width expanded known id old new i below =
      elim (cases_lt i (length expanded)) [
        | inl h ↦
            let before : take i (expanded ++ id ∷ []) ≡ take i expanded = take-append-le i expanded (id ∷ []) (omega (arith, h)) in
            let it : get_or (expanded ++ id ∷ []) i 0 ≡ get_or expanded i 0 = get_or_append_left expanded (id ∷ []) 0 i h in
            rw (before, it) (old i h)
        | inr h ↦
            let e : length expanded ≡ i = omega (arith, length_push expanded id, below, h) in
            let before : take i (expanded ++ id ∷ []) ≡ expanded = take_at expanded (id ∷ []) i e in
            let it : get_or (expanded ++ id ∷ []) i 0 ≡ id = get_or_push expanded id 0 i e in
            rw (before, it) (known, new)
      ]

  -- ---- the steps, under the test

  take_nil : (n : ℕ) → ◌≡◌ {A = List Key} (take n []) []
  take_nil zero = refl
  take_nil (suc n) = refl

  pub starts_found : (start width : ℕ) → 0 < width → AreFoundOf at layer query passes start width [] [] []
  starts_found start width wide = record {
    wide = wide;
    best = sym (take_nil width);
    order = λ i below. absurd (omega (arith, below));
  }

  pub tries_found : (start width : ℕ) (tried expanded : List ℕ) (found : List Key) (id : ℕ) → AreFoundOf at layer query passes start width tried expanded found
      → AreFoundOf at layer query passes start width (tried ++ id ∷ []) expanded (cond (passes (attr_at at id)) (take width (with_key found (key_at at query id))) found)
  tries_found start width tried expanded found id h = record { wide = h.wide; best = best_push width tried found id h.best; order = h.order }

  pub advances_found : (start effort width : ℕ) (tried expanded : List ℕ) (found left rest : List Key) (bits : List Bool) (least : Least) (key : Key)
      → IsSearchOf at layer query start effort tried expanded left bits
      → AreFoundOf at layer query passes start width tried expanded found
      → least.most ≡ width → least.keys ≡ found
      → IsPermutation left (key ∷ rest) → All (λ other. key_lt other key ≡ false) left → is_beyond least key ≡ false
      → ((v w : ℕ) → Contains expanded v → IsLinked at layer v w → Contains tried w)
      → AreFoundOf at layer query passes start width tried (expanded ++ key.id ∷ []) found
  advances_found start effort width tried expanded found left rest bits least key h f most keys taken all near whole =
      let parts = All-permutation (λ key. key ≡ key_at at query key.id) left (key ∷ rest) taken h.keys in
      let is : key ≡ key_at at query key.id = All-head (λ key. key ≡ key_at at query key.id) key rest parts in
      let far : key.dist ≡ far_at at query key.id = ap (λ (k : Key). k.dist) is in
      let ids : IsPermutation (ids_of left) (key.id ∷ ids_of rest) = IsPermutation-map (λ (k : Key). k.id) left (key ∷ rest) taken in
      let split = IsPermutation-pop_more tried expanded (ids_of left) (ids_of rest) key.id h.split ids in
      let there : Contains tried key.id = expanded_tried at layer query tried (expanded ++ key.id ∷ []) (ids_of rest) key.id split (Contains-push expanded key.id) in
      let few : count_nearer at query passes key.dist tried < width = fewer_nearer width tried found least key f.wide f.best most keys near in
      record {
        wide = f.wide;
        best = f.best;
        order = order_push start width expanded tried key.id f.order (record {
          once = h.once;
          each_known = λ w has. All-contains (IsKnown at layer start expanded) tried w h.known has;
          all_known = λ w k. known_tried at layer query start tried expanded w h.start_first whole k;
          one_of_them = there;
          fewer = subst (λ n. count_nearer at query passes n tried < width) far few;
          nearest = λ w has not. subst (λ n. n ≤ far_at at query w) far (nearest_of at layer query tried expanded left key w h.split h.keys all has not);
        });
      }
