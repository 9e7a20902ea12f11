-- What a beam found are members at their places, each once, at their distances.
use Rattle.std.proofs.Common.{◌≡◌, ◌≢◌, ℕ, zero, suc, ◌+◌, ◌≤◌, max, Bool, true, false, cond, List, [], ◌∷◌, get_or, map, take, refl, sym, ap, ◌∙◌, subst, is_some}
use Rattle.std.specs.Prelude.{Option, Some, None, IsSomeAnd, All, filter, option_map, unwrap_or, slice_get, nat_eq}
use Rattle.std.specs.List.{AllByRecursion, IsDistinct, cons_option}
use Rattle.std.specs.List.Sorted.{IsPermutation}
use Rattle.std.proofs.lemmas.Bool.{both_ways, eqb-false}
use Rattle.std.proofs.lemmas.Bool.Decides.{Decides-eqb}
use Rattle.std.proofs.lemmas.Option.{slice_get-map, slice_get-get_or, get_or_from_slice_get}
use Rattle.std.proofs.lemmas.Map.Keys.{IsDistinct-IsPermutation, IsDistinct-head, IsDistinct-tail}
use Rattle.std.proofs.lemmas.Map.Made.{IsDistinct-from_AllPairs}
use Rattle.std.proofs.Math.Logic.{∥∥₁_elim}
use Rattle.std.proofs.lemmas.List.Elements.{All-map, All-from_recursion, recursion_from_All}
use Rattle.std.proofs.lemmas.List.Sorted.{All-permutation, IsPermutation-map}
use Rattle.vs_defs.specs.Vector.{Vector, ham}
use Rattle.vs_defs.specs.Words.{FitsDimension, bits_of_words}
use Rattle.vs_defs.specs.Store.{Member, member_of, names_of}
use Rattle.vs_defs.specs.Bytes.{sort_by}
use Rattle.vs_defs.specs.Truth.{by_nearness}
use Rattle.vs_defs.specs.Answers.{members_named}
use Rattle.vs_defs.specs.Beam as defs
use Rattle.vs_defs.specs.Counts.{IsExpansion, descend_reads}
use Rattle.vs_graph.specs.declared.node.Node.{Node}
use Rattle.vs_graph.specs.Good.{StandsAt, IsGood}
use Rattle.vs_graph.specs.Standing.{member_at, members_of, name_of}
use Rattle.vs_graph.specs.Named.{is_live}
use Rattle.vs_graph.proofs.Standing.{member_there, member_name, names_differ}
use Rattle.vs_laws.proofs.Tests.{nat_eq_flips}
use Rattle.vs_rank.specs.declared.Key.{Key}
use Rattle.vs_rank.specs.Tests.{Attribute}
use Rattle.vs_rank.proofs.Keys.{same_sorted}
use Rattle.vs_beam.specs.Beam.{key_at, attr_at, ranked, IsBeam}
use Rattle.vs_beam.specs.Named.{stops_named, keys_named, IsNamedDescent, IsNamedBeam}
use Rattle.vs_beam.specs.Searching.{expansion_cost}
use Rattle.vs_beam.proofs.Steps.{ranked_keys}
use Rattle.vs_insert.proofs.Choices.{dist_named}
use Rattle.vs_order.specs.Entries.{Entries, ids_of, place_of_id, name_at, is_taken}
use Rattle.vs_order.proofs.Places.{first_at}
use Rattle.vs_truth.specs.declared.candidate.Hit.{Hit}
use Rattle.vs_truth.specs.Nearest.{AreHits}
use Rattle.vs_truth.specs.Nears.{near_cmp, near_at, near_hit}
use Rattle.vs_truth.proofs.Answered.{Placed, IsPlaced, HaveNamesOnce, member_in, named_hits}
use Rattle.vs_set.specs.Kept.{set_by, AreNamed}
use Rattle.vs_set.specs.Found.{passes_of, pass_by, FindsNear}
use Rattle.vs_set.specs.Firsts.{near_in, first_of}
use Rattle.vs_set.proofs.Members.{names_are}

-- ---- keys of different ids, and parts of them

abbrev pub KeysOnce : List Key → Type 0
KeysOnce [] = Unit {0}
KeysOnce (k ∷ ks) = AllByRecursion (λ (j : Key). k.id ≢ j.id) ks × KeysOnce ks

apart : (n : ℕ) (xs : List Key) → AllByRecursion (λ y. nat_eq n y ≡ false) (map (λ (key : Key). key.id) xs) → AllByRecursion (λ (j : Key). n ≢ j.id) xs
apart n [] h = tt
apart n (x ∷ xs) h = (eqb-false n x.id h.0, apart n xs h.1)

pub once_from : (xs : List Key) → IsDistinct nat_eq (map (λ (key : Key). key.id) xs) → KeysOnce xs
once_from [] d = tt
once_from (x ∷ xs) d =
    let ids = map (λ (key : Key). key.id) xs in
    (apart x.id xs (IsDistinct-head nat_eq x.id ids d), once_from xs (IsDistinct-tail nat_eq x.id ids d))

all_cond : (P : Key → Type 0) (b : Bool) (x : Key) (xs : List Key) → P x → AllByRecursion P xs → AllByRecursion P (cond b (x ∷ xs) xs)
all_cond P true x xs h hs = (h, hs)
all_cond P false x xs h hs = hs

all_filter : (P : Key → Type 0) (p : Key → Bool) (xs : List Key) → AllByRecursion P xs → AllByRecursion P (filter p xs)
all_filter P p [] h = tt
all_filter P p (x ∷ xs) h = all_cond P (p x) x (filter p xs) h.0 (all_filter P p xs h.1)

all_take : (P : Key → Type 0) (n : ℕ) (xs : List Key) → AllByRecursion P xs → AllByRecursion P (take n xs)
all_take P zero xs h = tt
all_take P (suc n) [] h = tt
all_take P (suc n) (x ∷ xs) h = (h.0, all_take P n xs h.1)

once_cond : (b : Bool) (x : Key) (xs : List Key) → AllByRecursion (λ (j : Key). x.id ≢ j.id) xs → KeysOnce xs → KeysOnce (cond b (x ∷ xs) xs)
once_cond true x xs h hs = (h, hs)
once_cond false x xs h hs = hs

once_filter : (p : Key → Bool) (xs : List Key) → KeysOnce xs → KeysOnce (filter p xs)
once_filter p [] h = tt
once_filter p (x ∷ xs) h = once_cond (p x) x (filter p xs) (all_filter (λ (j : Key). x.id ≢ j.id) p xs h.0) (once_filter p xs h.1)

once_take : (n : ℕ) (xs : List Key) → KeysOnce xs → KeysOnce (take n xs)
once_take zero xs h = tt
once_take (suc n) [] h = tt
once_take (suc n) (x ∷ xs) h = (all_take (λ (j : Key). x.id ≢ j.id) n xs h.0, once_take n xs h.1)

pub ids_keys : (at : ℕ → Option Node) (query : List ℕ) (tried : List ℕ) → map (λ (key : Key). key.id) (map (key_at at query) tried) ≡ tried
ids_keys at query [] = refl
ids_keys at query (x ∷ xs) = ap (λ l. x ∷ l) (ids_keys at query xs)

pub live_stander : (layer : ℕ) (o : Option Node) → IsSomeAnd o (λ node. layer ≤ node.level) → is_some o ≡ true
live_stander layer None h = absurd h
live_stander layer (Some node) h = refl

-- ---- what was found

module _ (at : ℕ → Option Node) (layer start : ℕ) (query : List ℕ) (width effort : ℕ) (passes : Attribute → Bool) (tried expanded : List ℕ) (found : List Key) (beam : IsBeam at layer start query width effort passes tried expanded found) where
  passing : Key → Bool
  passing key = passes (attr_at at key.id)

  pub found_all : (P : Key → Type 0) → All P (ranked at query tried) → AllByRecursion P found
  found_all P h =
      subst (AllByRecursion P) (sym beam.best)
      (all_take P width (filter (λ key. passes (attr_at at key.id)) (ranked at query tried)) (all_filter P (λ key. passes (attr_at at key.id)) (ranked at query tried) (recursion_from_All P (ranked at query tried) h)))

  pub found_stand : AllByRecursion (λ (key : Key). StandsAt at layer key.id) found
  found_stand =
      found_all (λ (key : Key). StandsAt at layer key.id)
      (All-permutation (λ (key : Key). StandsAt at layer key.id) (map (key_at at query) tried) (ranked at query tried) (same_sorted (map (key_at at query) tried))
      (All-map (λ (key : Key). StandsAt at layer key.id) (key_at at query) tried beam.stand))

  pub found_keys : AllByRecursion (λ (key : Key). key ≡ key_at at query key.id) found
  found_keys = found_all (λ (key : Key). key ≡ key_at at query key.id) (ranked_keys at layer query tried)

  ranked_ids : IsPermutation tried (map (λ (key : Key). key.id) (ranked at query tried))
  ranked_ids =
      subst (λ l. IsPermutation l (map (λ (key : Key). key.id) (ranked at query tried))) (ids_keys at query tried)
      (IsPermutation-map (λ (key : Key). key.id) (map (key_at at query) tried) (ranked at query tried) (same_sorted (map (key_at at query) tried)))

  pub found_once : KeysOnce found
  found_once =
      subst KeysOnce (sym beam.best)
      (once_take width (filter (λ key. passes (attr_at at key.id)) (ranked at query tried))
      (once_filter (λ key. passes (attr_at at key.id)) (ranked at query tried)
      (once_from (ranked at query tried)
      (IsDistinct-IsPermutation nat_eq nat_eq_flips tried (map (λ (key : Key). key.id) (ranked at query tried)) ranked_ids (IsDistinct-from_AllPairs Decides-eqb tried beam.once)))))

-- ---- keys as members at their places

module _ (at : ℕ → Option Node) (entry : Option ℕ) (m dim : ℕ) (good : IsGood at entry m dim) (query : List ℕ) (fits : FitsDimension dim query) (entries : Entries) (named : AreNamed at entries) where
  abbrev pub ms : List Member
  ms = members_of at dim (ids_of entries)

  abbrev pub q : Vector
  q = bits_of_words dim query

  abbrev pub row : Key → Placed
  row key = (place_of_id key.id entries, member_at at dim key.id)

  abbrev pub IsKey : Key → Type 0
  IsKey key = (is_live (ids_of entries) key.id ≡ true) × (key.dist ≡ ham q (member_at at dim key.id).bits)

  placed : (id : ℕ) → is_live (ids_of entries) id ≡ true → slice_get ms (place_of_id id entries) ≡ Some (member_at at dim id)
  placed id live =
      let first = first_at id 0 (ids_of entries) live in
      slice_get-map (member_at at dim) (ids_of entries) (place_of_id id entries)
      ∙ ap (option_map (member_at at dim)) (slice_get-get_or (ids_of entries) (place_of_id id entries) 0 first.0 ∙ ap (λ n. Some n) first.1)

  named_there : (id : ℕ) → is_live (ids_of entries) id ≡ true → name_at entries (place_of_id id entries) ≡ (member_at at dim id).name
  named_there id live =
      let place = place_of_id id entries in
      ap (λ l. get_or l place []) (sym (names_are at m dim entries named.names))
      ∙ get_or_from_slice_get (names_of ms) place (member_at at dim id).name [] (slice_get-map (λ (x : Member). x.name) ms place ∙ ap (option_map (λ (x : Member). x.name)) (placed id live))

  nears_are : (keys : List Key) → AllByRecursion IsKey keys → map (near_in entries) keys ≡ map (near_at q) (map row keys)
  nears_are [] h = refl
  nears_are (k ∷ ks) h = λ t. record { dist = h.0.1 t; name = named_there k.id h.0.0 t; place = place_of_id k.id entries } ∷ nears_are ks h.1 t

  all_placed : (keys : List Key) → AllByRecursion IsKey keys → AllByRecursion (IsPlaced ms) (map row keys)
  all_placed [] h = tt
  all_placed (k ∷ ks) h = (placed k.id h.0.0, all_placed ks h.1)

  names_apart : (k : Key) (keys : List Key) → is_live (ids_of entries) k.id ≡ true → AllByRecursion (λ (j : Key). k.id ≢ j.id) keys → AllByRecursion IsKey keys
      → AllByRecursion (λ (r : Placed). (member_at at dim k.id).name ≢ r.1.name) (map row keys)
  names_apart k [] live h are = tt
  names_apart k (j ∷ js) live h are = (
    λ e. h.0 (names_differ at m dim (ids_of entries) good.links named.ids k.id j.id live are.0.0 (sym (member_name at m dim k.id) ∙ e ∙ member_name at m dim j.id)),
    names_apart k js live h.1 are.1,
  )

  rows_once : (keys : List Key) → KeysOnce keys → AllByRecursion IsKey keys → HaveNamesOnce (map row keys)
  rows_once [] h are = tt
  rows_once (k ∷ ks) h are = (names_apart k ks are.0.0 h.0 are.1, rows_once ks h.1 are.1)

  pub members_are : (keys : List Key) → AllByRecursion IsKey keys → map member_in (map row keys) ≡ members_named ms (keys_named at keys)
  members_are [] h = refl
  members_are (k ∷ ks) h = λ t. cons_option (sym (member_there at m dim (ids_of entries) good.links named.ids k.id h.0.0) t) (members_are ks h.1 t)

  pub hits_of_keys : (count : ℕ) (keys : List Key) → KeysOnce keys → AllByRecursion IsKey keys → AreHits q ms (take count (by_nearness q (members_named ms (keys_named at keys)))) (first_of entries count keys)
  hits_of_keys count keys once are =
      subst (λ l. AreHits q ms (take count (by_nearness q l)) (first_of entries count keys)) (members_are keys are)
      (named_hits q count ms (map row keys) (first_of entries count keys) (rows_once keys once are) (all_placed keys are)
      (ap (λ l. map near_hit (take count (sort_by near_cmp l))) (nears_are keys are)))

  -- a found key's distance is its member's
  pub key_is : (layer : ℕ) (key : Key) → StandsAt at layer key.id → key ≡ key_at at query key.id → IsKey key
  key_is layer key stands is =
      let live : is_live (ids_of entries) key.id ≡ true = named.ids.live key.id ∙ live_stander layer (at key.id) stands in (
        live,
        dist_named at entry m dim good query fits layer (ids_of entries) named.ids key stands is
            ∙ ap (λ (o : Option Member). ham q (unwrap_or (option_map (λ (y : Member). y.bits) o) [])) (member_there at m dim (ids_of entries) good.links named.ids key.id live),
      )

  pub keys_are : (layer : ℕ) (keys : List Key) → AllByRecursion (λ (key : Key). StandsAt at layer key.id) keys → AllByRecursion (λ (key : Key). key ≡ key_at at query key.id) keys → AllByRecursion IsKey keys
  keys_are layer [] stand is = tt
  keys_are layer (k ∷ ks) stand is = (key_is layer k stand.0 is.0, keys_are layer ks stand.1 is.1)

  pub lives : (layer : ℕ) (keys : List Key) → AllByRecursion (λ (key : Key). StandsAt at layer key.id) keys → AllByRecursion (λ (key : Key). is_taken key.id entries ≡ true) keys
  lives layer [] stand = tt
  lives layer (k ∷ ks) stand = (named.ids.live k.id ∙ live_stander layer (at k.id) stand.0, lives layer ks stand.1)

  module _ (start width effort : ℕ) (passes : Attribute → Bool) (tried expanded : List ℕ) (found : List Key) (beam : IsBeam at 0 start query width effort passes tried expanded found) where
    pub found_taken : All (λ key. is_taken key.id entries ≡ true) found
    found_taken = All-from_recursion (λ (key : Key). is_taken key.id entries ≡ true) found (lives 0 found (found_stand at 0 start query width effort passes tried expanded found beam))

    pub near_found : (cut top : ℕ) (stops : List ℕ) (count ef : ℕ) (hits : List Hit) (reads : ℕ) → width ≡ max ef count → IsNamedDescent at entry m dim query 1 start top stops
        → IsNamedBeam at entry m dim 0 start query width effort passes tried expanded found → hits ≡ first_of entries count found → reads ≤ descend_reads dim m + (1 + expansion_cost at 0 expanded)
        → FindsNear (set_by at entry m dim cut entries) q count ef effort passes hits reads
    near_found cut top stops count ef hits reads is_width descent names is told =
        let ids = ids_of entries in
        let x = set_by at entry m dim cut entries in
        let by : (name : List ℕ) (y : Member) → member_of name ms ≡ Some y → pass_by x passes name ≡ passes y.attr = λ name y found_there. ap (passes_of passes) found_there in
        record {
          near = record {
            stops = stops_named at top 1 stops;
            descends = descent.descends cut ids named.ids;
            start = name_of at start;
            starts = descent.starts cut ids named.ids;
            tried = keys_named at (ranked at query tried);
            found = keys_named at found;
            beam = subst (λ w. defs.IsBeam x q 0 (name_of at start) w effort (pass_by x passes) (keys_named at (ranked at query tried)) (keys_named at found)) is_width (names.beam cut ids (pass_by x passes) named.ids by);
            hits_are = subst (AreHits q ms (take count (by_nearness q (members_named ms (keys_named at found))))) (sym is)
                (hits_of_keys count found (found_once at 0 start query width effort passes tried expanded found beam)
                (keys_are 0 found (found_stand at 0 start query width effort passes tried expanded found beam) (found_keys at 0 start query width effort passes tried expanded found beam)));
          };
          expanded = map (name_of at) expanded;
          expansion = subst (λ w. IsExpansion x q 0 (name_of at start) w (pass_by x passes) (keys_named at (ranked at query tried)) (map (name_of at) expanded)) is_width (names.order cut ids (pass_by x passes) named.ids by);
          told = subst (λ n. reads ≤ descend_reads dim m + n) (names.reads cut ids named.ids) told;
        }

-- what holds under a fact that is only known to be there
pub settled : {A : Type 0} (b : Bool) → ∥ A ∥₁ → (A → b ≡ true) → b ≡ true
settled true t f = refl
settled false t f = absurd (∥∥₁_elim t (λ x y. absurd x) (λ a. both_ways false refl (f a)))
