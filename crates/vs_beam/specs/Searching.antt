-- What a search keeps while it runs, and its single steps.
use Rattle.std.specs.Prelude.{◌≡◌, ℕ, ◌+◌, ◌<◌, ◌≤◌, ◌⊎◌, Bool, true, false, not, if◌then◌else◌, List, [], ◌∷◌, ◌++◌, length, map, take, drop, slice_get, slice_index_or, slice_set, Some, All, Contains, count_by, sum_by, IsPermutation}
use Rattle.std.specs.declared.option.Option.{Option}
use Rattle.vs_graph.specs.declared.node.Node.{Node}
use Rattle.vs_graph.specs.Good.{IsLinked, StandsAt, links_at}
use Rattle.vs_slot.specs.Marks.{Marks, is_marked}
use Rattle.vs_rank.specs.declared.Key.{Key}
use Rattle.vs_rank.specs.Ranked.{with_key, key_lt, is_beyond}
use Rattle.vs_rank.specs.Tests.{Attribute, Answers}
use Rattle.vs_beam.specs.declared.search.Search.{Search}
use Rattle.vs_beam.specs.Beam.{key_at, attr_at, best_of, IsReached, IsKnown, AreDifferent, AreNext, IsSpent}

-- the keys' ids
abbrev pub ids_of : List Key → List ℕ
ids_of keys = map (λ (key : Key). key.id) keys

-- what was tried, what was expanded, and what is left to expand
pub record IsSearchOf (at : ℕ → Option Node) (layer : ℕ) (query : List ℕ) (start effort : ℕ) (tried expanded : List ℕ) (left : List Key) (bits : List Bool) : Type 0 where
  pub start_first : slice_get tried 0 ≡ Some start
  pub once : AreDifferent tried
  pub stand : All (StandsAt at layer) tried
  pub reached : IsReached at layer tried
  pub known : All (IsKnown at layer start expanded) tried
  pub few : 0 < effort → length tried ≤ effort
  pub split : IsPermutation tried (expanded ++ ids_of left)
  pub keys : All (λ key. key ≡ key_at at query key.id) left
  pub marked : (id : ℕ) → slice_index_or bits id false ≡ true → Contains tried id
  pub all_marked : (id : ℕ) → Contains tried id → slice_index_or bits id false ≡ true

-- A search whose ids were offered below a place: what is left are those tried from there on, the frontier, and what was left out of it,
-- which lies beyond the best.
pub record IsSearchAt (at : ℕ → Option Node) (layer : ℕ) (query : List ℕ) (s : Search) (marks : Marks) (place : ℕ) : Type 0 where
  pub refused : List Key
  pub beyond : All (λ key. is_beyond s.best key ≡ true) refused
  pub search : IsSearchOf at layer query s.from s.effort s.tried s.expanded (map (key_at at query) (drop place s.tried) ++ (s.frontier.keys ++ refused)) marks.marked

abbrev pub IsSearch : (ℕ → Option Node) → ℕ → List ℕ → Search → Marks → Type 0
IsSearch at layer query s marks = IsSearchAt at layer query s marks (length s.tried)

-- what was found under a test, and the order of expansion that came of it
pub record AreFoundOf (at : ℕ → Option Node) (layer : ℕ) (query : List ℕ) (passes : Attribute → Bool) (start width : ℕ) (tried expanded : List ℕ) (found : List Key) : Type 0 where
  pub wide : 0 < width
  pub best : found ≡ best_of at query passes width tried
  pub order : AreNext at layer start query width passes expanded

abbrev pub AreFound : (ℕ → Option Node) → ℕ → List ℕ → (Attribute → Bool) → Search → Type 0
AreFound at layer query passes s = AreFoundOf at layer query passes s.from s.best.most s.tried s.expanded s.best.keys

-- the same of those that were tried below a place
abbrev pub AreFoundAt : (ℕ → Option Node) → ℕ → List ℕ → (Attribute → Bool) → Search → ℕ → Type 0
AreFoundAt at layer query passes s place = AreFoundOf at layer query passes s.from s.best.most (take place s.tried) s.expanded s.best.keys

-- the same under each predicate that the test answers
abbrev pub AreFoundBy : (Attribute → Bool → Type 0) → (ℕ → Option Node) → ℕ → List ℕ → Search → Type 0
AreFoundBy gives at layer query s = (passes : Attribute → Bool) → Answers gives passes → AreFound at layer query passes s

-- all neighbours of the expanded ids were tried
abbrev pub IsWhole : (ℕ → Option Node) → ℕ → Search → Type 0
IsWhole at layer s = (v w : ℕ) → Contains s.expanded v → IsLinked at layer v w → Contains s.tried w

-- the settings of a search, which no step changes
pub record IsSameSearch (old new : Search) : Type 0 where
  pub from : new.from ≡ old.from
  pub effort : new.effort ≡ old.effort
  pub most : new.best.most ≡ old.best.most

-- no id was expanded yet
pub record IsStarted (s : Search) (start width limit : ℕ) : Type 0 where
  pub from : s.from ≡ start
  pub effort : s.effort ≡ limit
  pub most : s.best.most ≡ width
  pub expanded : s.expanded ≡ []

-- an id was offered to the best, where it passes
abbrev pub IsOffered : (ℕ → Option Node) → List ℕ → (Attribute → Bool) → Search → Search → ℕ → Type 0
IsOffered at query passes old new id = new.best.keys ≡ (if passes (attr_at at id) then take old.best.most (with_key old.best.keys (key_at at query id)) else old.best.keys)

-- what an offer leaves as it was
pub record HasKept (old new : Search) : Type 0 where
  pub same : IsSameSearch old new
  pub tried : new.tried ≡ old.tried
  pub expanded : new.expanded ≡ old.expanded

-- a key is in the frontier, or is beyond the best
pub record IsWaiting (old new : Search) (key : Key) : Type 0 where
  pub kept : HasKept old new
  pub best : new.best ≡ old.best
  pub placed : IsPermutation (key ∷ old.frontier.keys) new.frontier.keys ⊎ ((new.frontier.keys ≡ old.frontier.keys) × (is_beyond old.best key ≡ true))

-- the same of an id's key, and what was beyond the best still is
pub record IsWeighed (at : ℕ → Option Node) (query : List ℕ) (old new : Search) (id : ℕ) : Type 0 where
  pub kept : HasKept old new
  pub placed : IsPermutation (key_at at query id ∷ old.frontier.keys) new.frontier.keys ⊎ ((new.frontier.keys ≡ old.frontier.keys) × (is_beyond new.best (key_at at query id) ≡ true))
  pub beyond : (other : Key) → is_beyond old.best other ≡ true → is_beyond new.best other ≡ true

-- the nearest id of the frontier is to be expanded
pub record IsAdvanced (old new : Search) (id : ℕ) : Type 0 where
  pub same : IsSameSearch old new
  pub tried : new.tried ≡ old.tried
  pub expanded : new.expanded ≡ old.expanded ++ id ∷ []
  pub best : new.best ≡ old.best
  pub key : Key
  pub key_id : key.id ≡ id
  pub taken : IsPermutation old.frontier.keys (key ∷ new.frontier.keys)
  pub least : All (λ other. key_lt other key ≡ false) old.frontier.keys
  pub near : is_beyond old.best key ≡ false

-- no id of the frontier is to be expanded
pub record IsOver (old new : Search) : Type 0 where
  pub same : IsSameSearch old new
  pub tried : new.tried ≡ old.tried
  pub expanded : new.expanded ≡ old.expanded
  pub best : new.best ≡ old.best
  pub far : (old.frontier.keys ≡ []) ⊎ ((key : Key) × All (λ other. key_lt other key ≡ false) old.frontier.keys × (is_beyond old.best key ≡ true))

-- an id is not tried, since it was, or as many were tried as may be
pub record IsPassedOver (old new : Search) (before after : Marks) (id : ℕ) : Type 0 where
  pub tried : new.tried ≡ old.tried
  pub marked : after.marked ≡ before.marked
  pub why : IsSpent old.effort old.tried ⊎ (is_marked before id ≡ true)

-- an id is tried and marked
pub record IsTried (old new : Search) (before after : Marks) (id : ℕ) : Type 0 where
  pub tried : new.tried ≡ old.tried ++ id ∷ []
  pub marked : after.marked ≡ slice_set before.marked id true
  pub fresh : is_marked before id ≡ false
  pub room : IsSpent old.effort old.tried → ⊥

pub record IsVisited (old new : Search) (before after : Marks) (id : ℕ) : Type 0 where
  pub same : IsSameSearch old new
  pub expanded : new.expanded ≡ old.expanded
  pub frontier : new.frontier ≡ old.frontier
  pub best : new.best ≡ old.best
  pub cases : IsPassedOver old new before after id ⊎ IsTried old new before after id

-- the neighbours of an id are among those that were tried, or as many were tried as may be
pub record IsExpanded (at : ℕ → Option Node) (layer : ℕ) (old new : Search) (id : ℕ) : Type 0 where
  pub same : IsSameSearch old new
  pub expanded : new.expanded ≡ old.expanded
  pub more : (w : ℕ) → Contains old.tried w → Contains new.tried w
  pub whole : (IsSpent new.effort new.tried → ⊥) → (w : ℕ) → IsLinked at layer id w → Contains new.tried w

-- how many ids are not marked
abbrev pub unmarked : Marks → ℕ
unmarked marks = count_by not marks.marked

-- how many ids may still be expanded
abbrev pub size_left : Search → Marks → ℕ
size_left s marks = unmarked marks + length s.frontier.keys

-- what ids cost to expand: one read each, and one for each link
abbrev pub expansion_cost : (ℕ → Option Node) → ℕ → List ℕ → ℕ
expansion_cost at layer expanded = sum_by (λ id. 1 + length (links_at at layer id)) expanded
