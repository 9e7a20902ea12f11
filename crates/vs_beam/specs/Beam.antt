-- What a descent and a beam find, by ids. `at` has the node at each live id, `query` are the words of a vector.
--     IsDescent     where a descent from the entry stopped, layer by layer
--     IsBeam        what a beam tried, in the order of its discovery, what it expanded, in that order, and what it found
-- Specs of this crate by names (Named.antt) say what these are in terms of a set of members.
use Rattle.std.specs.Prelude.{◌≡◌, ◌≢◌, ◌+◌, ◌-◌, ◌<◌, ◌==◌, if◌then◌else◌, ◌≤◌, ◌⊎◌, ℕ, Bool, ◌&&◌, nat_lt, count_by, All, AllPairs, List, [], length, map, filter, take, slice_get, slice_index, Some, None, IsSomeAnd, Contains}
use Rattle.std.specs.Option.{option_map_or}
use Rattle.std.specs.declared.option.Option.{Option}
use Rattle.vs_graph.specs.declared.node.Node.{Node}
use Rattle.vs_graph.specs.Good.{IsLinked, StandsAt}
use Rattle.vs_defs.specs.Words.{words_ham}
use Rattle.vs_rank.specs.declared.Key.{Key}
use Rattle.vs_rank.specs.Ranked.{sorted_keys}
use Rattle.vs_rank.specs.Tests.{Attribute}

-- how far an id is from the query
abbrev pub far_at : (ℕ → Option Node) → List ℕ → ℕ → ℕ
far_at at query id = words_ham query (option_map_or (λ node. node.body.bits) (at id) [])

abbrev pub key_at : (ℕ → Option Node) → List ℕ → ℕ → Key
key_at at query id = record { dist = far_at at query id; id = id }

-- the keys of the ids, in order
abbrev pub ranked : (ℕ → Option Node) → List ℕ → List ℕ → List Key
ranked at query ids = sorted_keys (map (key_at at query) ids)

-- the attribute at an id
abbrev pub attr_at : (ℕ → Option Node) → ℕ → Attribute
attr_at at id = option_map_or (λ node. option_map_or (λ attr. Some attr.text) node.attr None) (at id) None

-- the first `width` that pass, of the ids that were tried
abbrev pub best_of : (ℕ → Option Node) → List ℕ → (Attribute → Bool) → ℕ → List ℕ → List Key
best_of at query passes width tried = take width (filter (λ key. passes (attr_at at key.id)) (ranked at query tried))

-- an id whose neighbours have to be tried: among the first `width`, or nearer than the last of the best, or the best are fewer
abbrev pub IsClose : (ℕ → Option Node) → List ℕ → ℕ → List ℕ → List Key → ℕ → Type 0
IsClose at query width tried best id =
    Contains (map (λ (key : Key). key.id) (take width (ranked at query tried))) id
    ⊎ ((length best < width) ⊎ IsSomeAnd (slice_get best (length best - 1)) (λ last. far_at at query id < last.dist))

-- ids in an order in which each is linked to an earlier one
abbrev pub IsReached : (ℕ → Option Node) → ℕ → List ℕ → Type 0
IsReached at layer tried = (k : ℕ) → 0 < k → k < length tried → (j : ℕ) × (j < k) × IsLinked at layer (slice_index tried j) (slice_index tried k)

-- the start, or a neighbour of one of these
abbrev pub IsKnown : (ℕ → Option Node) → ℕ → ℕ → List ℕ → ℕ → Type 0
IsKnown at layer start ids w = (w ≡ start) ⊎ ((v : ℕ) × Contains ids v × IsLinked at layer v w)

abbrev pub AreDifferent : List ℕ → Type 0
AreDifferent ids = AllPairs (λ a b. a ≢ b) ids

-- how many of the ids pass and are strictly nearer than a bound
abbrev pub count_nearer : (ℕ → Option Node) → List ℕ → (Attribute → Bool) → ℕ → List ℕ → ℕ
count_nearer at query passes bound ids = count_by (λ id. passes (attr_at at id) && nat_lt (far_at at query id) bound) ids

-- what an id is that is expanded after `before`: `known` are the start and the neighbours of those
pub record IsNext (at : ℕ → Option Node) (layer start : ℕ) (query : List ℕ) (width : ℕ) (passes : Attribute → Bool) (before : List ℕ) (next : ℕ) (known : List ℕ) : Type 0 where
  pub once : AreDifferent known
  pub each_known : (w : ℕ) → Contains known w → IsKnown at layer start before w
  pub all_known : (w : ℕ) → IsKnown at layer start before w → Contains known w
  pub one_of_them : Contains known next
  pub fewer : count_nearer at query passes (far_at at query next) known < width
  pub nearest : (w : ℕ) → Contains known w → (Contains before w → ⊥) → far_at at query next ≤ far_at at query w

-- each was the next after those before it
abbrev pub AreNext : (ℕ → Option Node) → ℕ → ℕ → List ℕ → ℕ → (Attribute → Bool) → List ℕ → Type 0
AreNext at layer start query width passes expanded = (i : ℕ) → i < length expanded → (known : List ℕ) × IsNext at layer start query width passes (take i expanded) (slice_index expanded i) known

-- the tried ids have reached the effort
abbrev pub IsSpent : ℕ → List ℕ → Type 0
IsSpent effort tried = (0 < effort) × (length tried ≡ effort)

pub record IsBeam (at : ℕ → Option Node) (layer start : ℕ) (query : List ℕ) (width effort : ℕ) (passes : Attribute → Bool) (tried expanded : List ℕ) (found : List Key) : Type 0 where
  pub start_first : slice_get tried 0 ≡ Some start
  pub once : AreDifferent tried
  pub stand : All (StandsAt at layer) tried
  pub reached : IsReached at layer tried
  pub best : found ≡ best_of at query passes width tried
  pub few : 0 < effort → length tried ≤ effort
  pub closed : (IsSpent effort tried → ⊥) → (v w : ℕ) → Contains tried v → IsClose at query width tried found v → IsLinked at layer v w → Contains tried w
  pub expanded_once : AreDifferent expanded
  pub known : All (IsKnown at layer start expanded) tried
  pub order : AreNext at layer start query width passes expanded

-- no neighbour at the layer is strictly nearer
abbrev pub IsNearestAround : (ℕ → Option Node) → List ℕ → ℕ → ℕ → Type 0
IsNearestAround at query layer id = (w : ℕ) → IsLinked at layer id w → far_at at query id ≤ far_at at query w

-- a walk over links of the layer, each step strictly nearer
pub data Walks (at : ℕ → Option Node) (query : List ℕ) (layer : ℕ) : ℕ → ℕ → Type 0 where
  stays : (id : ℕ) → Walks at query layer id id
  goes : (a b c : ℕ) → IsLinked at layer a b → far_at at query b < far_at at query a → Walks at query layer b c → Walks at query layer a c

-- where a walk of a layer ends
pub record IsStop (at : ℕ → Option Node) (query : List ℕ) (layer before stop : ℕ) : Type 0 where
  pub stands : StandsAt at layer stop
  pub nearest : IsNearestAround at query layer stop
  pub walked : Walks at query layer before stop

abbrev pub level_at : (ℕ → Option Node) → ℕ → ℕ
level_at at id = option_map_or (λ node. node.level) (at id) 0

-- where a descent comes from at a layer: the entry at the top, else where it stopped in the layer above
abbrev pub before_layer : ℕ → ℕ → List ℕ → ℕ → ℕ
before_layer entry top stops layer = if layer == top then entry else slice_index stops (layer + 1)

pub record IsDescent (at : ℕ → Option Node) (entry : ℕ) (query : List ℕ) (low start top : ℕ) (stops : List ℕ) : Type 0 where
  pub level : top ≡ level_at at entry
  pub stop : (layer : ℕ) → low ≤ layer → layer ≤ top → IsStop at query layer (before_layer entry top stops layer) (slice_index stops layer)
  pub outside : (layer : ℕ) → (layer < low) ⊎ (top < layer) → slice_index stops layer ≡ 0
  pub last : start ≡ (if nat_lt top low then entry else slice_index stops low)

-- is live, with so many words
abbrev pub HasWords : (ℕ → Option Node) → ℕ → ℕ → Type 0
HasWords at count id = IsSomeAnd (at id) (λ node. length node.body.bits ≡ count)

-- a neighbour that is nearer than a bound
pub record IsNearer (at : ℕ → Option Node) (query : List ℕ) (layer here within : ℕ) (key : Key) : Type 0 where
  pub link : IsLinked at layer here key.id
  pub dist : key.dist ≡ far_at at query key.id
  pub nearer : key.dist < within
