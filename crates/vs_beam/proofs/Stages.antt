-- A layer by names, apart from any set, and what a descent, a beam and the order of expansion are there.
use Rattle.std.proofs.Common.{◌≡◌, ◌≢◌, ℕ, ◌<◌, ◌≤◌, ◌⊎◌, Bool, true, ◌&&◌, List, [], ◌∷◌, length, take, map}
use Rattle.std.specs.Prelude.{IsTrue, nat_lt, filter, count_by, slice_index_or, Some, MatchOption, All, AllPairs, Contains, IsPermutation}
use Rattle.std.specs.List.Sorted.{IsNonDecreasingBy}
use Rattle.std.specs.declared.option.Option.{Option}
use Rattle.vs_defs.specs.Bytes.{Bytes, first_in, last_in}
use Rattle.vs_graph.specs.declared.node.Node.{Node}
use Rattle.vs_graph.specs.Good.{IsLinked, StandsAt}
use Rattle.vs_rank.specs.declared.Key.{Key}
use Rattle.vs_rank.specs.Tests.{Attribute}
use Rattle.vs_beam.specs.Beam.{far_at, attr_at}

-- who stands at the layer, who is linked there, how far each is from the query, and who passes
pub record Stage : Type 0 where
  pub stands : Bytes → Bool
  pub linked : Bytes → Bytes → Bool
  pub distance : Bytes → ℕ
  pub pass : Bytes → Bool

-- the stage is the layer of the graph, where `name` gives each member's name
pub record IsNamedBy (at : ℕ → Option Node) (layer : ℕ) (query : List ℕ) (passes : Attribute → Bool) (name : ℕ → Bytes) (stage : Stage) : Type 0 where
  pub apart : (a b : ℕ) → StandsAt at layer a → StandsAt at layer b → name a ≡ name b → a ≡ b
  pub standing : (a : ℕ) → StandsAt at layer a → IsTrue (stage.stands (name a))
  pub link : (a b : ℕ) → IsLinked at layer a b → IsTrue (stage.linked (name a) (name b))
  pub from_link : (a : ℕ) (other : Bytes) → StandsAt at layer a → IsTrue (stage.linked (name a) other) → (b : ℕ) × IsLinked at layer a b × (name b ≡ other)
  pub far : (a : ℕ) → StandsAt at layer a → stage.distance (name a) ≡ far_at at query a
  pub passing : (a : ℕ) → StandsAt at layer a → stage.pass (name a) ≡ passes (attr_at at a)

-- the names of keys' ids
abbrev pub names_of : (ℕ → Bytes) → List Key → List Bytes
names_of name keys = map (λ (key : Key). name key.id) keys

-- ---- a beam

abbrev pub IsNearerThanLast : Stage → List Bytes → Bytes → Type 0
IsNearerThanLast stage found v = MatchOption (last_in found) ⊥ (λ z. stage.distance v < stage.distance z)

abbrev pub IsClosed : Stage → ℕ → List Bytes → List Bytes → Type 0
IsClosed stage ef tried found =
    (i : ℕ) (d b : Bytes) → i < length tried → (i < ef) ⊎ (IsNearerThanLast stage found (slice_index_or tried i d) ⊎ (length found < ef))
    → IsTrue (stage.linked (slice_index_or tried i d) b) → Contains tried b

pub record IsNamedBeam (stage : Stage) (start : Bytes) (ef effort : ℕ) (tried found : List Bytes) : Type 0 where
  pub distinct : AllPairs (λ a b. a ≢ b) tried
  pub stand : All (λ a. IsTrue (stage.stands a)) tried
  pub sorted : IsNonDecreasingBy stage.distance tried
  pub order : List Bytes
  pub same : IsPermutation tried order
  pub first : first_in order ≡ Some start
  pub reached : (j : ℕ) (d : Bytes) → 0 < j → j < length order → (i : ℕ) × (i < j) × IsTrue (stage.linked (slice_index_or order i d) (slice_index_or order j d))
  pub best : found ≡ take ef (filter stage.pass tried)
  pub limit : 0 < effort → length tried ≤ effort
  pub closed : (effort ≡ 0) ⊎ (length tried < effort) → IsClosed stage ef tried found

-- ---- a descent

abbrev pub Approaches : Stage → Bytes → List Bytes → Bytes → Type 0
Approaches stage a [] b = a ≡ b
Approaches stage a (c ∷ cs) b = IsTrue (stage.linked a c) × (stage.distance c < stage.distance a) × Approaches stage c cs b

pub record StopsAt (stage : Stage) (before stop : Bytes) : Type 0 where
  pub stands : IsTrue (stage.stands stop)
  pub nearest : (b : Bytes) → IsTrue (stage.linked stop b) → stage.distance stop ≤ stage.distance b
  pub path : List Bytes
  pub approaches : Approaches stage before path stop

abbrev pub DescendsFrom : (ℕ → Stage) → Bytes → List ℕ → List Bytes → Type 0
DescendsFrom stage before [] [] = Unit {0}
DescendsFrom stage before (l ∷ ls) (stop ∷ stops) = StopsAt (stage l) before stop × DescendsFrom stage stop ls stops
DescendsFrom stage before [] (stop ∷ stops) = ⊥
DescendsFrom stage before (l ∷ ls) [] = ⊥

-- ---- the order of expansion

-- the start, or linked to one that was expanded
abbrev pub IsMet : Stage → Bytes → List Bytes → Bytes → Type 0
IsMet stage start expanded x = (x ≡ start) ⊎ ((y : Bytes) × Contains expanded y × IsTrue (stage.linked y x))

-- v is expanded after these: it was met, fewer than `width` that pass are met and strictly nearer, and none that waits is nearer
pub record IsNextName (stage : Stage) (start : Bytes) (width : ℕ) (expanded : List Bytes) (v : Bytes) : Type 0 where
  pub met : IsMet stage start expanded v
  -- among any names without repetition, with a test that is true of none but what was met
  pub fewer : (names : List Bytes) (is_met : Bytes → Bool) → AllPairs (λ a b. a ≢ b) names → ((x : Bytes) → is_met x ≡ true → IsMet stage start expanded x)
      → count_by (λ x. is_met x && stage.pass x && nat_lt (stage.distance x) (stage.distance v)) names < width
  pub nearest : (x : Bytes) → IsMet stage start expanded x → (Contains expanded x → ⊥) → stage.distance v ≤ stage.distance x
