-- A descent and a beam by ids are those of the definitions by names, in the set that the graph stands for: `ids` has the live ids in the
-- members' order, and each fact holds for every such order.
--     stops_named at top low stops      the names of a descent's stops, from the top layer down
--     keys_named at keys                the names of keys
--     IsNamedDescent, IsNamedBeam       what a descent and a beam are by names
use Rattle.std.specs.Prelude.{◌≡◌, ◌+◌, ℕ, Bool, List, Some, map, slice_index}
use Rattle.std.specs.declared.option.Option.{Option}
use Rattle.vs_defs.specs.Bytes.{Bytes}
use Rattle.vs_defs.specs.Words.{bits_of_words}
use Rattle.vs_defs.specs.Store.{Member, member_of}
use Rattle.vs_defs.specs.Beam as defs
use Rattle.vs_defs.specs.Beam.{layers_down, descent_start}
use Rattle.vs_defs.specs.Counts.{IsExpansion, beam_reads}
use Rattle.vs_graph.specs.declared.node.Node.{Node}
use Rattle.vs_graph.specs.Standing.{AreIds, name_of, members_of, set_of}
use Rattle.vs_rank.specs.declared.Key.{Key}
use Rattle.vs_rank.specs.Tests.{Attribute}
use Rattle.vs_beam.specs.Beam.{ranked}
use Rattle.vs_beam.specs.Searching.{expansion_cost}

abbrev pub stops_named : (ℕ → Option Node) → ℕ → ℕ → List ℕ → List Bytes
stops_named at top low stops = map (λ layer. name_of at (slice_index stops layer)) (layers_down top low)

abbrev pub keys_named : (ℕ → Option Node) → List Key → List Bytes
keys_named at keys = map (λ (key : Key). name_of at key.id) keys

-- a test by name that answers as the predicate does of the member's attribute
abbrev pub PassesBy : List Member → (Attribute → Bool) → (Bytes → Bool) → Type 0
PassesBy members passes pass = (name : Bytes) (x : Member) → member_of name members ≡ Some x → pass name ≡ passes x.attr

-- the stops are those of a descent, and the search below starts where that one goes on
pub record IsNamedDescent (at : ℕ → Option Node) (entry : Option ℕ) (m dim : ℕ) (query : List ℕ) (low start top : ℕ) (stops : List ℕ) : Type 0 where
  pub descends : (cut : ℕ) (ids : List ℕ) → AreIds at ids → defs.IsDescent (set_of at entry m dim cut ids) (bits_of_words dim query) low (stops_named at top low stops)
  pub starts : (cut : ℕ) (ids : List ℕ) → AreIds at ids → descent_start (set_of at entry m dim cut ids) (stops_named at top low stops) ≡ Some (name_of at start)

-- What was tried, sorted by distance, and what was found are a beam's, the order of expansion is one of its orders, and it costs as many
-- reads.
pub record IsNamedBeam (at : ℕ → Option Node) (entry : Option ℕ) (m dim layer start : ℕ) (query : List ℕ) (ef effort : ℕ) (passes : Attribute → Bool) (tried expanded : List ℕ) (found : List Key) : Type 0 where
  pub beam : (cut : ℕ) (ids : List ℕ) (pass : Bytes → Bool) → AreIds at ids → PassesBy (members_of at dim ids) passes pass
      → defs.IsBeam (set_of at entry m dim cut ids) (bits_of_words dim query) layer (name_of at start) ef effort pass (keys_named at (ranked at query tried)) (keys_named at found)
  pub order : (cut : ℕ) (ids : List ℕ) (pass : Bytes → Bool) → AreIds at ids → PassesBy (members_of at dim ids) passes pass
      → IsExpansion (set_of at entry m dim cut ids) (bits_of_words dim query) layer (name_of at start) ef pass (keys_named at (ranked at query tried)) (map (name_of at) expanded)
  pub reads : (cut : ℕ) (ids : List ℕ) → AreIds at ids → 1 + expansion_cost at layer expanded ≡ beam_reads (set_of at entry m dim cut ids) layer (map (name_of at) expanded)
