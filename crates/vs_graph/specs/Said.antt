-- What lists and a map of changed nodes say of an id: nothing, or the node there, which may be none.
--     listed ids nodes id       by two lists side by side, of which the last place with the id counts
--     said ids nodes more id    by the lists, and of an id that is not listed by the map
--     IsNowhere, IsLastAt       whether and where an id is listed
use Rattle.std.specs.Prelude.{◌≡◌, ◌≢◌, ◌<◌, ◌==◌, ℕ, List, [], ◌∷◌, cond, length, slice_index, Some, None}
use Rattle.std.specs.Option.{option_or}
use Rattle.std.specs.declared.option.Option.{Option}
use Rattle.std.specs.Ordering.{nat_cmp}
use Rattle.std.specs.BTreeMap.{BTreeMap, get}
use Rattle.vs_graph.specs.declared.node.Node.{Node}

abbrev pub listed : List ℕ → List (Option Node) → ℕ → Option (Option Node)
listed [] nodes id = None
listed (i ∷ ids) [] id = None
listed (i ∷ ids) (node ∷ nodes) id = option_or (listed ids nodes id) (cond (i == id) (Some node) None)

abbrev pub said : List ℕ → List (Option Node) → BTreeMap ℕ (Option Node) → ℕ → Option (Option Node)
said ids nodes more id = option_or (listed ids nodes id) (get nat_cmp more id)

-- the id is not listed
abbrev pub IsNowhere : List ℕ → ℕ → Type 0
IsNowhere ids id = (k : ℕ) → k < length ids → slice_index ids k ≢ id

-- the last place at which the id is listed
pub record IsLastAt (ids : List ℕ) (id place : ℕ) : Type 0 where
  pub inside : place < length ids
  pub there : slice_index ids place ≡ id
  pub last : (k : ℕ) → place < k → k < length ids → slice_index ids k ≢ id
