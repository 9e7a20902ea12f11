-- Drafts: whom a new member is to be linked to at each of its layers.
use Rattle.std.specs.Prelude.{◌≡◌, ◌≤◌, ℕ, nat_eq, List, [], Some, length, map, reverse, slice_get, unwrap_or, All}
use Rattle.std.specs.List.{IsDistinct}
use Rattle.std.specs.declared.option.Option.{Option}
use Rattle.vs_defs.specs.Bytes.{Bytes}
use Rattle.vs_graph.specs.declared.node.Node.{Node}
use Rattle.vs_graph.specs.Good.{body_at, StandsAt}
use Rattle.vs_graph.specs.Standing.{name_of}
use Rattle.vs_insert.specs.declared.draft.Chosen.{Chosen}

abbrev pub ids_of : List Chosen → List ℕ
ids_of list = map (λ (c : Chosen). c.id) list

abbrev pub names_of : List Chosen → List Bytes
names_of list = map (λ (c : Chosen). c.body.name) list

abbrev pub chosen_at : List (List Chosen) → ℕ → List Chosen
chosen_at chosen layer = unwrap_or (slice_get chosen layer) []

-- the names of each layer, from the highest one down
abbrev pub names_down : List (List Chosen) → List (List Bytes)
names_down chosen = map names_of (reverse chosen)

-- whom a new member may be linked to at a layer: at most m, all different, that stand there under their names
pub record AreChoices (at : ℕ → Option Node) (m layer : ℕ) (list : List Chosen) : Type 0 where
  pub stand : All (λ (c : Chosen). StandsAt at layer c.id) list
  pub names : All (λ (c : Chosen). name_of at c.id ≡ c.body.name) list
  pub once : IsDistinct nat_eq (ids_of list)
  pub few : length list ≤ m

-- each has the body that is at its id
abbrev pub HaveBodies : (ℕ → Option Node) → List Chosen → Type 0
HaveBodies at list = All (λ (c : Chosen). body_at at c.id ≡ Some c.body) list

-- choices with their bodies, as a search in this graph makes them
pub record AreOwnChoices (at : ℕ → Option Node) (m layer : ℕ) (list : List Chosen) : Type 0 where
  pub choices : AreChoices at m layer list
  pub bodies : HaveBodies at list
