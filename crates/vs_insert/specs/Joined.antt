-- A new member that is joined layer by layer, from its highest layer down.
use Rattle.std.specs.Prelude.{◌≡◌, ◌≢◌, ◌<◌, ◌≤◌, ◌+◌, ◌*◌, ℕ, zero, suc, min, List, [], ◌∷◌, length, map, take, IsSomeAnd, option_map}
use Rattle.std.specs.Option.{option_map_or}
use Rattle.std.specs.declared.option.Option.{Option}
use Rattle.vs_defs.specs.Insertion.{SameLinks, linked_along}
use Rattle.vs_defs.specs.Linking as defs
use Rattle.vs_graph.specs.declared.node.Node.{Node}
use Rattle.vs_graph.specs.Good.{links_at, most_links, StandsAt, AreLinksGood}
use Rattle.vs_graph.specs.GoodTable.{KeepsLinked}
use Rattle.vs_graph.specs.Relinks.{Relinks}
use Rattle.vs_graph.specs.Standing.{AreIds, members_of, name_of, named_links}
use Rattle.vs_graph.specs.Table.{Table}
use Rattle.vs_beam.specs.Beam.{level_at}
use Rattle.vs_unlink.specs.Unlinked.{bare}
use Rattle.vs_insert.specs.declared.draft.Chosen.{Chosen}
use Rattle.vs_insert.specs.Drafts.{ids_of, names_down}

-- the layers below a number, from the highest down
abbrev pub layers_below : ℕ → List ℕ
layers_below zero = []
layers_below (suc n) = n ∷ layers_below n

-- of the layers of a new member, how many are not above the entry's level
abbrev pub layers_shared : (ℕ → Option Node) → Option ℕ → ℕ → ℕ
layers_shared at entry level = option_map_or (λ id. min (level_at at id) level + 1) entry 0

-- At the layers below a number the entry stands beside x, and at those from it on, as far as x has them, nobody does.
pub record IsSharedBelow (at : ℕ → Option Node) (x : ℕ) (entry : Option ℕ) (count shared : ℕ) : Type 0 where
  pub within : (layer : ℕ) → layer < shared → IsSomeAnd entry (λ id. StandsAt at layer id × (id ≢ x))
  pub beyond : (layer y : ℕ) → shared ≤ layer → layer < count → y ≢ x → StandsAt at layer y → ⊥

-- the most nodes that a member's joining at a layer reads
abbrev pub reads_of : ℕ → ℕ → ℕ
reads_of m layer = m * (most_links m layer + 4) + (most_links m layer + 4)

-- x is joined at a layer
pub record IsLayerJoined (at new : ℕ → Option Node) (m x layer : ℕ) (chosen : List Chosen) (fallback : Option ℕ) : Type 0 where
  pub table : Table
  pub relinks : Relinks at new layer table
  pub good : (dim : ℕ) → AreLinksGood at m dim → AreLinksGood new m dim
  pub kept : KeepsLinked (links_at at layer) (links_at new layer)
  pub own : (y : ℕ) → y ≢ x → StandsAt at layer y → 0 < length (links_at new layer x)
  pub named : (dim : ℕ) (ids : List ℕ) → AreLinksGood at m dim → AreIds at ids
      → SameLinks (named_links new ids)
      (defs.linked m (members_of at dim ids) (named_links at ids) (name_of at x) layer (map (name_of at) (ids_of chosen)) (option_map (name_of at) fallback))

-- x is joined at each of its layers from one on: what is left by names is to join it at those below
pub record IsJoinedFrom (at new : ℕ → Option Node) (m x : ℕ) (entry : Option ℕ) (chosen : List (List Chosen)) (layer : ℕ) : Type 0 where
  pub rest : (id : ℕ) → bare (new id) ≡ bare (at id)
  pub below : (l : ℕ) → l < layer → links_at new l ≡ links_at at l
  pub good : (dim : ℕ) → AreLinksGood at m dim → AreLinksGood new m dim
  pub kept : (l : ℕ) → KeepsLinked (links_at at l) (links_at new l)
  pub own : (l y : ℕ) → layer ≤ l → l < length chosen → y ≢ x → StandsAt at l y → 0 < length (links_at new l x)
  pub named : (dim : ℕ) (ids : List ℕ) → AreLinksGood at m dim → AreIds at ids
      → linked_along m (members_of at dim ids) (named_links at ids) (name_of at x) (option_map (name_of at) entry) (layers_below (length chosen)) (names_down chosen)
      ≡ linked_along m (members_of at dim ids) (named_links new ids) (name_of at x) (option_map (name_of at) entry) (layers_below layer) (names_down (take layer chosen))
