-- Whom a new member is to be linked to, chosen by beams in a graph, from one layer down.
use Rattle.std.specs.Prelude.{◌≡◌, ◌+◌, ◌-◌, ℕ, Bool, true, List, [], ◌++◌, length, map, reverse, replicate, slice_get, Some, All, option_map}
use Rattle.std.specs.declared.option.Option.{Option}
use Rattle.vs_defs.specs.Vector.{Vector, ham}
use Rattle.vs_defs.specs.Words.{bits_of_words}
use Rattle.vs_defs.specs.Links.{bits_at}
use Rattle.vs_defs.specs.Linking as defs
use Rattle.vs_defs.specs.Insertion.{ChoosesFrom}
use Rattle.vs_graph.specs.declared.node.Node.{Node}
use Rattle.vs_graph.specs.Good.{StandsAt, AreLinksGood}
use Rattle.vs_graph.specs.Standing.{AreIds, members_of, name_of, set_of}
use Rattle.vs_rank.specs.declared.Key.{Key}
use Rattle.vs_rank.specs.Tests.{Attribute}
use Rattle.vs_beam.specs.Beam.{IsBeam}
use Rattle.vs_insert.specs.declared.draft.Chosen.{Chosen}
use Rattle.vs_insert.specs.Drafts.{ids_of, names_of, chosen_at, AreOwnChoices}
use Rattle.vs_insert.specs.Joined.{layers_below}

-- without a filter each member passes
abbrev pub everyone : Attribute → Bool
everyone attr = true

-- the list is the choice of what a beam found, and the next one starts at the nearest of that
pub record IsLayerChosen (at : ℕ → Option Node) (m layer start ef : ℕ) (query : List ℕ) (list : List Chosen) (next : ℕ) : Type 0 where
  pub tried : List ℕ
  pub expanded : List ℕ
  pub found : List Key
  pub beam : IsBeam at layer start query ef 0 everyone tried expanded found
  pub choices : AreOwnChoices at m layer list
  pub named : (dim : ℕ) (ids : List ℕ) (q : Vector) → AreLinksGood at m dim → AreIds at ids
      → All (λ (key : Key). key.dist ≡ ham q (bits_at (members_of at dim ids) (name_of at key.id))) found
      → map (name_of at) (ids_of list) ≡ defs.selected (bits_at (members_of at dim ids)) q m (map (λ (key : Key). name_of at key.id) found)
  pub nearest : option_map (λ (key : Key). key.id) (slice_get found 0) ≡ Some next
  pub stands : StandsAt at layer next

-- the lists of the layers below a number, from the highest down, are chosen from a start
pub record AreChosenFrom (at : ℕ → Option Node) (entry : Option ℕ) (m dim start count ef : ℕ) (query : List ℕ) (lists : List (List Chosen)) : Type 0 where
  pub long : length lists ≡ count
  pub choices : (layer : ℕ) → AreOwnChoices at m layer (chosen_at (reverse lists) layer)
  pub named : (cut : ℕ) (ids : List ℕ) → AreIds at ids
      → ChoosesFrom (set_of at entry m dim cut ids) (bits_of_words dim query) ef (name_of at start) (layers_below count) (map names_of lists)

-- the lists of a draft of a level: these from the highest layer down, turned round, and empty ones behind them
abbrev pub drafted_by : ℕ → List (List Chosen) → List (List Chosen)
drafted_by level lists = reverse lists ++ replicate (level + 1 - length lists) []
