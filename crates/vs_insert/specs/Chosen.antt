-- What the definitions' choice of a draft is, and the member that a draft makes.
use Rattle.std.specs.Prelude.{◌≡◌, ◌≢◌, ℕ, ◌+◌, ◌-◌, ◌<◌, ◌≤◌, IsTrue, List, length, All, AllPairs, option_map}
use Rattle.std.specs.List.{slice_index_or as get_or}
use Rattle.std.specs.declared.option.Option.{Option}
use Rattle.vs_defs.specs.Bytes.{Bytes}
use Rattle.vs_defs.specs.Words.{bits_of_words}
use Rattle.vs_defs.specs.Store.{Member, Set}
use Rattle.vs_defs.specs.Links.{stands_at}
use Rattle.vs_graph.specs.declared.node.Attr.{Attr}
use Rattle.vs_insert.specs.declared.draft.Draft.{Draft}

-- the member of a draft, with an attribute
abbrev pub drafted_member : ℕ → Option Attr → Draft → Member
drafted_member dim attr draft = record { name = draft.body.name; bits = bits_of_words dim draft.body.bits; attr = option_map (λ a. a.text) attr; level = draft.level }

-- at most M names, all different, of members that stand at the layer
pub record AreLayerNames (s : Set) (layer : ℕ) (names : List Bytes) : Type 0 where
  pub few : length names ≤ s.contents.m
  pub once : AllPairs (λ a b. a ≢ b) names
  pub stand : All (λ name. IsTrue (stands_at s.contents.members layer name)) names

-- one list for each layer of a member of the level, from the highest down
pub record AreChosenNames (s : Set) (level : ℕ) (chosen : List (List Bytes)) : Type 0 where
  pub layers : length chosen ≡ level + 1
  pub lists : (i : ℕ) (d : List Bytes) → i < length chosen → AreLayerNames s (level - i) (get_or chosen i d)
