-- What a commit leaves.
use Rattle.std.specs.Prelude.{◌≡◌, ◌≢◌, ◌+◌, ℕ, nat_lt, cond, List, [], ◌∷◌, ◌++◌, length, Some, None, IsSomeAnd, option_map}
use Rattle.std.specs.declared.option.Option.{Option}
use Rattle.vs_defs.specs.Words.{bits_of_words}
use Rattle.vs_defs.specs.Store.{with_member}
use Rattle.vs_defs.specs.Insertion.{IsLinkedBy}
use Rattle.vs_graph.specs.declared.node.Node.{Node}
use Rattle.vs_graph.specs.declared.node.Attr.{Attr}
use Rattle.vs_graph.specs.Standing.{AreIds, members_of, set_of}
use Rattle.vs_beam.specs.Beam.{level_at}
use Rattle.vs_unlink.specs.Unlinked.{bare}
use Rattle.vs_insert.specs.declared.draft.Chosen.{Chosen}
use Rattle.vs_insert.specs.declared.draft.Draft.{Draft}
use Rattle.vs_insert.specs.Drafts.{AreChoices, AreOwnChoices, chosen_at, names_down}

-- a list for each layer of a member of the level, of those that it may be linked to in the graph
pub record AreDrafted (at : ℕ → Option Node) (m level : ℕ) (chosen : List (List Chosen)) : Type 0 where
  pub layers : length chosen ≡ level + 1
  pub lists : (layer : ℕ) → AreChoices at m layer (chosen_at chosen layer)

-- such lists as a search in this graph makes them
pub record AreOwnDrafted (at : ℕ → Option Node) (m level : ℕ) (chosen : List (List Chosen)) : Type 0 where
  pub layers : length chosen ≡ level + 1
  pub lists : (layer : ℕ) → AreOwnChoices at m layer (chosen_at chosen layer)

-- the new member is the entry where there was none, or where its level is greater
abbrev pub entry_after : (ℕ → Option Node) → Option ℕ → ℕ → ℕ → Option ℕ
entry_after at None id level = Some id
entry_after at (Some e) id level = cond (nat_lt (level_at at e) level) (Some id) (Some e)

-- The draft's member is at the id. Each other node is as it was but for its links. Whatever the order of the ids, the new member may
-- stand last among the members, and the links are those that the definitions make of the draft's lists.
pub record IsAdded (at new : ℕ → Option Node) (entry : Option ℕ) (m dim id : ℕ) (attr : Option Attr) (draft : Draft) : Type 0 where
  pub there : IsSomeAnd (new id) (λ node. (node.body ≡ draft.body) × (node.attr ≡ attr) × (node.level ≡ draft.level))
  pub others : (q : ℕ) → q ≢ id → bare (new q) ≡ bare (at q)
  pub last : (ids : List ℕ) → AreIds at ids → AreIds new (ids ++ id ∷ [])
  pub members : (ids : List ℕ) → AreIds at ids → members_of new dim (ids ++ id ∷ [])
      ≡ with_member (record { name = draft.body.name; bits = bits_of_words dim draft.body.bits; attr = option_map (λ a. a.text) attr; level = draft.level }) (members_of at dim ids)
  pub linked : (cut after : ℕ) (ids all : List ℕ) → AreIds at ids → AreIds new all
      → IsLinkedBy (set_of at entry m dim cut ids) draft.body.name draft.level (names_down draft.chosen) (set_of new (entry_after at entry id draft.level) m dim after all)
