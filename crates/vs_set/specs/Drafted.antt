-- Drafts as a set sees them, by names.
--     IsDraft x body level ef draft      what a preparation in the set gives
--     MayCommit x draft                  what a draft that isn't stale keeps in the set as it is now
--     Commits draft attr old new         what a commit makes of the set
use Rattle.std.specs.Prelude.{◌≡◌, ◌≤◌, ℕ, All, Some, None, option_map}
use Rattle.std.specs.declared.option.Option.{Option}
use Rattle.vs_defs.specs.Bytes.{Bytes}
use Rattle.vs_defs.specs.Words.{FitsDimension, bits_of_words}
use Rattle.vs_defs.specs.Store.{Set, Member, member_of, with_member}
use Rattle.vs_defs.specs.PlainStep.{attr_after}
use Rattle.vs_defs.specs.Insertion.{IsChosen, IsLinkedBy}
use Rattle.vs_graph.specs.declared.node.Body.{Body}
use Rattle.vs_insert.specs.declared.draft.Chosen.{Chosen}
use Rattle.vs_insert.specs.declared.draft.Draft.{Draft}
use Rattle.vs_insert.specs.Chosen.{AreChosenNames}
use Rattle.vs_insert.specs.Drafts.{chosen_at, names_down}

-- one list for each layer, of few different names of members that stand there; of the ids nothing is asked
pub record MayCommit (x : Set) (draft : Draft) : Type 0 where
  pub fits : FitsDimension x.contents.dim draft.body.bits
  pub low : draft.level ≤ 15
  pub chosen : AreChosenNames x draft.level (names_down draft.chosen)

-- a chosen one has the bits of the member of its name
abbrev pub HasBits : Set → Chosen → Type 0
HasBits x c = option_map (λ y. y.bits) (member_of c.body.name x.contents.members) ≡ Some (bits_of_words x.contents.dim c.body.bits)

pub record IsDraft (x : Set) (body : Body) (level ef : ℕ) (draft : Draft) : Type 0 where
  pub cut_is : draft.cut ≡ x.contents.cut
  pub level_is : draft.level ≡ level
  pub body_is : draft.body ≡ body
  pub chosen : IsChosen x (bits_of_words x.contents.dim body.bits) level ef (names_down draft.chosen)
  pub bits : (layer : ℕ) → All (HasBits x) (chosen_at draft.chosen layer)
  pub may : MayCommit x draft

-- the member of a draft with the text of its SETATTR
abbrev pub drafted_with : ℕ → Draft → Option Bytes → Member
drafted_with dim draft text = record { name = draft.body.name; bits = bits_of_words dim draft.body.bits; attr = attr_after text None; level = draft.level }

pub record Commits (draft : Draft) (text : Option Bytes) (old new : Set) : Type 0 where
  pub contents : new.contents ≡ record old.contents { members = with_member (drafted_with old.contents.dim draft text) old.contents.members }
  pub linked : IsLinkedBy old draft.body.name draft.level (names_down draft.chosen) new
