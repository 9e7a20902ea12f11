-- A ready addition as contracts see it, what a preparation gives, and what a commit needs and does.
--     ready_seen add word draft      the definitions' ready addition: its chosen by name and bits, and no id
--     IsReady add draft              the draft's member is the addition's, and all words fit its dimension
--     WasReadyIn was r               a set in which it may have been drafted and prepared
--     IsPrepared d r                 a preparation in the set of its draft
--     MayCommit s r                  what a commit that isn't stale needs of the set of its key
--     CommitsBy r old a new          an accepted commit: a change by the very lists of the draft
use Rattle.std.specs.Prelude.{◌≡◌, ◌≢◌, ◌≤◌, ◌+◌, ℕ, List, [], ◌∷◌, Some, None, length, map, unwrap_or, slice_get, All, AllPairs, IsSomeAnd}
use Rattle.vs_defs.specs.Bytes.{Bytes}
use Rattle.vs_defs.specs.Vector.{Vector}
use Rattle.vs_defs.specs.Words.{FitsDimension, bits_of_words}
use Rattle.vs_defs.specs.Bounds.{IsAddInBounds}
use Rattle.vs_defs.specs.Draws.{level_of}
use Rattle.vs_defs.specs.Insertion.{IsChosen}
use Rattle.vs_defs.specs.Request as request
use Rattle.vs_defs.specs.Request.{Answer}
use Rattle.vs_defs.specs.Stale.{stale_by}
use Rattle.vs_defs.specs.Store.{Store, Set, member_of, set_of}
use Rattle.vs_thread_defs.specs.Core as core
use Rattle.vs_thread_defs.specs.Core.{HasBits, IsDraftable, names_down}
use Rattle.vs_thread_defs.specs.Machine.{StoreChanges}
use Rattle.vs_bits.specs.declared.add.Add.{Add}
use Rattle.vs_bits.specs.Requests.{add_of}
use Rattle.vs_insert.specs.declared.draft.Chosen.{Chosen}
use Rattle.vs_insert.specs.declared.draft.Draft.{Draft}

-- by its name and its bits
abbrev pub chosen_seen : ℕ → Chosen → Bytes × Vector
chosen_seen dim c = (c.body.name, bits_of_words dim c.body.bits)

abbrev pub ready_seen : Add → ℕ → Draft → core.Ready
ready_seen add word draft = record {
  add = add_of add;
  drawn = word;
  cut = draft.cut;
  level = draft.level;
  chosen = map (map (chosen_seen (length add.bits))) draft.chosen;
}

pub record IsReady (add : Add) (draft : Draft) : Type 0 where
  pub bounds : IsAddInBounds (add_of add)
  pub name : draft.body.name ≡ add.name
  pub fits : FitsDimension (length add.bits) draft.body.bits
  pub bits : bits_of_words (length add.bits) draft.body.bits ≡ add.bits
  pub level : draft.level ≤ 15

pub record WasReadyIn (was : Set) (r : core.Ready) : Type 0 where
  pub draftable : IsDraftable was r.add
  pub cut : r.cut ≡ was.contents.cut
  pub level : r.level ≡ level_of r.drawn
  pub chosen : IsChosen was r.add.bits r.level r.add.ef (names_down r.chosen)
  pub bits : All (All (HasBits was)) r.chosen

-- one of the chosen is a member that stands at the layer with the bits that it had
abbrev pub IsThere : Set → ℕ → Bytes × Vector → Type 0
IsThere now layer c = IsSomeAnd (member_of c.0 now.contents.members) (λ y. (y.bits ≡ c.1) × (layer ≤ y.level))

pub record AreThere (now : Set) (layer : ℕ) (list : List (Bytes × Vector)) : Type 0 where
  pub few : length list ≤ now.contents.m
  pub once : AllPairs (λ a b. a.0 ≢ b.0) list
  pub there : All (IsThere now layer) list

-- the draft has the set's dimension, and its chosen stand there
pub record MayCommitIn (now : Set) (r : core.Ready) : Type 0 where
  pub dim : length r.add.bits ≡ now.contents.dim
  pub layers : length r.chosen ≡ r.level + 1
  pub lists : (layer : ℕ) → AreThere now layer (unwrap_or (slice_get r.chosen layer) [])

abbrev pub MayCommit : Store Set → core.Ready → Type 0
MayCommit s r = (now : Set) → set_of r.add.key s ≡ Some now → stale_by r.cut r.add.name (Some now) ≡ None → MayCommitIn now r

pub record IsPrepared (d : core.Drafting) (r : core.Ready) : Type 0 where
  pub add : r.add ≡ d.add
  pub drawn : r.drawn ≡ d.drawn
  pub was : WasReadyIn d.set r
  pub may : MayCommitIn d.set r

-- for whatever set it may have been drafted in
abbrev pub CommitsBy : core.Ready → Store Set → Answer → Store Set → Type 0
CommitsBy r old a new = (was : Set) → WasReadyIn was r → StoreChanges old (request.Vadd r.add) (r.drawn ∷ []) a new (Some (was, names_down r.chosen))
