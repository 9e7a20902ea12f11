-- What the removal of a member leaves of the sets, where its set x stood at a place.
--     LeavesOthers place name number key x old new     others are left in the set
--     Leaves place name number key x old new           they are, or it was the only one and its set goes
use Rattle.std.specs.Prelude.{◌≡◌, ◌<◌, ◌⊎◌, ℕ, List, ◌∷◌, length, slice_set}
use Rattle.std.specs.List.Sorted.{IsPermutation}
use Rattle.vs_defs.specs.Bytes.{Bytes}
use Rattle.vs_defs.specs.Store.{Set}
use Rattle.vs_set.specs.Changed.{RemovesMember}
use Rattle.vs_set.specs.Kept.{IsSound}

pub record LeavesOthers (place : ℕ) (name : Bytes) (number : ℕ) (key : Bytes) (x : Set) (old new : List (Bytes × Set)) : Type 0 where
  pub left : Set
  pub several : 1 < length x.contents.members
  pub removes : RemovesMember name number x left
  pub sound : IsSound left
  pub sets_are : new ≡ slice_set old place (key, left)

abbrev pub Leaves : (place : ℕ) (name : Bytes) (number : ℕ) (key : Bytes) (x : Set) (old new : List (Bytes × Set)) → Type 0
Leaves place name number key x old new =
    ((length x.contents.members ≡ 1) × IsPermutation old ((key, x) ∷ new)) ⊎ LeavesOthers place name number key x old new
