-- The place of a key's set.
--     IsSetAt key place s x      the set x of the key stands at the place
use Rattle.std.specs.Prelude.{◌≡◌, ℕ, Some, slice_get}
use Rattle.vs_defs.specs.Bytes.{Bytes}
use Rattle.vs_defs.specs.Store.{Store, Set, set_of}

pub record IsSetAt (key : Bytes) (place : ℕ) (s : Store Set) (x : Set) : Type 0 where
  pub at : slice_get s.sets place ≡ Some (key, x)
  pub of_key : set_of key s ≡ Some x
