-- A store that is filled with generated members.
--     IsAdded dim i add                  the VADD of member i
--     AddsOne old words drawn new        the words' request was carried out, and changed the store
--     IsGrown seed i dim s               the store after the first i members
use Rattle.std.specs.Prelude.{◌≡◌, ℕ, List, Option, Some, None, Ok, length, map, codes}
use Rattle.std.specs.List.{range_with_len}
use Rattle.vs_defs.specs.Bounds.{IsInBounds}
use Rattle.vs_defs.specs.Bytes.{Bytes}
use Rattle.vs_defs.specs.Read.{read, draws}
use Rattle.vs_defs.specs.Request.{Request, Answer, Add}
use Rattle.vs_defs.specs.Store.{Store, Set, names_of, set_of, usual_limits}
use Rattle.vs_thread_defs.specs.Generator.{IsGenerated, member_name}
use Rattle.vs_thread_defs.specs.Machine.{GraphHistory, StoreChanges, store_of}

pub record IsAdded (dim i : ℕ) (add : Add) : Type 0 where
  pub key : add.key ≡ codes "g"
  pub name : add.name ≡ member_name i
  pub dim_is : length add.bits ≡ dim

pub record AddsOne (old : Store Set) (words : List Bytes) (drawn : List ℕ) (answer : Answer) (new : Store Set) : Type 0 where
  pub request : Request
  pub read_is : read words ≡ Ok request
  pub in_bounds : IsInBounds request
  pub draws_are : length drawn ≡ draws request
  pub changes : StoreChanges old request drawn answer new None

-- the set of the key has the first i members, in their order; there is none before the first
abbrev pub Holds : ℕ → ℕ → Option Set → Type 0
Holds i dim None = i ≡ 0
Holds i dim (Some x) = (x.contents.dim ≡ dim) × (names_of x.contents.members ≡ map member_name (range_with_len 0 i))

pub record IsGrown (seed i dim : ℕ) (s : Store Set) : Type 0 where
  pub history : GraphHistory
  pub generated : IsGenerated seed i dim history
  pub store_is : store_of usual_limits history ≡ s
  pub holds : Holds i dim (set_of (codes "g") s)
