-- A ready addition that is neither stale nor refused, and the set of its key.
--     IsFresh s add word draft place x      the set x stands at the place, and the addition may be committed to it
use Rattle.std.specs.Prelude.{◌≡◌, ℕ, Some, None}
use Rattle.vs_defs.specs.Refuse.{store_refusal}
use Rattle.vs_defs.specs.Request as request
use Rattle.vs_defs.specs.Stale.{stale_by}
use Rattle.vs_defs.specs.Store.{Store, Set, plain}
use Rattle.vs_bits.specs.declared.add.Add.{Add}
use Rattle.vs_bits.specs.Requests.{add_of}
use Rattle.vs_insert.specs.declared.draft.Draft.{Draft}
use Rattle.vs_store.specs.Drafts.{ready_seen, MayCommitIn}
use Rattle.vs_store.specs.Places.{IsSetAt}

pub record IsFresh (s : Store Set) (add : Add) (word : ℕ) (draft : Draft) (place : ℕ) (x : Set) : Type 0 where
  pub at : IsSetAt add.key place s x
  pub fresh : stale_by draft.cut add.name (Some x) ≡ None
  pub unrefused : store_refusal (plain s) (request.Vadd (add_of add)) ≡ None
  pub may : MayCommitIn x (ready_seen add word draft)
