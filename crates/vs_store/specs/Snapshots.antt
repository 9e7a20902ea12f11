-- What a search that has looked and an addition that is drafted keep.
--     IsLook looked place      the set has a member and doesn't refuse the search; the place is that of the searched member
--     IsDraft drafting         the addition may be drafted in its set
use Rattle.std.specs.Prelude.{◌≡◌, ◌<◌, ℕ, Option, Some, None, IfSome, length}
use Rattle.vs_defs.specs.Bounds.{IsSearchInBounds, IsAddInBounds}
use Rattle.vs_defs.specs.Refuse.{search_refusal}
use Rattle.vs_defs.specs.Request.{Search}
use Rattle.vs_defs.specs.Store.{Set}
use Rattle.vs_thread_defs.specs.Core.{Looked, Drafting, IsDraftable}
use Rattle.vs_query.specs.Found.{place_sought}
use Rattle.vs_set.specs.Kept.{IsSound}

-- a set in which a search can be answered
pub record Suits (search : Search) (place : Option ℕ) (x : Set) : Type 0 where
  pub sound : IsSound x
  pub some : 0 < length x.contents.members
  pub unrefused : search_refusal search.what (Some x.contents) ≡ None
  pub sought : place ≡ place_sought search.what x.contents.members

pub record IsLook (l : Looked) (place : Option ℕ) : Type 0 where
  pub bounds : IsSearchInBounds l.search
  pub set : IfSome l.set (Suits l.search place)

pub record IsDraft (d : Drafting) : Type 0 where
  pub bounds : IsAddInBounds d.add
  pub sound : IsSound d.set
  pub some : 0 < length d.set.contents.members
  pub draftable : IsDraftable d.set d.add
