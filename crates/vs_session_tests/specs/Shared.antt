-- A store that two authors change: the history of both, and how it goes on by others than the author 0.
use Rattle.std.specs.Prelude.{◌≡◌}
use Rattle.vs_defs.specs.Store.{Store, Set}
use Rattle.vs_defs.specs.History.{IsPrefix, own}
use Rattle.vs_thread_defs.specs.Machine.{GraphHistory, IsGoodThroughout}
use Rattle.vs_session.specs.Alone.{Legal, store_at}

-- it is the store after this legal history, each of whose stores is good
pub record IsAfter (store : Store Set) (h : GraphHistory) : Type 0 where
  pub legal : Legal h
  pub good : IsGoodThroughout h
  pub store_is : store_at h ≡ store

-- Others than the author 0 may have changed the store.
pub record OthersChange (new : Store Set) (h : GraphHistory) : Type 0 where
  pub history : GraphHistory
  pub begins : IsPrefix h history
  pub mine : own 0 history ≡ own 0 h
  pub after : IsAfter new history
