-- A store with links that one author alone has changed, and a connection over it.
--     Stored k store h                it is the store after a legal history of the author's changes alone
--     EndsWith end g input output     a connection of the author 0 over a fresh store; g is the generator that the first word is drawn from
--     CompletesAlone end g messages left' written written'      the same, where the source had these whole messages and no end failed
use Rattle.std.specs.Prelude.{◌≡◌, ℕ, List, [], Option}
use Rattle.rand_pcg.specs.Lcg.{Lcg}
use Rattle.vs_defs.specs.Bytes.{Bytes}
use Rattle.vs_defs.specs.Stream.{Message}
use Rattle.vs_defs.specs.Store.{Store, Set, usual_limits}
use Rattle.vs_thread_defs.specs.Machine.{GraphHistory, GraphLegal, GraphCall, IsGoodThroughout, store_of}
use Rattle.vs_session_defs.specs.Session.{IsByOne}
use Rattle.vs_connection.specs.declared.end.SessionEnd.{SessionEnd}
use Rattle.vs_connection.specs.Stage.{CallOn}
use Rattle.vs_connection.specs.Point.{Point}
use Rattle.vs_connection.specs.Connection.{EndsAt}
use Rattle.vs_connection.specs.Complete.{IsComplete}

abbrev pub Call : CallOn GraphHistory
Call = GraphCall usual_limits

abbrev pub Legal : GraphHistory → Type 0
Legal = GraphLegal usual_limits

-- the store after a history
abbrev pub store_at : GraphHistory → Store Set
store_at = store_of usual_limits

-- a legal history of one author's changes alone, each of which leaves a good store
pub record IsOwn (k : ℕ) (h : GraphHistory) : Type 0 where
  pub legal : Legal h
  pub by_one : IsByOne k h
  pub good : IsGoodThroughout h

pub record Stored (store : Store Set) (k : ℕ) (h : GraphHistory) : Type 0 where
  pub own : IsOwn k h
  pub store_is : store_at h ≡ store

-- before the first change
abbrev pub fresh : Lcg → Point GraphHistory
fresh g = record { history = []; generator = g }

-- the history at its end is legal, each of its stores is good, and it holds no change but the connection's own
abbrev pub EndsWith : SessionEnd → Lcg → Bytes → Bytes → Type 0
EndsWith end g input output = EndsAt Call 0 (λ h g. IsOwn 0 h) end (fresh g) input output

-- it is complete, and leaves a history as EndsWith does
pub record CompletesAlone (end : SessionEnd) (g : Lcg) (messages : List Message) (left' written written' : Option Bytes) : Type 0 where
  pub now : Point GraphHistory
  pub own : IsOwn 0 now.history
  pub complete : IsComplete Call 0 (fresh g) end messages left' written written' now
