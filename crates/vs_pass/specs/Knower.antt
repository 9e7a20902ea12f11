-- What contracts see of a pass, and what the types of passes and of the locked value keep.
--     Knower                        a pass
--     IsPass, IsDesk                what the two types keep
--     newcomers seed n              the passes of a new history
--     Meets one other both          what two passes have seen once they have met
use Rattle.std.specs.Prelude.{◌≡◌, ◌⊎◌, ℕ, zero, suc, true, false, List, [], ◌∷◌, ◌++◌, length}
use Rattle.rand_pcg.specs.Lcg.{Lcg}
use Rattle.vs_defs.specs.Store.{Store, Set, Limits}
use Rattle.vs_defs.specs.History.{IsPrefix, own}
use Rattle.vs_session_defs.specs.Words.{generator}
use Rattle.vs_thread_defs.specs.Machine.{GraphHistory, GraphLegal, IsGoodThroughout, store_of}
use Rattle.vs_thread_defs.specs.Rule.{pass, keeper}
use Rattle.vs_history.specs.Seats.{HistoryView}

-- its number, the history that it has seen, and the generator of its next words
pub record Knower : Type 0 where
  pub number : ℕ
  pub seen : GraphHistory
  pub stream : Lcg

-- the seat's view is that of a pass at rest, which has seen its own entries; the count is the length of its history, which is
-- legal and has good stores alone
pub record IsPass (limits : Limits) (number known : ℕ) (view : HistoryView) : Type 0 where
  pub at_rest : view ≡ pass number view.seen false [] (own number view.seen)
  pub counts : known ≡ length view.seen
  pub legal : GraphLegal limits view.seen
  pub good : IsGoodThroughout view.seen

-- the keeper leads; its history is legal, has good stores alone, and ends in this store, which counts its changes
pub record IsDesk (limits : Limits) (store : Store Set) (view : HistoryView) : Type 0 where
  pub leads : view ≡ keeper view.made view.seen true
  pub legal : GraphLegal limits view.seen
  pub good : IsGoodThroughout view.seen
  pub ends : store ≡ store_of limits view.seen
  pub counts : store.changes ≡ length view.seen

-- the numbers from 0, each with nothing seen and the stream of its number
abbrev pub newcomers : ℕ → ℕ → List Knower
newcomers seed zero = []
newcomers seed (suc n) = newcomers seed n ++ record { number = n; seen = []; stream = generator seed n } ∷ []

-- one of two lists begins the other, and both is the longer
abbrev pub Meets : GraphHistory → GraphHistory → GraphHistory → Type 0
Meets one other both = (IsPrefix one other × (both ≡ other)) ⊎ (IsPrefix other one × (both ≡ one))
