-- The rule on the table of a history, and what the steps of its seats tell.
--     HistoryView             what a seat knows, over stores with links
--     Holds limits state      the rule
--     IsSeat table seat me    a seat of this table, which holds no slot
--     SettledSeat, AppendedSeat      what a load, and a fetch and add, tell a seat
--     no_entry                an entry that no call makes
use Rattle.std.specs.Prelude.{◌≡◌, ℕ, [], None}
use Rattle.atomic_table.specs.Table.{State, Me}
use Rattle.atomic_table.specs.Seated.{TableId}
use Rattle.vs_defs.specs.Request as request
use Rattle.vs_defs.specs.Store.{Store, Set, Limits, empty_store, usual_limits}
use Rattle.vs_defs.specs.History.{Entry}
use Rattle.vs_thread_defs.specs.Machine.{Follows}
use Rattle.vs_thread_defs.specs.Rule.{View, Kept, Settled, Appended}

abbrev pub HistoryView : Type 0
HistoryView = View (Store Set)

abbrev pub Holds : Limits → State ℕ HistoryView → Type 0
Holds limits s = Kept (Follows limits) s.words s.views

pub record IsSeat (table seat : TableId) (me : Me ℕ HistoryView) : Type 0 where
  pub same : seat ≡ table
  pub empty : me.1 ≡ []

abbrev pub SettledSeat : Limits → Me ℕ HistoryView → ℕ → Me ℕ HistoryView → Type 0
SettledSeat limits me found now = (now.1 ≡ me.1) × Settled (Follows limits) me.0 found now.0

abbrev pub AppendedSeat : Entry (Store Set) → Me ℕ HistoryView → ℕ → Me ℕ HistoryView → Type 0
AppendedSeat e me found now = (now.1 ≡ me.1) × Appended e me.0 found now.0

abbrev pub no_entry : Entry (Store Set)
no_entry = record { author = 0; request = request.Quit; words = []; draft = None; answer = request.Bye; store = empty_store usual_limits }
