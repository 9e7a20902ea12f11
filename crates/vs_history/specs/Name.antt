-- What a table's word and its seats agree on.
--     Name            which table it is, and the limits under which its history is legal
--     IsNamed         a table has this name, and one word
--     IsFresh         a new table with one word, and the keeper's seat of it
--     no_table        the name of no table
use Rattle.std.specs.Prelude.{◌≡◌, ℕ, true, []}
use Rattle.atomic_table.specs.Seated.{TableId}
use Rattle.atomic_table.specs.Table.{Me}
use Rattle.vs_defs.specs.Store.{Limits}
use Rattle.vs_thread_defs.specs.Rule.{keeper}
use Rattle.vs_history.specs.Seats.{HistoryView}

pub record Name : Type 0 where
  pub table : TableId
  pub limits : Limits

abbrev pub no_table : TableId
no_table = record { words = 0; slots = 0; views_name = 0; atom = 0; block = 0; offset = 0; slot_names = [] }

pub record IsNamed (table : TableId) (limits : Limits) (here : TableId) (key : Limits) : Type 0 where
  pub same : here ≡ table
  pub one_word : here.words ≡ 1
  pub same_limits : key ≡ limits

pub record IsFresh (here seat : TableId) (me : Me ℕ HistoryView) : Type 0 where
  pub one_word : here.words ≡ 1
  pub same : seat ≡ here
  pub first : me ≡ (keeper 0 [] true, [])
