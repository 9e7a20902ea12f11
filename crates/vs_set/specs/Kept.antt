-- How a set is kept: the graph, and in the members' order their names with their ids.
--     set_by at entry m dim cut entries      the set that contracts see
--     AreNamed at entries                    the entries are the live ids with the names of their members
--     IsKept                                 what holds of a set that is kept
--     KeepRows at dim entries rows           where the rows tell words at a member's place, they keep the member's bits
--     IsSound x                              what holds of a set that contracts see
use Rattle.std.specs.Prelude.{◌≡◌, ◌<◌, ◌≤◌, ◌^◌, ℕ, Bool, cond, List, length, slice_index_or, All, IfSome, count_by, is_some}
use Rattle.std.specs.declared.option.Option.{Option}
use Rattle.vs_defs.specs.Store as model
use Rattle.vs_defs.specs.Store.{Member, no_member}
use Rattle.vs_defs.specs.Good.{Good}
use Rattle.vs_graph.specs.declared.node.Node.{Node}
use Rattle.vs_graph.specs.Standing.{AreIds, members_of, name_of, set_of}
use Rattle.vs_order.specs.Entries.{Entries, ids_of}
use Rattle.vs_page.specs.Told.{row_at}
use Rattle.vs_page.specs.declared.rows.Rows.{Rows}
use Rattle.vs_truth.specs.Nearest.{KeepsBits}

abbrev pub set_by : (ℕ → Option Node) → Option ℕ → (m dim cut : ℕ) → Entries → model.Set
set_by at entry m dim cut entries = set_of at entry m dim cut (ids_of entries)

pub record AreNamed (at : ℕ → Option Node) (entries : Entries) : Type 0 where
  pub ids : AreIds at (ids_of entries)
  pub names : All (λ e. name_of at e.1 ≡ e.0) entries

-- how many members have an attribute
abbrev pub attribute_count : List Member → ℕ
attribute_count members = count_by (λ y. is_some y.attr) members

abbrev pub one_if : Bool → ℕ
one_if b = cond b 1 0

-- the snapshots' order is that of the names, and the members with an attribute are counted
pub record IsKept (at : ℕ → Option Node) (dim : ℕ) (entries order : Entries) (attributes : ℕ) : Type 0 where
  pub named : AreNamed at entries
  pub same : order ≡ entries
  pub counted : attributes ≡ attribute_count (members_of at dim (ids_of entries))

-- where words are told at a member's place, they keep its bits
abbrev pub AreRowsOf : (ℕ → Option (List ℕ)) → List Member → Type 0
AreRowsOf rows members = (k : ℕ) → k < length members → IfSome (rows k) (λ words. KeepsBits (slice_index_or members k no_member).bits words)

abbrev pub KeepRows : (at : ℕ → Option Node) (dim : ℕ) → Entries → Rows → Type 0
KeepRows at dim entries rows = AreRowsOf (row_at rows) (members_of at dim (ids_of entries))

-- the set is good, and its numbers are within bounds
pub record IsSound (x : model.Set) : Type 0 where
  pub good : Good x
  pub m_low : 4 ≤ x.contents.m
  pub m_high : x.contents.m ≤ 256
  pub dim_low : 1 ≤ x.contents.dim
  pub dim_high : x.contents.dim ≤ 32768
  pub few : length x.contents.members ≤ 2 ^ 20
