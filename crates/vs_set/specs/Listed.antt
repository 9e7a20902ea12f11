-- Members as rows.
--     on_no_layer y          a member as a row shows it, which stands on no layer
--     IsRowOf dim row y      a row of a member
use Rattle.std.specs.Prelude.{◌≡◌, ℕ}
use Rattle.vs_defs.specs.Words.{FitsDimension}
use Rattle.vs_defs.specs.Store.{Member}
use Rattle.vs_truth.specs.declared.rows.Row.{Row}
use Rattle.vs_truth.specs.RowMembers.{member_of_row}

abbrev pub on_no_layer : Member → Member
on_no_layer y = record y { level = 0 }

pub record IsRowOf (dim : ℕ) (row : Row) (y : Member) : Type 0 where
  pub fits : FitsDimension dim row.body.bits
  pub same : member_of_row dim row ≡ on_no_layer y
