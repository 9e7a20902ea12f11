-- What rows tell.
--     row_at rows place   the words that are told at a place, or nothing
use Rattle.std.specs.Prelude.{ℕ, List, None, cond}
use Rattle.std.specs.declared.option.Option.{Option}
use Rattle.vs_page.specs.Changes.{items_of}
use Rattle.vs_page.specs.Rows.{row_of}
use Rattle.vs_page.specs.declared.rows.Rows.{Rows}

abbrev pub row_at : Rows → (place : ℕ) → Option (List ℕ)
row_at rows place = cond rows.is_lost None (row_of rows.width (items_of rows.chunks) place)
