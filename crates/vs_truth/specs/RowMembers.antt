-- Rows as members.
use Rattle.std.specs.Prelude.{ℕ, List, map, option_map}
use Rattle.vs_defs.specs.Words.{bits_of_words}
use Rattle.vs_defs.specs.Store.{Member}
use Rattle.vs_truth.specs.declared.rows.Row.{Row}

-- a row of a vector of so many components; it stands on no layer
abbrev pub member_of_row : ℕ → Row → Member
member_of_row dim row = record { name = row.body.name; bits = bits_of_words dim row.body.bits; attr = option_map (λ a. a.text) row.attr; level = 0 }

abbrev pub members_of_rows : ℕ → List Row → List Member
members_of_rows dim rows = map (member_of_row dim) rows
