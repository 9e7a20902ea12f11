-- Rows at their places, as members.
use Rattle.std.proofs.Common.{◌≡◌, ℕ, ◌<◌, List, length, get_or, sym, ap, ◌∙◌, subst, arith}
use Rattle.std.specs.Prelude.{All, Some, slice_get, IsSomeAnd}
use Rattle.std.proofs.lemmas.Option.{slice_get-get_or}
use Rattle.std.proofs.lemmas.List.{length-map, get_or-map}
use Rattle.std.proofs.lemmas.List.FromFn.{length-map-range_with_len}
use Rattle.std.proofs.lemmas.List.Elements.{All-map}
use Rattle.vs_defs.specs.Store.{Member}
use Rattle.vs_defs.specs.Words.{FitsDimension, word_bit, bits_of_words}
use Rattle.vs_truth.specs.Nearest.{KeepsBits}
use Rattle.vs_truth.specs.RowMembers.{member_of_row, members_of_rows}
use Rattle.vs_truth.specs.declared.rows.Row.{Row}

bits_long : (dim : ℕ) (words : List ℕ) → length (bits_of_words dim words) ≡ dim
bits_long dim words = length-map-range_with_len (word_bit words) 0 dim

pub rows_long : (dim : ℕ) (rows : List Row) → length (members_of_rows dim rows) ≡ length rows
rows_long dim rows = length-map rows (member_of_row dim)

-- what is said of a row is said of its member
pub member_at : (dim : ℕ) (rows : List Row) (place : ℕ) (row : Row) → place < length rows → row ≡ get_or rows place row → (P : Member → Type 0) → P (member_of_row dim row)
    → IsSomeAnd (slice_get (members_of_rows dim rows) place) P
member_at dim rows place row h is P said =
    let within : place < length (members_of_rows dim rows) = omega (arith, length-map rows (member_of_row dim)) in
    let at : slice_get (members_of_rows dim rows) place ≡ Some (member_of_row dim row)
    = slice_get-get_or (members_of_rows dim rows) place (member_of_row dim row) within ∙ ap (λ x. Some x) (get_or-map (member_of_row dim) rows place row (member_of_row dim row) h ∙ ap (member_of_row dim) (sym is)) in
    subst (λ o. IsSomeAnd o P) (sym at) said

pub keeps : (dim : ℕ) (row : Row) → FitsDimension dim row.body.bits → KeepsBits (member_of_row dim row).bits row.body.bits
keeps dim row fit =
    let long = bits_long dim row.body.bits in
    record {
      fits = subst (λ n. FitsDimension n row.body.bits) (sym long) fit;
      same = ap (λ n. bits_of_words n row.body.bits) long;
    }

pub all_fit : (dim : ℕ) (rows : List Row) → All (λ (m : Member). length m.bits ≡ dim) (members_of_rows dim rows)
all_fit dim rows = All-map (λ (m : Member). length m.bits ≡ dim) (member_of_row dim) rows (λ k d h. bits_long dim _)
