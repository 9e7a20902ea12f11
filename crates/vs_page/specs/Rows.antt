-- The words that are kept of members, by their places.
--     IsWritten old new start row      a row is written over the words from a place on, or behind the last of them
--     row_in width words row           a row of a chunk, which has its rows one after another
--     row_of width chunks place        the row at a place of chunks of 256 rows
--     row_of_run run k                 a row of rows that lie beside one another
--     IsPut old new place words        another store tells these words at the place, or nothing, and elsewhere what the old one told, or nothing
use Rattle.std.specs.Prelude.{◌≡◌, ◌≢◌, ◌≤◌, ◌+◌, ◌*◌, ◌/◌, ◌%◌, ◌++◌, ℕ, List, Some, None, IfSome, cond, nat_le, length, take, drop}
use Rattle.std.specs.declared.option.Option.{Option}
use Rattle.vs_page.specs.declared.rows.Run.{Run}

pub record IsWritten (old new : List ℕ) (start : ℕ) (row : List ℕ) : Type 0 where
  pub within : start ≤ length old
  pub words : new ≡ take start old ++ row ++ drop (start + length row) old

abbrev pub row_in : (width : ℕ) → List ℕ → (row : ℕ) → Option (List ℕ)
row_in width words row = cond (nat_le (row * width + width) (length words)) (Some (take width (drop (row * width) words))) None

abbrev pub row_in_chunk : (width : ℕ) → Option (List ℕ) → (row : ℕ) → Option (List ℕ)
row_in_chunk width None row = None
row_in_chunk width (Some words) row = row_in width words row

abbrev pub row_of : (width : ℕ) → (ℕ → Option (List ℕ)) → (place : ℕ) → Option (List ℕ)
row_of width chunks place = row_in_chunk width (chunks (place / 256)) (place % 256)

abbrev pub row_of_run : Run → (k : ℕ) → List ℕ
row_of_run run k = take run.width (drop (k * run.width) run.words.now)

pub record IsPut (old new : ℕ → Option (List ℕ)) (place : ℕ) (words : Option (List ℕ)) : Type 0 where
  pub there : IfSome (new place) (λ row. words ≡ Some row)
  pub others : (q : ℕ) → q ≢ place → IfSome (new q) (λ row. old q ≡ Some row)
