-- How many links a worker served.
--     AtEach P xs ys                of each place before and after
--     Counted closed closed' n      so many more links were closed, where they are told
--     IsFresh me limit              a ticket seat that has drawn nothing
--     HasRun ..                     a worker that has run
use Rattle.std.specs.Prelude.{◌≡◌, ℕ, ◌+◌, ◌<◌, Bool, if◌then◌else◌, List, [], ◌++◌, length, Option, Some, IfSome, slice_index_or}
use Rattle.atomic_table.specs.Table.{Me}
use Rattle.vs_tickets.specs.declared.View.{View}
use Rattle.vs_tickets.specs.Rule.{share}

abbrev pub AtEach : {W : Type 0} → (W → W → Type 0) → List W → List W → Type 0
AtEach {W} P xs ys = (i : ℕ) (d : W) → i < length xs → P (slice_index_or xs i d) (slice_index_or ys i d)

pub record Counted {L : Type 0} (closed closed' : Option (List L)) (n : ℕ) : Type 0 where
  pub all : IfSome closed (λ c. (ends : List L) × (closed' ≡ Some (c ++ ends)) × (length ends ≡ n))

pub record IsFresh (me : Me ℕ View) (limit : ℕ) : Type 0 where
  pub view : me ≡ (share 1 0 0 limit, [])

-- Where its listener gave each link, it drew one ticket past the limit and served a link for each other that it drew. Where its listener
-- failed, it served one for each but the last.
pub record HasRun {L : Type 0} (me : Me ℕ View) (limit : ℕ) (has_failed : Bool) (closed closed' : Option (List L)) : Type 0 where
  pub served : ℕ
  pub view : me ≡ (if has_failed then share 1 (served + 1) 0 limit else share 1 served 1 limit, [])
  pub counted : Counted closed closed' served
