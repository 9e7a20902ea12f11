-- Ids that are taken and ids that are free.
use Rattle.std.specs.Prelude.{◌≡◌, ◌+◌, ◌-◌, ◌<◌, ◌≤◌, ℕ, List, [], ◌∷◌, ◌++◌, length, nat_eq, All}
use Rattle.std.specs.List.{IsDistinct, slice_index_or}
use Rattle.vs_defs.specs.Limits.{max_members}

-- the taken and the free ones are together the numbers below next
pub record AreSplit (taken free : List ℕ) (next : ℕ) : Type 0 where
  pub once : IsDistinct nat_eq (taken ++ free)
  pub below : All (λ id. id < next) (taken ++ free)
  pub counted : length taken + length free ≡ next
  pub few : next ≤ max_members

-- the id that the next member takes: the last of the free ones, or the first that was never taken
abbrev pub next_id : List ℕ → ℕ → ℕ
next_id free next = slice_index_or free (length free - 1) next

abbrev pub next_after : List ℕ → ℕ → ℕ
next_after [] next = next + 1
next_after (x ∷ xs) next = next
