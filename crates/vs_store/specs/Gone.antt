-- What is left of sets by their keys once some were taken out, in any order.
--     seen entries                        the sets of the entries that are kept
--     AreGone keys old new sets members   those of the listed keys are gone, so many sets with so many members together
use Rattle.std.specs.Prelude.{◌≡◌, ◌+◌, ◌<◌, ◌≤◌, ℕ, true, false, List, is_some, length, map, sum_by}
use Rattle.std.specs.List.{list_any}
use Rattle.std.specs.Global.{Vec}
use Rattle.vs_defs.specs.Bytes.{Bytes, listed}
use Rattle.vs_defs.specs.Store.{Set, lookup_set, without_keys, AnswerAlike, HasKeysOnce}

abbrev pub seen : List (Vec ℕ × Set) → List (Bytes × Set)
seen entries = map (λ e. (e.0.items, e.1)) entries

abbrev pub count_in : List (Bytes × Set) → ℕ
count_in sets = sum_by (λ e. length e.1.contents.members) sets

pub record AreGone (keys : List Bytes) (old new : List (Bytes × Set)) (gone members : ℕ) : Type 0 where
  pub left : AnswerAlike new (without_keys (λ key. listed key keys) old)
  pub once : HasKeysOnce new
  pub few : length new ≤ length old
  pub sets_are : gone + length (without_keys (λ key. listed key keys) old) ≡ length old
  pub members_are : members + count_in new ≡ count_in old
  pub some : 0 < gone → list_any (λ key. is_some (lookup_set key old)) keys ≡ true
  pub none : gone ≡ 0 → (new ≡ old) × (list_any (λ key. is_some (lookup_set key old)) keys ≡ false)
