use Rattle.std.proofs.Common.{◌≡◌, ℕ, ◌<◌, ◌≤◌, List, get_or}
use Rattle.vs_insert.specs.declared.draft.Chosen.{Chosen}
use Rattle.vs_set.specs.Retaken.{retaken}
use Rattle.vs_set.proofs.committing.take_all_ids.Given as goal

-- those before the index have them, and the others are as they were
abbrev pub invariant-loop-list : goal.invariant-loop-list
invariant-loop-list l =
    ((k : ℕ) (d : List Chosen) → k < l.list-index → get_or l.layers k d ≡ retaken l.fn.names.entries (get_or l.fn.layers k d))
    × ((k : ℕ) (d : List Chosen) → l.list-index ≤ k → get_or l.layers k d ≡ get_or l.fn.layers k d)
