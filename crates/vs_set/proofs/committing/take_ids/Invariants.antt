use Rattle.std.proofs.Common.{◌≡◌, ℕ, ◌<◌, ◌≤◌, get_or}
use Rattle.vs_insert.specs.declared.draft.Chosen.{Chosen}
use Rattle.vs_set.specs.Retaken.{with_id}
use Rattle.vs_set.proofs.committing.take_ids.Given as goal

-- those before the index have it, and the others are as they were
abbrev pub invariant-loop-chosen : goal.invariant-loop-chosen
invariant-loop-chosen l =
    ((k : ℕ) (d : Chosen) → k < l.chosen-index → get_or l.list k d ≡ with_id l.fn.names.entries (get_or l.fn.list k d))
    × ((k : ℕ) (d : Chosen) → l.chosen-index ≤ k → get_or l.list k d ≡ get_or l.fn.list k d)
