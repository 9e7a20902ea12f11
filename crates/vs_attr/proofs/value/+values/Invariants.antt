use Rattle.std.proofs.Common.{◌≡◌, ◌+◌, ◌*◌, length}
use Rattle.vs_attr.specs.Reading.{items_at, members_at, rest_of}
use Rattle.vs_attr.proofs.value.+values.Given as goal

-- a value, its array or object, and what stands within, which has one less depth

abbrev pub decreases-value_end : goal.decreases-value_end
decreases-value_end l = 4 * l.depth + 2

abbrev pub decreases-unspaced_end : goal.decreases-unspaced_end
decreases-unspaced_end l = 4 * l.depth + 1

abbrev pub decreases-array_end : goal.decreases-array_end
decreases-array_end l = 4 * l.depth

abbrev pub decreases-object_end : goal.decreases-object_end
decreases-object_end l = 4 * l.depth

abbrev pub decreases-items_end : goal.decreases-items_end
decreases-items_end l = 4 * l.depth + 3

abbrev pub decreases-members_end : goal.decreases-members_end
decreases-members_end l = 4 * l.depth + 3

abbrev pub invariant-items_end-loop-rest : goal.invariant-items_end-loop-rest
invariant-items_end-loop-rest l = rest_of (items_at l.depth l.text) ≡ rest_of (items_at l.fn.depth l.fn.text)

abbrev pub decreases-items_end-loop-rest : goal.decreases-items_end-loop-rest
decreases-items_end-loop-rest l = length l.text

abbrev pub invariant-members_end-loop-value : goal.invariant-members_end-loop-value
invariant-members_end-loop-value l = rest_of (members_at l.depth l.text) ≡ rest_of (members_at l.fn.depth l.fn.text)

abbrev pub decreases-members_end-loop-value : goal.decreases-members_end-loop-value
decreases-members_end-loop-value l = length l.text
