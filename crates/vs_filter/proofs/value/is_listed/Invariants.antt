use Rattle.std.proofs.Common.{◌≡◌, length}
use Rattle.std.specs.List.{list_any}
use Rattle.vs_defs.specs.AttributeField.{One}
use Rattle.vs_defs.specs.Filter.{unwrap_or_false}
use Rattle.vs_filter.specs.Values.{value_seen, equal_of, items_seen}
use Rattle.vs_filter.proofs.value.is_listed.Given as goal

abbrev pub invariant-loop-item : goal.invariant-loop-item
invariant-loop-item l =
    list_any (λ item. unwrap_or_false (equal_of (value_seen l.value) (One item))) (items_seen l.items)
    ≡ list_any (λ item. unwrap_or_false (equal_of (value_seen l.value) (One item))) (items_seen l.initial.items)

abbrev pub decreases-loop-item : goal.decreases-loop-item
decreases-loop-item l = length (items_seen l.items)
