use Rattle.std.proofs.Common.{◌≡◌, take}
use Rattle.vs_filter.proofs.code.items_copied.Given as goal

abbrev pub invariant-loop-item : goal.invariant-loop-item
invariant-loop-item l = l.copy ≡ take l.item-index l.items
