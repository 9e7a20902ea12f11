use Rattle.std.proofs.Common.{◌≡◌, take}
use Rattle.vs_page.proofs.page_map.changes_copied.Given as goal

abbrev pub invariant-loop-change : goal.invariant-loop-change
invariant-loop-change g l = l.copies.items ≡ take l.change-index l.changes
