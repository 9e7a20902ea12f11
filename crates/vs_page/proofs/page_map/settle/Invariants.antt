use Rattle.std.proofs.Common.{◌≡◌, ℕ, length}
use Rattle.vs_page.specs.Changes.{shown}
use Rattle.vs_page.proofs.page_map.settle.Given as goal

abbrev pub invariant-loop : goal.invariant-loop
invariant-loop g l = (q : ℕ) → shown l.late.items l.root q ≡ shown l.fn.late.items l.fn.root q

abbrev pub decreases-loop : goal.decreases-loop
decreases-loop g l = length l.late.items
