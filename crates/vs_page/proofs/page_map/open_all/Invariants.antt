use Rattle.std.proofs.Common.{◌≡◌, ℕ}
use Rattle.vs_page.specs.Tree.{at_root}
use Rattle.vs_page.proofs.page_map.open_all.Given as goal

abbrev pub invariant-loop-change : goal.invariant-loop-change
invariant-loop-change g l = (q : ℕ) → at_root l.root q ≡ at_root l.fn.root q
