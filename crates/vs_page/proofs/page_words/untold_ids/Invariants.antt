use Rattle.std.proofs.Common.{ℕ, ◌⊎◌, take, Contains}
use Rattle.std.specs.Prelude.{IfSome}
use Rattle.vs_page.specs.Changes.{says}
use Rattle.vs_page.specs.PagedWords.{IsToldAs}
use Rattle.vs_page.proofs.page_words.untold_ids.Given as goal

abbrev pub invariant-loop-change : goal.invariant-loop-change
invariant-loop-change l = (q : ℕ) → IfSome (says (take l.change-index l.changes) q) (λ item. Contains l.ids.items q ⊎ IsToldAs l.rows q item)
