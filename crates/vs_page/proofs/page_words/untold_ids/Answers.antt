use Rattle.std.proofs.Common.{◌≡◌, ◌+◌, suc, arith, ◌∷◌, [], ◌++◌, ◌∙◌, ap, sym, subst, take, ◌⊎◌, Contains}
use Rattle.std.specs.Prelude.{IfSome}
use Rattle.std.proofs.Math.Seq.{take-suc}
use Rattle.vs_page.specs.Changes.{says}
use Rattle.vs_page.specs.PagedWords.{IsToldAs}
use Rattle.vs_page.proofs.Words.{next_listed}
use Rattle.vs_page.proofs.page_words.untold_ids.Goals as goal

pub loop-change-preserved : goal.loop-change-preserved
loop-change-preserved c = λ q.
    let k = c.loop-change.change-index in
    let cs = c.args.changes.now in
    let one_more : k + 1 ≡ suc k = omega arith in
    subst (λ l. IfSome (says l q) (λ item. Contains c.list_untold.new.ids.items q ⊎ IsToldAs c.args.rows.now q item)) (sym (ap (λ n. take n cs) one_more ∙ take-suc cs k c.change-item.result c.loop-change-test.true))
    (subst (λ x. IfSome (says (take k cs ++ x ∷ []) q) (λ item. Contains c.list_untold.new.ids.items q ⊎ IsToldAs c.args.rows.now q item)) c.change-item.is
    (next_listed c.args.rows.now c.loop-change.ids.items c.list_untold.new.ids.items (take k cs) c.change-item.result c.in_ok-list_untold.ensures.more c.in_ok-list_untold.ensures.here c.loop-change.invariant q))
