use Rattle.std.proofs.Common.{subst, sym, ◌⊎◌, Contains}
use Rattle.std.specs.Prelude.{IfSome}
use Rattle.vs_page.specs.Changes.{items_of, says}
use Rattle.vs_page.specs.PagedWords.{IsToldAs}
use Rattle.vs_page.proofs.Words.{told_after}
use Rattle.vs_page.proofs.page_nodes.PageNodesNodes.publish.Goals as goal

pub invariant_of-self-2-clause-told : goal.invariant_of-self-2-clause-told
invariant_of-self-2-clause-told c = λ id.
    let listed = subst (λ l. IfSome (says l id) (λ item. Contains c.in_ok-untold.untold.items id ⊎ IsToldAs c.args.self.now.rows id item)) c.deref.ensures.value (c.in_ok-untold.ensures id) in
    told_after c.args.self.now.rows c.tell_all.new.rows (items_of c.args.self.now.map) (items_of c.publish.new.self) id c.in_ok-untold.untold.items (says c.in_ok-changes.changes.items id)
    (c.in_ok-publish.ensures.ok id) listed (c.args.self.now.told id)
    (λ h. c.tell_all.ensures.there id (subst (λ l. Contains l id) (sym c.deref-2.ensures.value) h)) (c.tell_all.ensures.others id)
