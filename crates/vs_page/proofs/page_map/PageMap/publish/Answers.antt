use Rattle.std.proofs.Common.{◌∙◌, ap}
use Rattle.std.specs.Prelude.{unwrap_or}
use Rattle.vs_page.specs.Changes.{says, shown}
use Rattle.vs_page.proofs.Trees.{shown_append}
use Rattle.vs_page.proofs.page_map.PageMap.publish.Goals as goal

pub returns-clause-ok : goal.returns-clause-ok
returns-clause-ok g c = λ q.
    let changes = c.args.changes.items in
    let late = c.args.self.now.late.items in
    c.settle.ensures q
    ∙ ap (λ l. shown l c.open_all.new.root q) c.in_ok-append.ensures.items
    ∙ shown_append changes late c.open_all.new.root q
    ∙ ap (λ x. unwrap_or (says changes q) (unwrap_or (says late q) x)) (c.open_all.ensures q)
