use Rattle.std.proofs.Common.{◌∙◌, ap, map}
use Rattle.std.specs.Option.{option_or}
use Rattle.vs_page.specs.Changes.{says}
use Rattle.vs_page.proofs.Entries.{change_of, all_listed, says_entries}
use Rattle.vs_page.proofs.Trees.{says_append}
use Rattle.vs_page.proofs.draining.add_mapped.Goals as goal

pub returns : goal.returns
returns g c = λ q.
    let old = c.args.list.now.items in
    ap (λ l. says l q) (all_listed c.loop-id.list.items c.loop-id.more.entries _ c.loop-id.invariant c.in_default.ensures.variant.1)
    ∙ says_append old (map change_of c.args.more.entries) q
    ∙ ap (option_or (says old q)) (says_entries c.args.more.entries q)
