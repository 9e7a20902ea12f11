use Rattle.std.proofs.Common.{◌<◌, ◌∙◌, ◌-◌, length, ap, arith}
use Rattle.std.specs.Prelude.{swap_remove}
use Rattle.vs_page.specs.Changes.{items_of}
use Rattle.vs_page.proofs.FirstItems.{first_long, swapped_first}
use Rattle.vs_page.proofs.page_list.PageList.swap_remove.Goals as goal

pub returns-clause-ok : goal.returns-clause-ok
returns-clause-ok g c = λ d.
    let s = c.self.inside in
    let low : c.args.place < s.len = omega (arith, c.requires, ap length c.self.view_is, first_long (items_of s.map) s.len c.self.invariant) in
    swapped_first (items_of s.map) (items_of c.take_to.new.self) s.len (s.len - 1) c.args.place d (omega (arith, low)) low c.self.invariant c.in_ok-take_to.ensures.to c.in_ok-take_to.ensures.others
    ∙ ap (λ l. swap_remove l c.args.place d) c.self.view_is
