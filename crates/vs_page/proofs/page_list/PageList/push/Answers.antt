use Rattle.std.proofs.Common.{◌∙◌, ◌+◌, ◌++◌, ◌∷◌, [], length, ap, refl, arith}
use Rattle.vs_page.specs.Changes.{items_of}
use Rattle.vs_page.proofs.FirstItems.{first_long, pushed_first}
use Rattle.vs_page.proofs.page_list.PageList.push.Goals as goal

pub overflow_add-self : goal.overflow_add-self
overflow_add-self g c =
    let s = c.self.inside in
    omega (arith, c.requires, ap length c.self.view_is, first_long (items_of s.map) s.len c.self.invariant)

pub returns-clause-ok : goal.returns-clause-ok
returns-clause-ok g c =
    let s = c.self.inside in
    pushed_first (items_of s.map) (items_of c.put.new.self) s.len (s.len + 1) c.args.item refl c.self.invariant c.in_ok-put.ensures.there c.in_ok-put.ensures.others
    ∙ ap (λ l. l ++ c.args.item ∷ []) c.self.view_is
