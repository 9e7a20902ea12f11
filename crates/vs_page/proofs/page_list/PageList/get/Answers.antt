use Rattle.std.proofs.Common.{◌∙◌, ap, sym, arith}
use Rattle.std.specs.Prelude.{slice_get}
use Rattle.vs_page.specs.Changes.{items_of}
use Rattle.vs_page.proofs.FirstItems.{first_past, first_there}
use Rattle.vs_page.proofs.page_list.PageList.get.Goals as goal

pub returns-then-place-self : goal.returns-then-place-self
returns-then-place-self g c =
    let s = c.self.inside in
    sym (first_past (items_of s.map) s.len c.args.place c.self.invariant (omega (arith, c.if-place-self.true))) ∙ ap (λ l. slice_get l c.args.place) c.self.view_is

pub returns : goal.returns
returns g c =
    let s = c.self.inside in
    c.get.ensures ∙ first_there (items_of s.map) s.len c.args.place c.self.invariant (omega (arith, c.if-place-self.false)) ∙ ap (λ l. slice_get l c.args.place) c.self.view_is
