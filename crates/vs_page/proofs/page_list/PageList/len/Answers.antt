use Rattle.std.proofs.Common.{◌∙◌, length, ap, sym}
use Rattle.vs_page.specs.Changes.{items_of}
use Rattle.vs_page.proofs.FirstItems.{first_long}
use Rattle.vs_page.proofs.page_list.PageList.len.Goals as goal

pub returns : goal.returns
returns g c =
    let s = c.self.inside in
    sym (first_long (items_of s.map) s.len c.self.invariant) ∙ ap length c.self.view_is
