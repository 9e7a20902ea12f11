use Rattle.std.proofs.Common.{Some, sym, ap, ◌∙◌, subst, drop, option_map, option_copied}
use Rattle.vs_defs.specs.AttributeField.{One}
use Rattle.vs_defs.specs.Bytes.{first_in}
use Rattle.vs_attr.specs.Listed.{AreItems, items_left}
use Rattle.vs_attr.proofs.FirstByte.{item_first, item_rest, item_valid}
use Rattle.vs_attr.proofs.list.JsonList.next_item.Goals as goal

pub invariant_of-self : goal.invariant_of-self
invariant_of-self c =
    let valid : AreItems (Some c.in_ok-text.text.now) = subst AreItems (ap option_copied c.in_ok-text.was) c.self.invariant in
    subst AreItems (sym c.next_text-self-inside.ensures) (item_valid c.in_ok-text.text.now valid)

pub returns-clause-value : goal.returns-clause-value
returns-clause-value c =
    let valid : AreItems (Some c.in_ok-text.text.now) = subst AreItems (ap option_copied c.in_ok-text.was) c.self.invariant in
    ap Some c.single.ensures
    ∙ ap (option_map One) (sym (item_first c.in_ok-text.text.now valid) ∙ ap first_in (ap items_left (sym (ap option_copied c.in_ok-text.was)) ∙ c.self.view_is))

pub returns-clause-rest : goal.returns-clause-rest
returns-clause-rest c =
    let valid : AreItems (Some c.in_ok-text.text.now) = subst AreItems (ap option_copied c.in_ok-text.was) c.self.invariant in
    ap items_left c.next_text-self-inside.ensures ∙ sym (item_rest c.in_ok-text.text.now valid)
    ∙ ap (drop 1) (ap items_left (sym (ap option_copied c.in_ok-text.was)) ∙ c.self.view_is)
