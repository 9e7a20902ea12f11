use Rattle.std.proofs.Common.{sym, ◌∙◌}
use Rattle.vs_attr.proofs.Strings.{string_plain, string_unit, string_here}
use Rattle.vs_attr.proofs.text.next_step.Goals as goal

pub returns-in-Some-Plain-default-clause-value : goal.returns-in-Some-Plain-default-clause-value
returns-in-Some-Plain-default-clause-value c =
    let p = c.in-Some-Plain-default in
    string_plain c.args.raw.now p.byte p.rest.now (sym (rw p.field-0-0-is at p.ensures.value))

pub returns-in-Some-Unit-default-clause-value : goal.returns-in-Some-Unit-default-clause-value
returns-in-Some-Unit-default-clause-value c =
    let p = c.in-Some-Unit-default in
    string_unit c.args.raw.now p.unit p.rest.now (sym (rw p.field-0-0-is at p.ensures.value)) ∙ c.unit_step.ensures.value

pub returns-in-None-clause-value : goal.returns-in-None-clause-value
returns-in-None-clause-value c = string_here c.args.raw.now (sym c.in-None.ensures.value) ∙ sym c.last_step.ensures.value
