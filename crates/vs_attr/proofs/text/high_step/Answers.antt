use Rattle.std.proofs.Common.{sym, ◌∙◌}
use Rattle.vs_defs.specs.Json.{plain}
use Rattle.vs_attr.proofs.Strings.{behind_unit, behind_piece, behind_none}
use Rattle.vs_attr.proofs.text.high_step.Goals as goal

pub returns-in-Some-Unit-default-clause-value : goal.returns-in-Some-Unit-default-clause-value
returns-in-Some-Unit-default-clause-value c =
    let p = c.in-Some-Unit-default in
    behind_unit c.args.high p.unit c.args.rest.now p.rest.now c.requires (sym (rw p.field-0-0-is at p.ensures.value)) ∙ sym c.pair_step.ensures.value

pub returns-in-Some-Plain-default-clause-value : goal.returns-in-Some-Plain-default-clause-value
returns-in-Some-Plain-default-clause-value c =
    let p = c.in-Some-Plain-default in
    behind_piece c.args.high c.args.rest.now (plain p.field-0-0-0, p.field-0-1.now) c.requires (sym (rw p.field-0-0-is at p.ensures.value)) tt

pub returns-in-None-clause-value : goal.returns-in-None-clause-value
returns-in-None-clause-value c = behind_none c.args.high c.args.rest.now c.requires (sym c.in-None.ensures.value)
