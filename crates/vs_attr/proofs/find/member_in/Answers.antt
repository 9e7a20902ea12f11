use Rattle.std.proofs.Common.{sym, ◌∙◌}
use Rattle.vs_attr.proofs.FirstByte.{found_none, found_empty, found_members}
use Rattle.vs_attr.proofs.find.member_in.Goals as goal

pub returns-in_err-inside-clause-value : goal.returns-in_err-inside-clause-value
returns-in_err-inside-clause-value c = rw c.from_residual.ensures (found_none c.args.name.now c.args.text.now (sym c.in_err-inside.ensures.value))

pub returns-in-Some-clause-value : goal.returns-in-Some-clause-value
returns-in-Some-clause-value c =
    found_empty c.args.name.now c.args.text.now c.in_ok-inside.inside.now c.in-Some.field-0.now (sym c.in_ok-inside.ensures.value) (sym c.in-Some.ensures.value)

pub returns-in-None-clause-value : goal.returns-in-None-clause-value
returns-in-None-clause-value c =
    c.whole_member.ensures.value ∙ found_members c.args.name.now c.args.text.now c.in_ok-inside.inside.now (sym c.in_ok-inside.ensures.value) (sym c.in-None.ensures.value)
