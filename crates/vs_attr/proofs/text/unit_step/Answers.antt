use Rattle.std.proofs.Common.{sym, ◌∙◌}
use Rattle.vs_attr.proofs.Strings.{behind_low, behind_single}
use Rattle.vs_attr.proofs.text.unit_step.Goals as goal

pub returns-then-is_low-clause-value : goal.returns-then-is_low-clause-value
returns-then-is_low-clause-value c =
    behind_low c.args.unit c.args.rest.now (sym c.is_high.ensures ∙ c.if-is_high.false) (sym c.is_low.ensures ∙ c.if-is_low.true)

pub returns-clause-value : goal.returns-clause-value
returns-clause-value c =
    rw c.from.ensures (behind_single c.args.unit c.args.rest.now (sym c.is_high.ensures ∙ c.if-is_high.false) (sym c.is_low.ensures ∙ c.if-is_low.false))
