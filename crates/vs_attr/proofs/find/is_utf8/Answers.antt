use Rattle.std.proofs.Common.{◌∙◌}
use Rattle.vs_attr.proofs.FirstByte.{utf8_ok}
use Rattle.vs_attr.proofs.find.is_utf8.Goals as goal

pub returns : goal.returns
returns c = c.is_ok.ensures.value ∙ utf8_ok _ _ c.from_utf8.result c.args.text.now c.from_utf8.ensures.cases
