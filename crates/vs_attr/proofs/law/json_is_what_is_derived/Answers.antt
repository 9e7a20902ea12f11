use Rattle.vs_attr.proofs.DerivedIsRead.{derived_is_read}
use Rattle.vs_attr.proofs.ReadIsDerived.{read_is_derived}
use Rattle.vs_attr.proofs.law.json_is_what_is_derived.Goals as goal

pub returns : goal.returns
returns c = λ s j. (read_is_derived s j, derived_is_read s j)
