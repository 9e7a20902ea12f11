use Rattle.vs_filter.proofs.DerivedIsRead.{derived_is_read}
use Rattle.vs_filter.proofs.ReadIsDerived.{read_is_derived}
use Rattle.vs_filter.proofs.law.filter_is_what_is_derived.Goals as goal

pub returns : goal.returns
returns c = λ written e. (read_is_derived written e, derived_is_read written e)
