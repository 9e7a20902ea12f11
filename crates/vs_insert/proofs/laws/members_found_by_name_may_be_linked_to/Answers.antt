use Rattle.vs_insert.proofs.Renamed.{renamed_choices}
use Rattle.vs_insert.proofs.laws.members_found_by_name_may_be_linked_to.Goals as goal

pub returns : goal.returns
returns c = renamed_choices
