use Rattle.vs_insert.proofs.AddedAgain.{ids_again, members_again}
use Rattle.vs_insert.proofs.laws.a_member_added_again_keeps_its_place.Goals as goal

pub returns-clause-ids : goal.returns-clause-ids
returns-clause-ids c = ids_again

pub returns-clause-members : goal.returns-clause-members
returns-clause-members c = members_again
