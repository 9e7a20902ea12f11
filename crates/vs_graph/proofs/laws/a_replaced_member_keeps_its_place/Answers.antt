use Rattle.vs_graph.proofs.Replacing.{placed, same_ids}
use Rattle.vs_graph.proofs.laws.a_replaced_member_keeps_its_place.Goals as goal

pub returns-clause-members : goal.returns-clause-members
returns-clause-members c at new m dim x ids good are some same named = placed at m dim x ids good are some new same named

pub returns-clause-ids : goal.returns-clause-ids
returns-clause-ids c at new x ids are some there others = same_ids at new x ids are some there others
