use Rattle.vs_graph.proofs.Singles.{single_links}
use Rattle.vs_graph.proofs.laws.a_single_member_has_no_link.Goals as goal

pub returns : goal.returns
returns c = single_links
