use Rattle.vs_graph.proofs.Reordering.{links_reordered}
use Rattle.vs_graph.proofs.laws.links_by_names_are_the_same_in_each_order.Goals as goal

pub returns : goal.returns
returns c = links_reordered
