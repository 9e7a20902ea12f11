use Rattle.vs_graph.specs.Edits.{overwritten}
use Rattle.vs_graph.specs.Good.{links_at, links_of}
use Rattle.vs_graph.specs.Good.{body_at}
use Rattle.vs_unlink.specs.Orphans.{Lists}
use Rattle.vs_unlink.proofs.orphans.orphans.Given as goal

-- those of the layers down to this one are listed
abbrev pub invariant-loop-layer : goal.invariant-loop-layer
invariant-loop-layer g l = record {
  listed : Lists (body_at (overwritten l.edit (g.N.Nodes.at l.base))) (links_at (overwritten l.edit (g.N.Nodes.at l.base))) (links_of l.former) l.count l.layer l.all;
}

abbrev pub decreases-loop-layer : goal.decreases-loop-layer
decreases-loop-layer g l = l.layer
