use Rattle.std.proofs.Common.{take}
use Rattle.vs_graph.specs.Edits.{overwritten}
use Rattle.vs_graph.specs.Good.{links_at}
use Rattle.vs_graph.specs.Relinks.{Relinks}
use Rattle.vs_unlink.specs.Pairs.{paired}
use Rattle.vs_unlink.proofs.layer.join_all.Given as goal

-- the pairs before this one are joined
abbrev pub invariant-loop-pair : goal.invariant-loop-pair
invariant-loop-pair g l =
    Relinks (overwritten l.fn.edit (g.N.Nodes.at l.base)) (overwritten l.edit (g.N.Nodes.at l.base)) l.layer (paired (links_at (overwritten l.fn.edit (g.N.Nodes.at l.base)) l.layer) (take l.pair-index l.added))
