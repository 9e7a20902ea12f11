use Rattle.std.proofs.Common.{take}
use Rattle.std.specs.Prelude.{fold}
use Rattle.vs_graph.specs.Edits.{overwritten}
use Rattle.vs_graph.specs.Good.{links_at}
use Rattle.vs_graph.specs.Relinks.{Relinks}
use Rattle.vs_graph.specs.Table.{leave}
use Rattle.vs_unlink.proofs.layer.detach.Given as goal

-- those before this one no longer link to x
abbrev pub invariant-loop-y : goal.invariant-loop-y
invariant-loop-y g l =
    Relinks (overwritten l.fn.edit (g.N.Nodes.at l.base)) (overwritten l.edit (g.N.Nodes.at l.base)) l.layer (fold (λ u y. leave u y l.x) (links_at (overwritten l.fn.edit (g.N.Nodes.at l.base)) l.layer) (take l.y-index l.y-items))
