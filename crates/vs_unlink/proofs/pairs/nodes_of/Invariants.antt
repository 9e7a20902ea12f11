use Rattle.std.proofs.Common.{◌≡◌, map, take}
use Rattle.vs_graph.specs.Edits.{overwritten}
use Rattle.vs_unlink.specs.Candidates.{some_now}
use Rattle.vs_unlink.proofs.pairs.nodes_of.Given as goal

-- the nodes of those before this one
abbrev pub invariant-loop-id : goal.invariant-loop-id
invariant-loop-id g l = map some_now l.nodes.items ≡ map (overwritten l.edit (g.N.Nodes.at l.base)) (take l.id-index l.ids)
