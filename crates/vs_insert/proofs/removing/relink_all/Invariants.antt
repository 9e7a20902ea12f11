use Rattle.std.proofs.Common.{take}
use Rattle.vs_graph.specs.Edits.{overwritten}
use Rattle.vs_insert.specs.Walked.{IsWalked}
use Rattle.vs_insert.proofs.removing.relink_all.Given as goal

-- the orphans before this one have had their turns
abbrev pub invariant-loop-orphan : goal.invariant-loop-orphan
invariant-loop-orphan g l =
    IsWalked (g.N.Nodes.at l.graph.nodes) (overwritten l.fn.edit (g.N.Nodes.at l.graph.nodes)) (overwritten l.edit (g.N.Nodes.at l.graph.nodes)) l.graph.entry l.graph.m l.graph.dim l.entry
    (take l.orphan-index l.orphans)
