use Rattle.std.proofs.Common.{◌≡◌, ℕ, List}
use Rattle.vs_insert.specs.declared.draft.Chosen.{Chosen}
use Rattle.vs_insert.specs.Added.{AreDrafted}
use Rattle.vs_insert_tests.proofs.tests.add_leaves.Given as goal

-- a draft of the graph before is one of the graph now
abbrev pub invariant-loop-leaf : goal.invariant-loop-leaf
invariant-loop-leaf g l = record {
  dim : l.graph.dim ≡ l.fn.graph.dim;
  kept : (level : ℕ) (chosen : List (List Chosen)) → AreDrafted (g.N.Nodes.at l.fn.graph.nodes) l.fn.graph.m level chosen → AreDrafted (g.N.Nodes.at l.graph.nodes) l.graph.m level chosen;
}
