use Rattle.std.proofs.Common.{◌≡◌, ℕ, ◌+◌, ◌*◌, ◌≤◌, length}
use Rattle.vs_graph.specs.Edits.{overwritten}
use Rattle.vs_insert.specs.Joined.{IsJoinedFrom, reads_of}
use Rattle.vs_insert.proofs.Costs.{ground}
use Rattle.vs_insert.proofs.joining.join_layers.Given as goal

-- x is joined at the layers from this one on
abbrev pub invariant-loop-layer : goal.invariant-loop-layer
invariant-loop-layer g l = record {
  within : l.layer ≤ length l.chosen;
  joined : IsJoinedFrom (overwritten l.fn.edit (g.N.Nodes.at l.base)) (overwritten l.edit (g.N.Nodes.at l.base)) l.m l.x l.entry l.chosen l.layer;
  told : (done : ℕ) → done + l.layer ≡ length l.chosen → l.reads + done ≤ l.initial.reads + done * reads_of l.m 0 + ground l.layer;
}

abbrev pub decreases-loop-layer : goal.decreases-loop-layer
decreases-loop-layer g l = l.layer
