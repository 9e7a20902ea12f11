use Rattle.std.proofs.Common.{◌≡◌, ◌≤◌, ◌+◌, take, false}
use Rattle.vs_graph.specs.Edits.{overwritten}
use Rattle.vs_graph.specs.Good.{body_at}
use Rattle.vs_link.specs.Selected.{is_shadowed}
use Rattle.vs_link.proofs.choice.shadowed.Given as goal

-- none of those before this one is nearer
abbrev pub invariant-loop-id : goal.invariant-loop-id
invariant-loop-id g l = record {
  light : is_shadowed (body_at (overwritten l.edit (g.N.Nodes.at l.base))) (take l.id-index l.chosen) l.key ≡ false;
  told : l.reads ≤ l.initial.reads + l.id-index;
}
