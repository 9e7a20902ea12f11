use Rattle.std.proofs.Common.{◌≡◌, ◌+◌, ◌*◌, ◌≤◌, length, take, eqb}
use Rattle.vs_graph.specs.Edits.{overwritten}
use Rattle.vs_graph.specs.Good.{links_at, body_at}
use Rattle.vs_graph.specs.Relinks.{Relinks}
use Rattle.vs_link.specs.Linked.{offered}
use Rattle.vs_link.proofs.layer.link_at.Given as goal

-- x was offered to those before this one
abbrev pub invariant-loop-y : goal.invariant-loop-y
invariant-loop-y g l = record {
  links : Relinks (overwritten l.fn.edit (g.N.Nodes.at l.base)) (overwritten l.edit (g.N.Nodes.at l.base)) l.layer
      (offered (body_at (overwritten l.fn.edit (g.N.Nodes.at l.base))) l.most (links_at (overwritten l.fn.edit (g.N.Nodes.at l.base)) l.layer) l.x (take l.y-index l.chosen));
  alone : eqb (length (links_at (overwritten l.edit (g.N.Nodes.at l.base)) l.layer l.x)) 0 ≡ l.alone;
  told : l.reads ≤ l.initial.reads + l.y-index * (l.most + 4);
}
