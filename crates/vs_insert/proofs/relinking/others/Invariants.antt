use Rattle.std.proofs.Common.{◌≡◌, take}
use Rattle.vs_graph.specs.Edits.{overwritten}
use Rattle.vs_insert.specs.Rejoined.{others_of}
use Rattle.vs_insert.proofs.relinking.others.Given as goal

abbrev pub invariant-loop-key : goal.invariant-loop-key
invariant-loop-key g l = l.left ≡ others_of (overwritten l.edit (g.N.Nodes.at l.base)) l.but (take l.key-index l.found)
