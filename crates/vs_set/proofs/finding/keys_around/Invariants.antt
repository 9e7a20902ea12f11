use Rattle.std.proofs.Common.{◌≡◌, map, take}
use Rattle.vs_beam.specs.Beam.{key_at}
use Rattle.vs_set.proofs.finding.keys_around.Given as goal

-- those before this one are keys
abbrev pub invariant-loop-other : goal.invariant-loop-other
invariant-loop-other g l = l.keys ≡ map (key_at (g.N.Nodes.at l.graph.nodes) l.node.body.bits) (take l.other-index l.around)
