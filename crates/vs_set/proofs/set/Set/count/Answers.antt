use Rattle.std.proofs.Common.{subst, arith}
use Rattle.vs_set.specs.Kept.{IsSound}
use Rattle.vs_set.proofs.Members.{sound}
use Rattle.vs_set.proofs.set.Set.count.Goals as goal

pub returns-clause-sound : goal.returns-clause-sound
returns-clause-sound g c =
    let s = c.self.inside in
    subst IsSound c.self.view_is
    (sound (g.N.Nodes.at s.graph.nodes) s.graph.m s.graph.dim s.graph.entry s.cut s.names.entries c.nodes-nodes.ensures.good c.self.invariant.0.named (omega (arith, c.len.ensures.few, c.len.ensures.value)))
