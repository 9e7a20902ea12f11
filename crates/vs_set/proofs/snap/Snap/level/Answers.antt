use Rattle.std.proofs.Common.{◌≡◌, refl, subst}
use Rattle.std.specs.Prelude.{IsSomeAnd, slice_get}
use Rattle.vs_set.proofs.Standing.{live_place, has}
use Rattle.vs_set.proofs.snap.Snap.level.Goals as goal

pub node_of-requires-clause-live : goal.node_of-requires-clause-live
node_of-requires-clause-live g c =
    let s = c.self.inside in
    live_place (g.N.Nodes.at s.graph.nodes) s.graph.m s.graph.dim s.order c.self.invariant.0 c.args.place c.id_at-id.result c.id_at-id.ensures

pub returns : goal.returns
returns g c =
    let s = c.self.inside in
    let node = c.node_of.result.now in
    subst (λ x. IsSomeAnd (slice_get x.contents.members c.args.place) (λ member. node.level ≡ member.level)) c.self.view_is
    (has (g.N.Nodes.at s.graph.nodes) s.graph.m s.graph.dim s.order c.self.invariant.0 c.args.place c.id_at-id.result c.id_at-id.ensures
    (λ member. node.level ≡ member.level) node c.node_of.ensures refl)
