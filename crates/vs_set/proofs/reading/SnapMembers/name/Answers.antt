use Rattle.std.proofs.Common.{subst}
use Rattle.std.specs.Prelude.{IsSomeAnd, slice_get, ◌≡◌}
use Rattle.vs_set.proofs.Standing.{name_place}
use Rattle.vs_set.proofs.reading.SnapMembers.name.Goals as goal

pub returns : goal.returns
returns g c =
    let s = c.self.inside in
    subst (λ x. IsSomeAnd (slice_get x.contents.members c.args.place) (λ member. c.name_at.result.now ≡ member.name)) c.self.view_is
    (name_place (g.N.Nodes.at s.graph.nodes) s.graph.m s.graph.dim s.order c.self.invariant.0 c.args.place c.name_at.result.now c.name_at.ensures)
