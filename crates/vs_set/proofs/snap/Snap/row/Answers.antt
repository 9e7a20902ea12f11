use Rattle.std.proofs.Common.{subst}
use Rattle.std.specs.Prelude.{IsSomeAnd, slice_get}
use Rattle.vs_graph.specs.Standing.{member_of_node}
use Rattle.vs_set.specs.Listed.{IsRowOf}
use Rattle.vs_set.proofs.Standing.{live_place, place_has}
use Rattle.vs_set.proofs.snap.Snap.row.Goals as goal

pub row_of-requires-clause-live : goal.row_of-requires-clause-live
row_of-requires-clause-live g c =
    let s = c.self.inside in
    live_place (g.N.Nodes.at s.graph.nodes) s.graph.m s.graph.dim s.order c.self.invariant.0 c.args.place c.id_at-id.result c.id_at-id.ensures

pub returns : goal.returns
returns g c =
    let s = c.self.inside in
    let row = c.in_ok-row.row in
    subst (λ x. IsSomeAnd (slice_get x.contents.members c.args.place) (IsRowOf x.contents.dim row)) c.self.view_is
    (place_has (g.N.Nodes.at s.graph.nodes) s.graph.m s.graph.dim s.order c.self.invariant.0 c.args.place c.id_at-id.result c.id_at-id.ensures (IsRowOf s.graph.dim row)
    (λ node is. subst (λ o. IsSomeAnd o (λ n. IsRowOf s.graph.dim row (member_of_node s.graph.dim n))) is c.in_ok-row.ensures))
