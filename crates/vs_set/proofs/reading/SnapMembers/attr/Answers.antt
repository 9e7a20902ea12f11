use Rattle.std.proofs.Common.{◌≡◌, sym, ap, ◌∙◌, subst}
use Rattle.std.specs.Prelude.{IsSomeAnd, slice_get, Some, None}
use Rattle.vs_graph.specs.declared.node.Attr.{Attr}
use Rattle.vs_set.specs.Grown.{text_of}
use Rattle.vs_set.proofs.Standing.{live_place, has}
use Rattle.vs_set.proofs.reading.SnapMembers.attr.Goals as goal

pub node_of-node-requires-clause-live : goal.node_of-node-requires-clause-live
node_of-node-requires-clause-live g c =
    let s = c.self.inside in
    live_place (g.N.Nodes.at s.graph.nodes) s.graph.m s.graph.dim s.order c.self.invariant.0 c.args.place c.id_at-id.result c.id_at-id.ensures

pub returns-in-Some : goal.returns-in-Some
returns-in-Some g c =
    let s = c.self.inside in
    let node = c.node_of-node.result.now in
    subst (λ x. IsSomeAnd (slice_get x.contents.members c.args.place) (λ member. Some c.as_slice.result.now ≡ member.attr)) c.self.view_is
    (has (g.N.Nodes.at s.graph.nodes) s.graph.m s.graph.dim s.order c.self.invariant.0 c.args.place c.id_at-id.result c.id_at-id.ensures
    (λ member. Some c.as_slice.result.now ≡ member.attr) node c.node_of-node.ensures
    (ap (λ t. Some t) (c.as_slice.ensures ∙ ap (λ (a : Attr). a.text) c.get.ensures) ∙ sym (ap text_of c.in-Some.is)))

pub returns-in-None : goal.returns-in-None
returns-in-None g c =
    let s = c.self.inside in
    let node = c.node_of-node.result.now in
    subst (λ x. IsSomeAnd (slice_get x.contents.members c.args.place) (λ member. None ≡ member.attr)) c.self.view_is
    (has (g.N.Nodes.at s.graph.nodes) s.graph.m s.graph.dim s.order c.self.invariant.0 c.args.place c.id_at-id.result c.id_at-id.ensures
    (λ member. None ≡ member.attr) node c.node_of-node.ensures (sym (ap text_of c.in-None.is)))
