use Rattle.std.proofs.Common.{◌<◌, length, sym, ap, ◌∙◌, subst, arith}
use Rattle.std.specs.Prelude.{IsSomeAnd, slice_get}
use Rattle.vs_truth.specs.Nearest.{KeepsBits}
use Rattle.vs_graph.specs.Standing.{member_of_node, members_of}
use Rattle.vs_order.specs.Entries.{ids_of}
use Rattle.vs_page.specs.Told.{row_at}
use Rattle.std.specs.Option.{option_copied}
use Rattle.vs_set.proofs.Telling.{told}
use Rattle.vs_set.proofs.Standing.{live_place, has, keeps_bits}
use Rattle.vs_set.proofs.reading.SnapMembers.bits.Goals as goal

pub node_at-requires : goal.node_at-requires
node_at-requires g c =
    let s = c.self.inside in
    live_place (g.N.Nodes.at s.graph.nodes) s.graph.m s.graph.dim s.order c.self.invariant.0 c.args.place c.id_at.result c.id_at.ensures

pub returns-in-Some-clause-kept : goal.returns-in-Some-clause-kept
returns-in-Some-clause-kept g c =
    let s = c.self.inside in
    subst (λ x. IsSomeAnd (slice_get x.contents.members c.args.place) (λ member. KeepsBits member.bits c.in-Some.words.now)) c.self.view_is
    (told (row_at s.rows) (members_of (g.N.Nodes.at s.graph.nodes) s.graph.dim (ids_of s.order)) c.args.place c.in-Some.words.now c.self.invariant.1
    (subst (λ x. c.args.place < length x.contents.members) (sym c.self.view_is) c.requires) (sym c.get.ensures ∙ ap option_copied c.in-Some.is))

pub returns-in-None-clause-kept : goal.returns-in-None-clause-kept
returns-in-None-clause-kept g c =
    let s = c.self.inside in
    let node = c.node_at.result.now in
    subst (λ x. IsSomeAnd (slice_get x.contents.members c.args.place) (λ member. KeepsBits member.bits c.bits.result.now)) c.self.view_is
    (has (g.N.Nodes.at s.graph.nodes) s.graph.m s.graph.dim s.order c.self.invariant.0 c.args.place c.id_at.result c.id_at.ensures
    (λ member. KeepsBits member.bits c.bits.result.now) node c.node_at.ensures.node
    (subst (KeepsBits (member_of_node s.graph.dim node).bits) (sym c.bits.ensures) (keeps_bits s.graph.dim node.body.bits c.node_at.ensures.words)))

pub returns-in-None-clause-told : goal.returns-in-None-clause-told
returns-in-None-clause-told g c = omega (arith, c.node_at.ensures.told)
