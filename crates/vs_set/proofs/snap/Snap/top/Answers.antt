use Rattle.std.proofs.Common.{◌≡◌, ◌<◌, length, sym, ◌∙◌, subst}
use Rattle.std.specs.Prelude.{Some, option_map}
use Rattle.vs_defs.specs.Beam.{level_at}
use Rattle.vs_graph.specs.Good.{IsEntry}
use Rattle.vs_order.specs.Entries.{ids_of}
use Rattle.vs_set.proofs.Standing.{nobody, top_level}
use Rattle.vs_set.proofs.snap.Snap.top.Goals as goal

pub unreachable-requires : goal.unreachable-requires
unreachable-requires g c =
    let s = c.self.inside in
    let at = g.N.Nodes.at s.graph.nodes in
    nobody at s.graph.dim (ids_of s.order) c.self.invariant.0.ids (subst (IsEntry at) (sym c.entry.ensures.entry ∙ c.in-None.is) c.entry.ensures.top)
    (subst (λ x. 0 < length x.contents.members) (sym c.self.view_is) c.requires)

pub returns : goal.returns
returns g c =
    let s = c.self.inside in
    subst (λ x. option_map (level_at x) x.wiring.entry ≡ Some c.node_of.result.now.level) c.self.view_is
    (top_level (g.N.Nodes.at s.graph.nodes) s.graph.entry s.graph.m s.graph.dim s.cut s.order c.in-Some.entry c.node_of.result.now c.nodes-nodes.ensures.good.links c.self.invariant.0.ids
    (sym c.entry.ensures.entry ∙ c.in-Some.is) c.node_of.ensures)
