use Rattle.std.proofs.Common.{◌≡◌, length, true, sym, ap, ◌∙◌, subst}
use Rattle.std.specs.Prelude.{All, IsSomeAnd, slice_get}
use Rattle.vs_order.specs.Entries.{is_taken}
use Rattle.vs_truth.specs.Nearest.{AreHits}
use Rattle.vs_set.specs.Found.{linked_to}
use Rattle.vs_set.specs.Firsts.{first_of}
use Rattle.vs_set.specs.Kept.{set_by}
use Rattle.vs_graph.specs.Standing.{members_of}
use Rattle.vs_order.specs.Entries.{ids_of}
use Rattle.vs_set.proofs.Standing.{live_place, place_has}
use Rattle.vs_set.proofs.Around.{around_taken, hits_around}
use Rattle.vs_set.proofs.snap.Snap.links.Goals as goal

pub keys_around-requires-clause-live : goal.keys_around-requires-clause-live
keys_around-requires-clause-live g c =
    let s = c.self.inside in
    live_place (g.N.Nodes.at s.graph.nodes) s.graph.m s.graph.dim s.order c.self.invariant.0 c.args.place c.id_at-id.result c.id_at-id.ensures

pub first_hits-requires : goal.first_hits-requires
first_hits-requires g c =
    let s = c.self.inside in
    let at = g.N.Nodes.at s.graph.nodes in
    let live = live_place at s.graph.m s.graph.dim s.order c.self.invariant.0 c.args.place c.id_at-id.result c.id_at-id.ensures in
    subst (λ l. All (λ key. is_taken key.id s.order ≡ true) l) (sym (c.as_slice.ensures ∙ c.in_ok-keys.ensures))
    (around_taken at s.graph.entry s.graph.m s.graph.dim c.nodes-nodes.ensures.good s.order c.self.invariant.0 c.args.layer c.id_at-id.result live)

pub returns : goal.returns
returns g c =
    let s = c.self.inside in
    let at = g.N.Nodes.at s.graph.nodes in
    let id = c.id_at-id.result in
    let live = live_place at s.graph.m s.graph.dim s.order c.self.invariant.0 c.args.place id c.id_at-id.ensures in
    let hits = c.in_ok-hits.hits in
    subst (λ x. IsSomeAnd (slice_get x.contents.members c.args.place) (λ y. AreHits y.bits x.contents.members (linked_to x y.name c.args.layer) hits)) c.self.view_is
    (place_has at s.graph.m s.graph.dim s.order c.self.invariant.0 c.args.place id c.id_at-id.ensures
    (λ y. AreHits y.bits (members_of at s.graph.dim (ids_of s.order)) (linked_to (set_by at s.graph.entry s.graph.m s.graph.dim s.cut s.order) y.name c.args.layer) hits)
    (λ node there. hits_around at s.graph.entry s.graph.m s.graph.dim c.nodes-nodes.ensures.good s.order c.self.invariant.0 c.args.layer id live s.cut c.len-count.result node there
    (c.len-count.ensures ∙ ap length c.in_ok-keys.ensures) hits (c.in_ok-hits.ensures ∙ ap (λ l. first_of s.order c.len-count.result l) (c.as_slice.ensures ∙ c.in_ok-keys.ensures))))
