use Rattle.std.proofs.Common.{◌≡◌, ◌+◌, ◌-◌, ◌*◌, ◌<◌, ◌≤◌, ◌⊎◌, inl, inr, ℕ, length, sym, ap, ◌∙◌, subst, arith}
use Rattle.std.specs.Prelude.{IsSome, slice_index, ◌==◌, if◌then◌else◌}
use Rattle.std.proofs.lemmas.List.{length-set}
use Rattle.vs_graph.specs.Good.{StandsAt, links_at}
use Rattle.vs_beam.specs.Beam.{far_at, level_at, IsStop, Walks, IsNearestAround, before_layer}
use Rattle.vs_beam.proofs.Visits.{some_and}
use Rattle.vs_beam.proofs.Descents.{stands_words, near_at, stands_below, few_links, level_low, walks_stand, stops_more, outside_more, here_more, told_more, told_all}
use Rattle.vs_beam.proofs.descent.descend_from.Goals as goal

pub walk-here-requires-clause-live : goal.walk-here-requires-clause-live
walk-here-requires-clause-live g c =
    let good = c.nodes-nodes.ensures.good.links in
    rw c.nodes-nodes.ensures.nodes (λ a w link. stands_words (g.N.Nodes.at c.args.graph.now.nodes) c.args.graph.now.m c.args.graph.now.dim (length c.args.query.now) (c.loop-layer.layer - 1) w good c.requires.fits.count (good.stand (c.loop-layer.layer - 1) a w link))

pub loop-layer-preserved : goal.loop-layer-preserved
loop-layer-preserved g c =
    let at = g.N.Nodes.at c.args.graph.now.nodes in
    let q = c.args.query.now in
    let i = c.loop-layer.invariant in
    let good = c.nodes-nodes.ensures.good.links in
    let layer = c.loop-layer.layer - 1 in
    let top = c.level_and_distance-top.result.0 in
    let one : layer + 1 ≡ c.loop-layer.layer = omega (arith, c.loop-layer-test.true) in
    let nodes : g.N.Nodes.at c.nodes-nodes.result.now ≡ at = ap g.N.Nodes.at c.nodes-nodes.ensures.nodes in
    let level : top ≤ 15 = subst (λ n. n ≤ 15) (sym (c.level_and_distance-top.ensures.level ∙ ap (λ f. level_at f c.args.entry) nodes)) (level_low at c.args.graph.now.m c.args.graph.now.dim c.args.entry good) in
    let under : layer ≤ top = omega (arith, i.within, one) in
    let walked : Walks at q layer c.loop-layer.here.id c.walk-here.result.id = subst (λ f. Walks f q layer c.loop-layer.here.id c.walk-here.result.id) nodes c.walk-here.ensures.walked in
    let nearest : IsNearestAround at q layer c.walk-here.result.id = subst (λ f. IsNearestAround f q layer c.walk-here.result.id) nodes c.walk-here.ensures.nearest in
    let stands : StandsAt at layer c.walk-here.result.id = walks_stand at q layer c.loop-layer.here.id c.walk-here.result.id (λ v w link. good.stand layer v w link) walked (i.stands layer (omega (arith, one))) in
    let stop : IsStop at q layer c.loop-layer.here.id c.walk-here.result.id = record { stands = stands; nearest = nearest; walked = walked } in
    let here = subst (λ n. c.loop-layer.here.id ≡ (if n == top + 1 then c.args.entry else slice_index c.loop-layer.at n)) (sym one) i.here in
    let old = subst (λ n. (k : ℕ) → n ≤ k → k ≤ top → IsStop at q k (before_layer c.args.entry top c.loop-layer.at k) (slice_index c.loop-layer.at k)) (sym one) i.stop in
    let rest = subst (λ n. (k : ℕ) → (k < n) ⊎ (top < k) → slice_index c.loop-layer.at k ≡ 0) (sym one) i.outside in
    record {
      long = length-set c.loop-layer.at layer c.walk-here.result.id ∙ i.long;
      within = omega (arith, i.within, one);
      low = inr (omega (arith, one, c.loop-layer-test.true));
      stop = stops_more at q c.loop-layer.at c.args.entry top layer c.loop-layer.here.id c.walk-here.result.id i.long (omega (arith, under, level)) under here stop old;
      outside = outside_more at q c.loop-layer.at c.args.entry top layer c.loop-layer.here.id c.walk-here.result.id under rest;
      here = here_more at q c.loop-layer.at c.args.entry top layer c.loop-layer.here.id c.walk-here.result.id i.long (omega (arith, under, level)) under;
      dist = c.walk-here.ensures.dist ∙ ap (λ f. far_at f q c.walk-here.result.id) nodes;
      stands = λ k below. stands_below at c.walk-here.result.id k layer (omega (arith, below)) stands;
      told = λ n is.
          let before : (n - 1) + c.loop-layer.layer ≡ top + 1 = omega (arith, is, one, under) in
          let more : n ≡ (n - 1) + 1 = omega (arith, is, one, under) in
          let few = subst (λ f. (id : ℕ) → length (links_at f layer id) ≤ c.args.graph.now.m) (sym nodes) (few_links at c.args.graph.now.m c.args.graph.now.dim layer good (omega (arith, one, c.loop-layer-test.true, c.requires.low))) in
          subst (λ x. c.walk-here.new.reads + c.walk-here.result.dist * (c.args.graph.now.m + 1) ≤ c.args.reads.now + 1 + c.level_and_distance-top.result.1 * (c.args.graph.now.m + 1) + x * (c.args.graph.now.m + 1)) (sym more)
          (told_more c.loop-layer.reads c.walk-here.new.reads c.loop-layer.here.dist c.walk-here.result.dist (c.args.graph.now.m + 1) _ (n - 1) (c.walk-here.ensures.told c.args.graph.now.m few) (i.told (n - 1) before));
    }

pub returns-clause-told : goal.returns-clause-told
returns-clause-told g c =
    let at = g.N.Nodes.at c.args.graph.now.nodes in
    let i = c.loop-layer.invariant in
    let good = c.nodes-nodes.ensures.good.links in
    let top = c.level_and_distance-top.result.0 in
    let nodes : g.N.Nodes.at c.nodes-nodes.result.now ≡ at = ap g.N.Nodes.at c.nodes-nodes.ensures.nodes in
    let level : top ≤ 15 = subst (λ n. n ≤ 15) (sym (c.level_and_distance-top.ensures.level ∙ ap (λ f. level_at f c.args.entry) nodes)) (level_low at c.args.graph.now.m c.args.graph.now.dim c.args.entry good) in
    let some : IsSome (at c.args.entry) = some_and _ _ (rw c.requires.entry at c.nodes-nodes.ensures.good.top) in
    let far : c.level_and_distance-top.result.1 ≤ c.args.graph.now.dim = subst (λ n. n ≤ c.args.graph.now.dim) (sym (c.level_and_distance-top.ensures.far ∙ ap (λ f. far_at f c.args.query.now c.args.entry) nodes)) (near_at at c.args.graph.now.m c.args.graph.now.dim c.args.query.now c.args.entry some good c.requires.fits) in
    let low : 1 ≤ c.loop-layer.layer = elim i.low [ inl e ↦ omega (arith, e) | inr h ↦ omega (arith, h, c.requires.low) ] in
    let n = top + 1 - c.loop-layer.layer in
    told_all c.loop-layer.reads c.args.reads.now c.level_and_distance-top.result.1 c.args.graph.now.dim c.loop-layer.here.dist (c.args.graph.now.m + 1) n (i.told n (omega (arith, i.within))) far (omega (arith, level, low))
