use Rattle.std.proofs.Common.{◌≡◌, ◌<◌, suc, ◌-◌, sym, ◌∙◌, subst, arith, length, inl}
use Rattle.vs_graph.specs.Edits.{overwritten}
use Rattle.vs_graph.specs.Good.{layers_at}
use Rattle.vs_link.specs.Linked.{IsFallback}
use Rattle.vs_insert.specs.Drafts.{AreChoices, chosen_at}
use Rattle.vs_insert.specs.Joined.{IsLayerJoined, IsJoinedFrom}
use Rattle.vs_insert.proofs.Turning.{chosen_index, free_now, choices_now, entry_may, nobody_may, falls_none}
use Rattle.vs_insert.proofs.Stepping.{FallsBack, joined_more}
use Rattle.vs_insert.proofs.Costs.{told_next, told_refused}
use Rattle.vs_insert.proofs.joining.join_layers.Goals as goal
use Rattle.vs_insert.proofs.joining.join_layers.Goals.{then-layer-shared, else-layer-shared}

pub join_layer-requires-clause-free : goal.join_layer-requires-clause-free
join_layer-requires-clause-free g c =
    let base = g.N.Nodes.at c.args.base.now in
    let is : c.loop-layer.layer ≡ suc (c.loop-layer.layer - 1) = omega (arith, c.loop-layer-test.true) in
    free_now (overwritten c.args.edit.now base) (overwritten c.loop-layer.edit base) c.args.m c.args.x c.args.entry c.args.chosen.now (c.loop-layer.layer - 1)
    (subst (IsJoinedFrom (overwritten c.args.edit.now base) (overwritten c.loop-layer.edit base) c.args.m c.args.x c.args.entry c.args.chosen.now) is c.loop-layer.invariant.joined) c.requires.free

pub join_layer-requires-clause-chosen : goal.join_layer-requires-clause-chosen
join_layer-requires-clause-chosen g c =
    let base = g.N.Nodes.at c.args.base.now in
    let n = c.loop-layer.layer - 1 in
    let is : c.loop-layer.layer ≡ suc n = omega (arith, c.loop-layer-test.true) in
    let within : n < length c.args.chosen.now = omega (arith, c.loop-layer.invariant.within, is) in
    let same : chosen_at c.args.chosen.now n ≡ c.as_slice.result.now = chosen_index c.args.chosen.now n c.index-chosen-layer.result within ∙ sym c.index-chosen-layer.is ∙ sym c.as_slice.ensures in
    choices_now (overwritten c.args.edit.now base) (overwritten c.loop-layer.edit base) c.args.m c.args.x c.args.entry c.args.chosen.now n
    (subst (IsJoinedFrom (overwritten c.args.edit.now base) (overwritten c.loop-layer.edit base) c.args.m c.args.x c.args.entry c.args.chosen.now) is c.loop-layer.invariant.joined) c.as_slice.result.now
    (subst (AreChoices (overwritten c.args.edit.now base) c.args.m n) same (c.requires.chosen n))

pub join_layer-requires-clause-fallback : goal.join_layer-requires-clause-fallback
join_layer-requires-clause-fallback g c =
    let base = g.N.Nodes.at c.args.base.now in
    let at = overwritten c.args.edit.now base in
    let now = overwritten c.loop-layer.edit base in
    let n = c.loop-layer.layer - 1 in
    let is : c.loop-layer.layer ≡ suc n = omega (arith, c.loop-layer-test.true) in
    let within : n < length c.args.chosen.now = omega (arith, c.loop-layer.invariant.within, is) in
    let j = subst (IsJoinedFrom at now c.args.m c.args.x c.args.entry c.args.chosen.now) is c.loop-layer.invariant.joined in
    let dim = c.requires.good.0 in
    let good = j.good dim c.requires.good.2 in
    elim c.if-layer-shared.branch [
      | then-layer-shared w ↦
          subst (IsFallback (layers_at now) n c.args.x) (sym w.fallback-is) (entry_may at now c.args.m c.args.x c.args.entry c.args.chosen.now n j (length c.args.chosen.now) c.args.shared dim c.requires.shared within good w.if-layer-shared.true)
      | else-layer-shared w ↦
          subst (IsFallback (layers_at now) n c.args.x) (sym w.fallback-is) (nobody_may at now c.args.m c.args.x c.args.entry c.args.chosen.now n j (length c.args.chosen.now) c.args.shared dim c.requires.shared within good w.if-layer-shared.false)
    ]

pub loop-layer-preserved : goal.loop-layer-preserved
loop-layer-preserved g c =
    let base = g.N.Nodes.at c.args.base.now in
    let at = overwritten c.args.edit.now base in
    let now = overwritten c.loop-layer.edit base in
    let new = overwritten c.join_layer.new.edit base in
    let chosen = c.args.chosen.now in
    let n = c.loop-layer.layer - 1 in
    let is : c.loop-layer.layer ≡ suc n = omega (arith, c.loop-layer-test.true) in
    let within : n < length chosen = omega (arith, c.loop-layer.invariant.within, is) in
    let same : chosen_at chosen n ≡ c.as_slice.result.now = chosen_index chosen n c.index-chosen-layer.result within ∙ sym c.index-chosen-layer.is ∙ sym c.as_slice.ensures in
    let j = subst (IsJoinedFrom at now c.args.m c.args.x c.args.entry chosen) is c.loop-layer.invariant.joined in
    let dim = c.requires.good.0 in
    let good = j.good dim c.requires.good.2 in
    let step : IsLayerJoined now new c.args.m c.args.x n (chosen_at chosen n) c.if-layer-shared.fallback = subst (λ l. IsLayerJoined now new c.args.m c.args.x n l c.if-layer-shared.fallback) (sym same) c.in_ok-join_layer.ensures.joined in
    let falls : FallsBack at c.args.x c.args.entry c.if-layer-shared.fallback n =
    elim c.if-layer-shared.branch [
      | then-layer-shared w ↦ inl w.fallback-is
      | else-layer-shared w ↦ falls_none at now c.args.m c.args.x c.args.entry chosen n j (length chosen) c.args.shared dim c.requires.shared within good c.if-layer-shared.fallback w.if-layer-shared.false
    ] in
    record {
      within = omega (arith, within);
      joined = joined_more at now new c.args.m c.args.x c.args.entry c.if-layer-shared.fallback chosen n within j step falls (c.requires.chosen n).names;
      told = λ done sum.
          told_next c.args.m n c.loop-layer.layer c.loop-layer.reads c.join_layer.new.reads c.args.reads.now (length chosen) done c.requires.low is sum c.loop-layer.invariant.within c.loop-layer.invariant.told c.in_ok-join_layer.ensures.told;
    }

pub returns-in_err-join_layer-clause-told : goal.returns-in_err-join_layer-clause-told
returns-in_err-join_layer-clause-told g c =
    let n = c.loop-layer.layer - 1 in
    let is : c.loop-layer.layer ≡ suc n = omega (arith, c.loop-layer-test.true) in
    told_refused c.args.m n c.loop-layer.layer c.loop-layer.reads c.join_layer.new.reads c.args.reads.now (length c.args.chosen.now) c.requires.low is c.loop-layer.invariant.within c.loop-layer.invariant.told c.in_err-join_layer.ensures.told
