use Rattle.std.proofs.Common.{◌≡◌, ◌∷◌, [], ◌++◌, ◌≤◌, ◌<◌, ◌+◌, true, false, length, get_or, drop, map, ap, ◌∙◌, sym, subst, arith, append_assoc}
use Rattle.std.specs.Prelude.{All, IsSome}
use Rattle.vs_graph.specs.Edits.{overwritten}
use Rattle.vs_graph.specs.Good.{body_at, layers_at}
use Rattle.vs_graph.specs.Standing.{members_of, name_of}
use Rattle.vs_graph.proofs.Goods.{alike_from}
use Rattle.vs_graph.proofs.Standing.{are_members}
use Rattle.vs_link.specs.Selected.{is_shadowed, selected_behind}
use Rattle.vs_link.proofs.Chosen.{a_key, step_full, step_shadowed, step_chosen, more_reads, all_selected, push_all, behind_named}
use Rattle.vs_link.proofs.choice.select.Goals as goal

pub shadowed-requires-clause-alike : goal.shadowed-requires-clause-alike
shadowed-requires-clause-alike g c = alike_from (overwritten c.args.edit.now (g.N.Nodes.at c.args.base.now)) c.args.m c.requires.good.0 c.requires.good.1 c.requires.good.2

pub loop-key-preserved-then-len-m : goal.loop-key-preserved-then-len-m
loop-key-preserved-then-len-m g c =
    let bodies = body_at (overwritten c.args.edit.now (g.N.Nodes.at c.args.base.now)) in
    let full : c.args.m ≤ length c.loop-key.chosen = omega (arith, c.len.ensures) in
    record {
      sum = ap (λ l. c.loop-key.chosen ++ l) (sym (step_full bodies c.args.m c.loop-key.chosen c.args.sorted.now c.loop-key.key-index a_key (omega arith) full)) ∙ c.loop-key.invariant.sum;
      live = c.loop-key.invariant.live;
      told = more_reads c.loop-key.key-index c.args.m 0 _ c.loop-key.reads _ c.loop-key.invariant.told (omega arith) (omega arith);
    }

pub loop-key-preserved-then-shadowed : goal.loop-key-preserved-then-shadowed
loop-key-preserved-then-shadowed g c =
    let bodies = body_at (overwritten c.args.edit.now (g.N.Nodes.at c.args.base.now)) in
    let key = get_or c.args.sorted.now c.loop-key.key-index a_key in
    let dark : is_shadowed bodies c.loop-key.chosen key ≡ true = ap (λ l. is_shadowed bodies l key) (sym c.as_slice.ensures) ∙ sym c.shadowed.ensures.value ∙ c.if-shadowed.true in
    record {
      sum = ap (λ l. c.loop-key.chosen ++ l) (sym (step_shadowed bodies c.args.m c.loop-key.chosen c.args.sorted.now c.loop-key.key-index a_key (omega arith) dark)) ∙ c.loop-key.invariant.sum;
      live = c.loop-key.invariant.live;
      told = more_reads c.loop-key.key-index c.args.m (1 + length c.as_slice.result.now) _ c.loop-key.reads _ c.loop-key.invariant.told c.shadowed.ensures.told (omega (arith, c.len.ensures, ap length c.as_slice.ensures));
    }

pub loop-key-preserved : goal.loop-key-preserved
loop-key-preserved g c =
    let at = overwritten c.args.edit.now (g.N.Nodes.at c.args.base.now) in
    let bodies = body_at at in
    let key = get_or c.args.sorted.now c.loop-key.key-index a_key in
    let chosen = c.loop-key.chosen in
    let rest = drop (c.loop-key.key-index + 1) c.args.sorted.now in
    let room : length chosen < c.args.m = omega (arith, c.len.ensures) in
    let light : is_shadowed bodies chosen key ≡ false = ap (λ l. is_shadowed bodies l key) (sym c.as_slice.ensures) ∙ sym c.shadowed.ensures.value ∙ c.if-shadowed.false in
    let pushed : c.push.new.self ≡ chosen ++ key.id ∷ [] = c.in_ok-push.ensures.ok in
    record {
      sum = ap (λ l. l ++ selected_behind bodies c.args.m l rest) pushed ∙ append_assoc chosen (key.id ∷ []) (selected_behind bodies c.args.m (chosen ++ key.id ∷ []) rest)
          ∙ ap (λ l. chosen ++ l) (sym (step_chosen bodies c.args.m chosen c.args.sorted.now c.loop-key.key-index a_key (omega arith) room light)) ∙ c.loop-key.invariant.sum;
      live = subst (All (λ id. IsSome (at id))) (sym pushed) (push_all (λ id. IsSome (at id)) chosen key.id c.loop-key.invariant.live (c.requires.live c.loop-key.key-index a_key (omega arith)));
      told = more_reads c.loop-key.key-index c.args.m (1 + length c.as_slice.result.now) _ c.loop-key.reads _ c.loop-key.invariant.told c.shadowed.ensures.told (omega (arith, c.len.ensures, ap length c.as_slice.ensures));
    }

pub returns-clause-named : goal.returns-clause-named
returns-clause-named g c dim ids query good are there =
    let at = overwritten c.args.edit.now (g.N.Nodes.at c.args.base.now) in
    let bodies = body_at at in
    ap (map (name_of at)) (all_selected bodies c.args.m c.loop-key.chosen c.args.sorted.now c.loop-key.key-index (omega arith) c.loop-key.invariant.sum)
    ∙ behind_named bodies (layers_at at) ids (members_of at dim ids) (are_members at c.args.m dim ids good are) query c.args.m [] c.args.sorted.now (λ x k. absurd k)
    (λ k d less. (are.live (get_or c.args.sorted.now k d).id ∙ c.requires.live k d less, there k d less))
