use Rattle.std.proofs.Common.{◌≡◌, ◌||◌, ℕ, length, get_or, sym, ap, ◌∙◌, arith}
use Rattle.std.specs.Prelude.{nat_lt}
use Rattle.std.proofs.lemmas.List.Folds.{list_any_more, list_any_at}
use Rattle.std.proofs.lemmas.Bool.{lt-ltb, le-ltb}
use Rattle.vs_defs.specs.Words.{words_ham}
use Rattle.vs_graph.specs.Edits.{overwritten}
use Rattle.vs_graph.specs.Good.{body_at}
use Rattle.vs_graph.specs.Bodies.{words_at, gap}
use Rattle.vs_link.proofs.Chosen.{words_long}
use Rattle.vs_link.proofs.choice.shadowed.Goals as goal

pub distance-requires-clause-same : goal.distance-requires-clause-same
distance-requires-clause-same g c =
    let at = overwritten c.args.edit.now (g.N.Nodes.at c.args.base.now) in
    ap length c.words.ensures.value ∙ words_long at (get_or c.args.chosen.now c.loop-id.id-index 0) c.requires.alike (c.requires.live c.loop-id.id-index 0 (omega arith))
    ∙ sym (ap length c.words-candidate.ensures.value ∙ words_long at c.args.key.id c.requires.alike c.requires.candidate)

pub returns-then-distance-key-clause-value : goal.returns-then-distance-key-clause-value
returns-then-distance-key-clause-value g c =
    let bodies = body_at (overwritten c.args.edit.now (g.N.Nodes.at c.args.base.now)) in
    let near : c.distance.result ≡ gap bodies (get_or c.args.chosen.now c.loop-id.id-index 0) c.args.key.id =
    c.distance.ensures ∙ ap (λ w. words_ham w c.words-candidate.result.now) c.words.ensures.value ∙ ap (words_ham (words_at bodies (get_or c.args.chosen.now c.loop-id.id-index 0))) c.words-candidate.ensures.value in
    sym (list_any_at (λ (s : ℕ). nat_lt (gap bodies s c.args.key.id) c.args.key.dist) c.args.chosen.now c.loop-id.id-index 0 (omega arith) (lt-ltb _ _ (omega (arith, near))))

pub loop-id-preserved : goal.loop-id-preserved
loop-id-preserved g c =
    let bodies = body_at (overwritten c.args.edit.now (g.N.Nodes.at c.args.base.now)) in
    let near : c.distance.result ≡ gap bodies (get_or c.args.chosen.now c.loop-id.id-index 0) c.args.key.id =
    c.distance.ensures ∙ ap (λ w. words_ham w c.words-candidate.result.now) c.words.ensures.value ∙ ap (words_ham (words_at bodies (get_or c.args.chosen.now c.loop-id.id-index 0))) c.words-candidate.ensures.value in
    record {
      light = list_any_more (λ (s : ℕ). nat_lt (gap bodies s c.args.key.id) c.args.key.dist) c.args.chosen.now c.loop-id.id-index 0 (omega arith)
          ∙ ap (λ b. b || nat_lt (gap bodies (get_or c.args.chosen.now c.loop-id.id-index 0) c.args.key.id) c.args.key.dist) c.loop-id.invariant.light
          ∙ le-ltb _ _ (omega (arith, near));
      told = omega (arith, c.words.ensures.told, c.loop-id.invariant.told);
    }
