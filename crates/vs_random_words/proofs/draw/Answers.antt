use Rattle.std.proofs.Common.{◌≡◌, ℕ, suc, ◌+◌, ◌≤◌, List, [], ◌∷◌, ◌++◌, sym, ap, ◌∙◌, subst, arith}
use Rattle.rand_pcg.specs.Lcg.{Lcg}
use Rattle.rand_pcg.specs.Pcg.{pcg32}
use Rattle.vs_session_defs.specs.Words.{drawn, after_draws}
use Rattle.vs_random_words.proofs.Drawn.{drawn_push, after_push}
use Rattle.vs_random_words.proofs.draw.Goals as goal

pub loop-preserved : goal.loop-preserved
loop-preserved c =
    let i = c.loop.invariant in
    let n = c.loop.counter in
    let w = c.next_word.ensures in
    let g = c.args.generator.now in
    let more : suc n ≡ n + 1 = omega arith in
    let p = c.push_reserved.ensures in (
      p.items ∙ ap (λ (l : List ℕ). l ++ c.next_word.result ∷ []) i.0 ∙ ap (λ (x : ℕ). drawn n g ++ x ∷ []) (ap (λ (q : ℕ × Lcg). q.0) w ∙ ap (λ (h : Lcg). (pcg32 h).0) i.1)
          ∙ sym (drawn_push n g) ∙ ap (λ (k : ℕ). drawn k g) more,
      ap (λ (q : ℕ × Lcg). q.1) w ∙ ap (λ (h : Lcg). (pcg32 h).1) i.1 ∙ sym (after_push n g) ∙ ap (λ (k : ℕ). after_draws k g) more,
      subst (λ (k : ℕ). c.args.count ≤ k) (sym p.capacity) i.2,
      p.len ∙ ap (λ (k : ℕ). k + 1) i.3,
    )
