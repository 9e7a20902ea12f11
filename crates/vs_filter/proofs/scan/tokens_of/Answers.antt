use Rattle.std.proofs.Common.{length-append, rules, arith, ◌≡◌, ◌+◌, ◌-◌, [], ◌∷◌, ◌++◌, length, true, false, ap, refl, ◌∙◌}
use Rattle.vs_defs.specs.FilterText.{Front, token_at, is_last, tokens_within}
use Rattle.vs_filter.specs.Seen.{token_seen, tokens_seen}
use Rattle.vs_filter.specs.declared.token.Placed.{Placed}
use Rattle.vs_filter.proofs.Tokens.{pushed_last, pushed_more}
use Rattle.vs_filter.proofs.scan.tokens_of.Goals as goal

pub returns-then-last-clause-value : goal.returns-then-last-clause-value
returns-then-last-clause-value c =
    let n = length c.args.text.now in
    let p : Placed = record { at = n - length c.skip_space-rest.result.now; token = c.in_ok-token.token } in
    let pushed : c.push.new.self ≡ c.loop-turn.tokens ++ p ∷ [] = search rules in
    let front : ◌≡◌ {A = Front} (token_seen c.in_ok-token.token, c.in_ok-token.after.now) (token_at c.skip_space-rest.result.now) = c.in_ok-token.ensures.value in
    let last : is_last (token_seen c.in_ok-token.token) ≡ true = search rules in
    ap tokens_seen pushed
    ∙ pushed_last c.loop-turn.tokens p (n + 1 - c.loop-turn.turn) n c.loop-turn.rest.now _ _ (omega arith) c.skip_space-rest.ensures.value front refl last
    ∙ c.loop-turn.invariant.value

pub loop-turn-preserved : goal.loop-turn-preserved
loop-turn-preserved c =
    let n = length c.args.text.now in
    let p : Placed = record { at = n - length c.skip_space-rest.result.now; token = c.in_ok-token.token } in
    let pushed : c.push.new.self ≡ c.loop-turn.tokens ++ p ∷ [] = search rules in
    let front : ◌≡◌ {A = Front} (token_seen c.in_ok-token.token, c.in_ok-token.after.now) (token_at c.skip_space-rest.result.now) = c.in_ok-token.ensures.value in
    let last : is_last (token_seen c.in_ok-token.token) ≡ false = search rules in
    let less : n + 1 - (c.loop-turn.turn + 1) ≡ n + 1 - c.loop-turn.turn - 1 = omega arith in
    record {
      value = ap (λ ts. tokens_seen ts ++ tokens_within (n + 1 - (c.loop-turn.turn + 1)) n c.in_ok-token.after.now) pushed
          ∙ ap (λ k. tokens_seen (c.loop-turn.tokens ++ p ∷ []) ++ tokens_within k n c.in_ok-token.after.now) less
          ∙ pushed_more c.loop-turn.tokens p (n + 1 - c.loop-turn.turn) n c.loop-turn.rest.now _ _ (omega arith) c.skip_space-rest.ensures.value front refl last
          ∙ c.loop-turn.invariant.value;
      count = grind (arith, length-append {A = Placed});
      bound = grind arith;
    }
