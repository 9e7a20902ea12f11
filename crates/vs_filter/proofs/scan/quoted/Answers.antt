use Rattle.std.proofs.Common.{rules, arith, ◌≡◌, [], ◌∷◌, ◌++◌, ap, sym, ◌∙◌}
use Rattle.vs_defs.specs.FilterText.{quoted_at}
use Rattle.vs_filter.proofs.Quoted.{with_bytes, quoted_plain, quoted_escape}
use Rattle.vs_filter.proofs.scan.quoted.Goals as goal

pub loop-first-preserved-then-first-ne92 : goal.loop-first-preserved-then-first-ne92
loop-first-preserved-then-first-ne92 c =
    let text : c.loop-first.rest.now ≡ c.in-Some.first.now ∷ c.in-Some.after.now = search rules in
    let pushed : c.push.new.self ≡ c.loop-first.bytes ++ c.in-Some.first.now ∷ [] = search rules in
    let step = quoted_plain c.args.mark c.in-Some.first.now c.loop-first.bytes c.in-Some.after.now c.if-first-mark.false c.if-first-ne92.true in
    record {
      value = ap (λ b. with_bytes b (quoted_at c.args.mark c.in-Some.after.now)) pushed ∙ sym step ∙ ap (λ r. with_bytes c.loop-first.bytes (quoted_at c.args.mark r)) (sym text) ∙ c.loop-first.invariant.value;
      bound = grind arith;
    }

pub loop-first-preserved : goal.loop-first-preserved
loop-first-preserved c =
    let text : c.loop-first.rest.now ≡ c.in-Some.first.now ∷ c.in-Some-split_first.escaped.now ∷ c.in-Some-split_first.behind.now = search rules in
    let pushed : c.push-in-Some-split_first.new.self ≡ c.loop-first.bytes ++ c.in-Some-split_first.escaped.now ∷ [] = search rules in
    let step = quoted_escape c.args.mark c.in-Some.first.now c.in-Some-split_first.escaped.now c.loop-first.bytes c.in-Some-split_first.behind.now c.if-first-mark.false c.if-first-ne92.false in
    record {
      value = ap (λ b. with_bytes b (quoted_at c.args.mark c.in-Some-split_first.behind.now)) pushed ∙ sym step ∙ ap (λ r. with_bytes c.loop-first.bytes (quoted_at c.args.mark r)) (sym text) ∙ c.loop-first.invariant.value;
      bound = grind arith;
    }
