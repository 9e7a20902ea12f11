use Rattle.std.proofs.Common.{rules, arith, ◌≡◌, ◌<◌, ℕ, suc, ◌-◌, Ok, Some, [], ◌∷◌, ◌++◌, refl, ap, sym, ◌∙◌, subst, map}
use Rattle.vs_defs.specs.Filter as filter
use Rattle.vs_defs.specs.AttributeField as field
use Rattle.vs_defs.specs.FilterText.{Parse, list_at, Not, Numeral, Quoted, Truth, Selector, OpenList, expr_within, next, rest_of, not_rule, comparison_rule, sum_rule, factor_rule}
use Rattle.vs_filter.specs.Seen.{operator_seen, tokens_seen}
use Rattle.vs_filter.specs.Rules.{rule_seen}
use Rattle.vs_filter.specs.Parsed.{IsParse}
use Rattle.vs_filter.specs.Code.{single_seen}
use Rattle.vs_filter.specs.declared.code.Instruction.TheVariants as code
use Rattle.vs_filter.proofs.Built.{adds_operand, adds_wrapped, adds_joined}
use Rattle.vs_filter.proofs.Steps.{is_the_not, not_step, negative_step, comparison_step, more_step, chain_step, factor_numeral, factor_quoted, factor_truth, factor_selector, factor_list}
use Rattle.vs_filter.proofs.parse.+expressions.Goals as goal

pub expr_within-returns-in-Not : goal.expr_within-returns-in-Not
expr_within-returns-in-Not t c =
    let e : suc (c.args.left - 1) ≡ c.args.left = omega arith in
    let P : ℕ → Type 0 = λ n. IsParse (expr_within n not_rule c.args.depth (tokens_seen c.args.tokens.now)) c.args.code.now c.negation.new.code c.negation.result in
    let h : P c.args.left = subst P e c.negation.ensures in
    rw c.in-Not.is h

pub expr_within-returns-in-Comparison : goal.expr_within-returns-in-Comparison
expr_within-returns-in-Comparison t c =
    let e : suc (c.args.left - 1) ≡ c.args.left = omega arith in
    let P : ℕ → Type 0 = λ n. IsParse (expr_within n comparison_rule c.args.depth (tokens_seen c.args.tokens.now)) c.args.code.now c.comparison.new.code c.comparison.result in
    let h : P c.args.left = subst P e c.comparison.ensures in
    rw c.in-Comparison.is h

pub expr_within-returns-in-Factor : goal.expr_within-returns-in-Factor
expr_within-returns-in-Factor t c =
    let e : suc (c.args.left - 1) ≡ c.args.left = omega arith in
    let P : ℕ → Type 0 = λ n. IsParse (expr_within n factor_rule c.args.depth (tokens_seen c.args.tokens.now)) c.args.code.now c.factor.new.code c.factor.result in
    let h : P c.args.left = subst P e c.factor.ensures in
    rw c.in-Factor.is h

pub expr_within-returns-in-Or : goal.expr_within-returns-in-Or
expr_within-returns-in-Or t c =
    let e : suc (c.args.left - 1) ≡ c.args.left = omega arith in
    let ts = tokens_seen c.args.tokens.now in
    let P : Parse filter.Expr → Type 0 = λ p. IsParse p c.args.code.now c.chain.new.code c.chain.result in
    let Q : ℕ → Type 0 = λ n. P (expr_within n (rule_seen c.args.rule) c.args.depth ts) in
    let h : Q (suc (c.args.left - 1)) = subst P (sym (chain_step (c.args.left - 1) c.args.depth ts c.args.rule c.in-Or.is)) c.chain.ensures in
    subst Q e h

pub factor-returns-in-Some-Numeral : goal.factor-returns-in-Some-Numeral
factor-returns-in-Some-Numeral t c =
    let n : next (tokens_seen c.args.tokens.now) ≡ Numeral c.in-Some-Numeral.text.now = search rules in
    c.leaf.ensures _ _ (λ es. ap (λ a. Some (filter.Literal a ∷ es)) c.numeral.ensures) (factor_numeral c.args.left c.args.depth (tokens_seen c.args.tokens.now) c.in-Some-Numeral.text.now n)

pub factor-returns-in_ok-try_clone-in-Some-Quoted : goal.factor-returns-in_ok-try_clone-in-Some-Quoted
factor-returns-in_ok-try_clone-in-Some-Quoted t c =
    let n : next (tokens_seen c.args.tokens.now) ≡ Quoted c.in-Some-Quoted.text = search rules in
    c.leaf-in-Some-Quoted.ensures _ _ (λ es. ap (λ b. Some (filter.Literal (field.Text b) ∷ es)) c.in_ok-try_clone-in-Some-Quoted.ensures)
    (factor_quoted c.args.left c.args.depth (tokens_seen c.args.tokens.now) c.in-Some-Quoted.text n)

pub factor-returns-in-Some-Truth : goal.factor-returns-in-Some-Truth
factor-returns-in-Some-Truth t c =
    let n : next (tokens_seen c.args.tokens.now) ≡ Truth c.in-Some-Truth.truth = search rules in
    c.leaf-in-Some-Truth.ensures _ _ (λ es. refl) (factor_truth c.args.left c.args.depth (tokens_seen c.args.tokens.now) c.in-Some-Truth.truth n)

pub factor-returns-in_ok-to_vec-in-Some-Selector : goal.factor-returns-in_ok-to_vec-in-Some-Selector
factor-returns-in_ok-to_vec-in-Some-Selector t c =
    let n : next (tokens_seen c.args.tokens.now) ≡ Selector c.in-Some-Selector.name.now = search rules in
    let copied : c.from_vec.result ≡ c.in-Some-Selector.name.now = search rules in
    c.leaf-in-Some-Selector.ensures _ _ (λ es. ap (λ name. Some (filter.Selector name ∷ es)) copied)
    (factor_selector c.args.left c.args.depth (tokens_seen c.args.tokens.now) c.in-Some-Selector.name.now n)

pub factor-returns-in_ok-push-in-Some-OpenList : goal.factor-returns-in_ok-push-in-Some-OpenList
factor-returns-in_ok-push-in-Some-OpenList t c =
    let n : next (tokens_seen c.args.tokens.now) ≡ OpenList = search rules in
    let items = c.in_ok-items-in-Some-OpenList.items in
    let pushed : c.push.new.code ≡ c.args.code.now ++ code.Items items ∷ [] = search rules in
    let read : expr_within (suc c.args.left) factor_rule c.args.depth (tokens_seen c.args.tokens.now) ≡ Ok (filter.Items (map single_seen items), tokens_seen c.in_ok-items-in-Some-OpenList.rest.now) = factor_list c.args.left c.args.depth (tokens_seen c.args.tokens.now) n ∙ ap (list_at c.args.left) (sym c.rest_of.ensures) ∙ c.in_ok-items-in-Some-OpenList.ensures in
    (filter.Items (map single_seen items), read, adds_operand (code.Items items) (filter.Items (map single_seen items)) (λ es. refl) pushed)

pub negation-returns : goal.negation-returns
negation-returns t c =
    let h : next (tokens_seen c.args.tokens.now) ≡ Not = is_the_not _ (search rules) in
    let pushed : c.push.new.code ≡ c.expr_within-2.new.code ++ code.Not ∷ [] = c.in_ok-push.ensures.ok in
    let read = c.in_ok-rest.ensures in
    let inner = ap (expr_within c.args.left not_rule c.in_ok-inner.inner) (sym c.rest_of.ensures) ∙ read.1 in
    (filter.Not read.0, not_step c.args.left c.args.depth c.in_ok-inner.inner (tokens_seen c.args.tokens.now) (tokens_seen c.in_ok-rest.rest.now) read.0 h c.in_ok-inner.ensures.ok inner, adds_wrapped code.Not filter.Not (λ es. refl) pushed read.2)

pub negative-returns : goal.negative-returns
negative-returns t c =
    let pushed : c.push.new.code ≡ c.expr_within.new.code ++ code.Negative ∷ [] = c.in_ok-push.ensures.ok in
    let read = c.in_ok-rest.ensures in
    let inner = ap (expr_within c.args.left factor_rule c.in_ok-inner.inner) (sym c.rest_of.ensures) ∙ read.1 in
    (filter.Negative read.0, negative_step c.args.left c.args.depth c.in_ok-inner.inner (tokens_seen c.args.tokens.now) (tokens_seen c.in_ok-rest.rest.now) read.0 c.in_ok-inner.ensures.ok inner, adds_wrapped code.Negative filter.Negative (λ es. refl) pushed read.2)

pub comparison-returns : goal.comparison-returns
comparison-returns t c =
    let op = c.in-Some.op in
    let first = c.in_ok-more.ensures in
    let second = c.in_ok-rest.ensures in
    let pushed : c.push.new.code ≡ c.expr_within-2.new.code ++ code.Binary op ∷ [] = c.in_ok-push.ensures.ok in
    let right = ap (expr_within c.args.left sum_rule c.args.depth) (sym c.rest_of.ensures) ∙ second.1 in
    (filter.Binary (operator_seen op) first.0 second.0, comparison_step c.args.left c.args.depth (tokens_seen c.args.tokens.now) (tokens_seen c.in_ok-more.more.now) (tokens_seen c.in_ok-rest.rest.now) first.0 second.0 (operator_seen op) first.1 (sym c.in-Some.ensures) right, adds_joined op pushed first.2 second.2)

pub chain-loop-left-preserved : goal.chain-loop-left-preserved
chain-loop-left-preserved t c =
    let op = c.in-Some.op in
    let rule = rule_seen c.args.rule in
    let first = c.loop-left.invariant.read in
    let second = c.in_ok-rest-2.ensures in
    let some : 0 < c.loop-left.left = omega arith in
    let pushed : c.push.new.code ≡ c.expr_within-in-loop-left.new.code ++ code.Binary op ∷ [] = c.in_ok-push.ensures.ok in
    let right = ap (λ r. expr_within (c.loop-left.left - 1) r c.args.depth (rest_of (tokens_seen c.loop-left.rest.now))) (sym c.tighter-in-loop-left.ensures) ∙ ap (expr_within (c.loop-left.left - 1) (rule_seen c.tighter-in-loop-left.result) c.args.depth) (sym c.rest_of.ensures) ∙ second.1 in
    let more = more_step c.loop-left.left c.args.depth rule (tokens_seen c.loop-left.rest.now) (tokens_seen c.in_ok-rest-2.rest.now) first.0 second.0 (operator_seen op) some (sym c.in-Some.ensures) right in
    record {
      fewer = omega arith;
      read = (filter.Binary (operator_seen op) first.0 second.0, (first.1 ∙ more), adds_joined op pushed first.2 second.2);
    }
