use Rattle.std.proofs.Common.{◌≡◌, ◌≤◌, ◌+◌, ◌*◌}
use Rattle.vs_defs.specs.Filter.{Expr}
use Rattle.vs_defs.specs.FilterText.{expr_within, more_within, then_parse, tighter}
use Rattle.vs_filter.specs.Seen.{tokens_seen}
use Rattle.vs_filter.specs.Rules.{rule_seen}
use Rattle.vs_filter.specs.Code.{Adds}
use Rattle.vs_filter.proofs.parse.+expressions.Given as goal

abbrev pub decreases-expr_within : goal.decreases-expr_within
decreases-expr_within l = 3 * l.left

abbrev pub decreases-negation : goal.decreases-negation
decreases-negation l = 3 * l.left + 2

abbrev pub decreases-comparison : goal.decreases-comparison
decreases-comparison l = 3 * l.left + 2

abbrev pub decreases-chain : goal.decreases-chain
decreases-chain l = 3 * l.left + 2

abbrev pub decreases-factor : goal.decreases-factor
decreases-factor l = 3 * l.left + 2

abbrev pub decreases-group : goal.decreases-group
decreases-group l = 3 * l.left + 1

abbrev pub decreases-negative : goal.decreases-negative
decreases-negative l = 3 * l.left + 1

-- an expression is read so far, and what is to be read with it is what was to be read
abbrev pub invariant-chain-loop-left : goal.invariant-chain-loop-left
invariant-chain-loop-left l = record {
  fewer : l.left ≤ l.fn.left;
  read : (a : Expr) × (then_parse (expr_within l.fn.left (tighter (rule_seen l.rule)) l.depth (tokens_seen l.tokens)) (λ b after. more_within l.fn.left (rule_seen l.rule) l.depth b after) ≡ more_within l.left (rule_seen l.rule) l.depth a (tokens_seen l.rest)) × Adds l.fn.code l.code a;
}

abbrev pub decreases-chain-loop-left : goal.decreases-chain-loop-left
decreases-chain-loop-left l = l.left
