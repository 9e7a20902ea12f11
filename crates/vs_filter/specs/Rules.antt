-- The rules of the grammar, and the faults of a text.
use Rattle.std.specs.Prelude.{◌≡◌, Result, Err}
use Rattle.vs_defs.specs.FilterText as text
use Rattle.vs_filter.specs.declared.rule.Rule.{Rule}
use Rattle.vs_filter.specs.declared.rule.Rule.TheVariants.{Or, And, Not, Comparison, Sum, Term, Factor}
use Rattle.vs_filter.specs.declared.error.FilterError.{FilterError}
use Rattle.vs_filter.specs.declared.error.FilterError.TheVariants.{NoMemory, Syntax, TooDeep}

abbrev pub rule_seen : Rule → text.Rule
rule_seen Or = text.or_rule
rule_seen And = text.and_rule
rule_seen Not = text.not_rule
rule_seen Comparison = text.comparison_rule
rule_seen Sum = text.sum_rule
rule_seen Term = text.term_rule
rule_seen Factor = text.factor_rule

-- the fault is that of the definitions, or memory was refused
abbrev pub IsFault : {A : Type 0} → Result A text.Fault → FilterError → Type 0
IsFault r NoMemory = Unit {0}
IsFault r (Syntax at) = r ≡ Err (text.Syntax at)
IsFault r (TooDeep at) = r ≡ Err (text.TooDeep at)
