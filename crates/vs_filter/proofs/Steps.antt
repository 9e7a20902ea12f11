-- One step of reading an expression.
use Rattle.std.proofs.Common.{◌≡◌, ◌<◌, ◌-◌, ℕ, zero, suc, Bool, true, [], ◌∷◌, Option, Some, None, Ok, ◌⊎◌, inl, inr, subst, refl, ap, sym, ◌∙◌, arith}
use Rattle.std.proofs.lemmas.Bool.{false≢true}
use Rattle.vs_defs.specs.Bytes.{Bytes}
use Rattle.vs_defs.specs.AttributeField as field
use Rattle.vs_defs.specs.Filter as filter
use Rattle.vs_defs.specs.Filter.{Expr, Operator}
use Rattle.vs_defs.specs.FilterText.{Token, Not, End, Tokens, Parse, Rule, then_parse, expr_within, more_within, tighter, operator_at, next, rest_of, deeper, not_rule, comparison_rule, sum_rule, factor_rule, numeral, list_at}
use Rattle.vs_defs.specs.FilterText as text
use Rattle.vs_filter.specs.Seen.{is_not}
use Rattle.vs_filter.specs.Rules.{rule_seen}
use Rattle.vs_filter.specs.declared.rule.Rule as program
use Rattle.vs_filter.specs.declared.rule.Rule.TheVariants.{Or, And, Sum, Term}

pub is_the_not : (t : Token) → is_not t ≡ true → t ≡ Not
is_the_not Not e = refl
is_the_not t e = absurd (false≢true e)

-- two readings are one where they are at each text that begins with this token
at_next : {A : Type 0} (f g : Tokens → A) (t : Token) → (End ≡ t → ⊥) → ((at : ℕ) (more : Tokens) → f ((at, t) ∷ more) ≡ g ((at, t) ∷ more))
    → (ts : Tokens) → next ts ≡ t → f ts ≡ g ts
at_next f g t n h [] e = absurd (n e)
at_next f g t n h (p ∷ ts) e = subst (λ u. f ((p.0, u) ∷ ts) ≡ g ((p.0, u) ∷ ts)) (sym e) (h p.0 ts)

abbrev negated : Expr → Tokens → Parse Expr
negated a after = Ok (filter.Not a, after)

pub not_step : (k d inner : ℕ) (ts rest : Tokens) (a : Expr) → next ts ≡ text.Not → d ≡ suc inner → expr_within k not_rule inner (rest_of ts) ≡ Ok (a, rest)
    → expr_within (suc k) not_rule d ts ≡ Ok (filter.Not a, rest)
not_step k d inner ts rest a n e r =
    let opened = at_next (expr_within (suc k) not_rule d) (λ us. deeper d us λ i. then_parse (expr_within k not_rule i (rest_of us)) negated) text.Not (λ q. cc) (λ at more. refl) ts n in
    opened ∙ ap (λ j. deeper j ts λ i. then_parse (expr_within k not_rule i (rest_of ts)) negated) e ∙ ap (λ p. then_parse p negated) r

pub negative_step : (k d inner : ℕ) (ts rest : Tokens) (a : Expr) → d ≡ suc inner → expr_within k factor_rule inner (rest_of ts) ≡ Ok (a, rest)
    → deeper d ts (λ i. then_parse (expr_within k factor_rule i (rest_of ts)) λ b after. Ok (filter.Negative b, after)) ≡ Ok (filter.Negative a, rest)
negative_step k d inner ts rest a e r =
    ap (λ j. deeper j ts λ i. then_parse (expr_within k factor_rule i (rest_of ts)) λ b after. Ok (filter.Negative b, after)) e
    ∙ ap (λ p. then_parse p λ b after. Ok (filter.Negative b, after)) r

-- behind the first sum of a comparison
abbrev compared : ℕ → ℕ → Expr → Tokens → Option Operator → Parse Expr
compared k d a more o = elim o [
  | Some op ↦ then_parse (expr_within k sum_rule d (rest_of more)) λ b after. Ok (filter.Binary op a b, after)
  | None ↦ Ok (a, more)
]

pub comparison_step : (k d : ℕ) (ts more rest : Tokens) (a b : Expr) (op : Operator) → expr_within k sum_rule d ts ≡ Ok (a, more) → operator_at comparison_rule more ≡ Some op
    → expr_within k sum_rule d (rest_of more) ≡ Ok (b, rest) → expr_within (suc k) comparison_rule d ts ≡ Ok (filter.Binary op a b, rest)
comparison_step k d ts more rest a b op p o q =
    ap (λ r. then_parse r λ e after. compared k d e after (operator_at comparison_rule after)) p
    ∙ ap (compared k d a more) o
    ∙ ap (λ r. then_parse r λ e after. Ok (filter.Binary op a e, after)) q

-- behind an operand of a rule
abbrev further : ℕ → ℕ → Rule → Expr → Tokens → Option Operator → Parse Expr
further k d r a ts o = elim o [
  | Some op ↦ then_parse (expr_within k (tighter r) d (rest_of ts)) λ b after. more_within k r d (filter.Binary op a b) after
  | None ↦ Ok (a, ts)
]

pub more_step : (k d : ℕ) (r : Rule) (ts rest : Tokens) (a b : Expr) (op : Operator) → 0 < k → operator_at r ts ≡ Some op
    → expr_within (k - 1) (tighter r) d (rest_of ts) ≡ Ok (b, rest) → more_within k r d a ts ≡ more_within (k - 1) r d (filter.Binary op a b) rest
more_step zero d r ts rest a b op h o q = absurd (omega arith)
more_step (suc k) d r ts rest a b op h o q =
    let less : suc k - 1 ≡ k = omega arith in
    ap (further k d r a ts) o
    ∙ ap (λ j. then_parse (expr_within j (tighter r) d (rest_of ts)) λ e after. more_within j r d (filter.Binary op a e) after) (sym less)
    ∙ ap (λ p. then_parse p λ e after. more_within (suc k - 1) r d (filter.Binary op a e) after) q

-- a rule of which operators join from the left
abbrev IsStep : ℕ → ℕ → Tokens → program.Rule → Type 0
IsStep k d ts r = expr_within (suc k) (rule_seen r) d ts ≡ then_parse (expr_within k (tighter (rule_seen r)) d ts) (λ a more. more_within k (rule_seen r) d a more)

pub chain_step : (k d : ℕ) (ts : Tokens) (r : program.Rule) → (r ≡ Or) ⊎ ((r ≡ And) ⊎ ((r ≡ Sum) ⊎ (r ≡ Term)))
    → expr_within (suc k) (rule_seen r) d ts ≡ then_parse (expr_within k (tighter (rule_seen r)) d ts) (λ a more. more_within k (rule_seen r) d a more)
chain_step k d ts r (inl e) = subst (IsStep k d ts) (sym e) refl
chain_step k d ts r (inr (inl e)) = subst (IsStep k d ts) (sym e) refl
chain_step k d ts r (inr (inr (inl e))) = subst (IsStep k d ts) (sym e) refl
chain_step k d ts r (inr (inr (inr e))) = subst (IsStep k d ts) (sym e) refl

pub factor_numeral : (k d : ℕ) (ts : Tokens) (bytes : Bytes) → next ts ≡ text.Numeral bytes → expr_within (suc k) factor_rule d ts ≡ Ok (filter.Literal (numeral bytes), rest_of ts)
factor_numeral k d ts bytes e = at_next (expr_within (suc k) factor_rule d) (λ us. Ok (filter.Literal (numeral bytes), rest_of us)) _ (λ q. cc) (λ at more. refl) ts e

pub factor_quoted : (k d : ℕ) (ts : Tokens) (bytes : Bytes) → next ts ≡ text.Quoted bytes → expr_within (suc k) factor_rule d ts ≡ Ok (filter.Literal (field.Text bytes), rest_of ts)
factor_quoted k d ts bytes e = at_next (expr_within (suc k) factor_rule d) (λ us. Ok (filter.Literal (field.Text bytes), rest_of us)) _ (λ q. cc) (λ at more. refl) ts e

pub factor_truth : (k d : ℕ) (ts : Tokens) (b : Bool) → next ts ≡ text.Truth b → expr_within (suc k) factor_rule d ts ≡ Ok (filter.Literal (field.Truth b), rest_of ts)
factor_truth k d ts b e = at_next (expr_within (suc k) factor_rule d) (λ us. Ok (filter.Literal (field.Truth b), rest_of us)) _ (λ q. cc) (λ at more. refl) ts e

pub factor_selector : (k d : ℕ) (ts : Tokens) (name : Bytes) → next ts ≡ text.Selector name → expr_within (suc k) factor_rule d ts ≡ Ok (filter.Selector name, rest_of ts)
factor_selector k d ts name e = at_next (expr_within (suc k) factor_rule d) (λ us. Ok (filter.Selector name, rest_of us)) _ (λ q. cc) (λ at more. refl) ts e

pub factor_list : (k d : ℕ) (ts : Tokens) → next ts ≡ text.OpenList → expr_within (suc k) factor_rule d ts ≡ list_at k (rest_of ts)
factor_list k d ts e = at_next (expr_within (suc k) factor_rule d) (λ us. list_at k (rest_of us)) _ (λ q. cc) (λ at more. refl) ts e
