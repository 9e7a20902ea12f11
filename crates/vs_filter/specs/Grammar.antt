-- The grammar of filters, rule by rule, over the tokens of a text. `R .. s r` says that the tokens s begin with what the rule derives, and
-- that r follows it; so a sequence of rules is a chain of tokens. A token stands with its offset, at which no rule looks. The rules name
-- what they derive. The number d is how many more parentheses, negations and minus signs may be open.
--     Derived tokens e     the tokens are a filter, of this expression
use Rattle.std.specs.Prelude.{◌≡◌, ℕ, suc, Bool, true, false, List, [], ◌∷◌, Ok}
use Rattle.vs_defs.specs.Bytes.{Bytes}
use Rattle.vs_defs.specs.AttributeField as field
use Rattle.vs_defs.specs.AttributeField.{Single}
use Rattle.vs_defs.specs.Filter as filter
use Rattle.vs_defs.specs.Filter.{Operator, Expr}
use Rattle.vs_defs.specs.FilterText as text
use Rattle.vs_defs.specs.FilterText.{Tokens, Rule, or_rule, and_rule, not_rule, comparison_rule, sum_rule, term_rule, factor_rule, tighter, rule_of, tokens_of, filter_of, next}

-- an operator of a rule; the sign `-` is one of sums
pub data Between : Rule → Operator → Tokens → Tokens → Type 0 where
  operator : {r : Tokens} (rule : Rule) (at : ℕ) (op : Operator) → rule_of op ≡ rule → Between rule op ((at, text.Between op) ∷ r) r
  minus : {r : Tokens} (at : ℕ) → Between sum_rule filter.Subtract ((at, text.Minus) ∷ r) r

-- literal = numeral / "-" numeral / text / "true" / "false"
pub data Literal : Single → Tokens → Tokens → Type 0 where
  numeral_literal : {r : Tokens} (at : ℕ) (n : Bytes) → Literal (text.numeral n) ((at, text.Numeral n) ∷ r) r
  negative_literal : {r : Tokens} (at at' : ℕ) (n : Bytes) → Literal (text.negative_numeral n) ((at, text.Minus) ∷ (at', text.Numeral n) ∷ r) r
  text_literal : {r : Tokens} (at : ℕ) (bytes : Bytes) → Literal (field.Text bytes) ((at, text.Quoted bytes) ∷ r) r
  truth_literal : {r : Tokens} (at : ℕ) (b : Bool) → Literal (field.Truth b) ((at, text.Truth b) ∷ r) r

-- literal *( "," literal )
pub data Literals : List Single → Tokens → Tokens → Type 0 where
  last : {a : Single} {s r : Tokens} → Literal a s r → Literals (a ∷ []) s r
  more : {a : Single} {items : List Single} {s t r : Tokens} (at : ℕ) → Literal a s ((at, text.Comma) ∷ t) → Literals items t r → Literals (a ∷ items) s r

-- the rules whose operators join any number of the tighter rule's expressions
abbrev pub joins : Rule → Bool
joins or_rule = true
joins and_rule = true
joins sum_rule = true
joins term_rule = true
joins rule = false

mutual
  pub data Spells : Rule → ℕ → Expr → Tokens → Tokens → Type 0 where
    -- or = and *( operator and ), and = not *( operator not ), sum = term *( operator term ), term = factor *( operator factor )
    chain : {rule : Rule} {d : ℕ} {e : Expr} {s r : Tokens} → joins rule ≡ true → Joined rule d e s r → Spells rule d e s r
    -- not = ( "not" / "!" ) not / comparison
    negation : {d : ℕ} {e : Expr} {s r : Tokens} (at : ℕ) → Spells not_rule d e s r → Spells not_rule (suc d) (filter.Not e) ((at, text.Not) ∷ s) r
    plain : {d : ℕ} {e : Expr} {s r : Tokens} → Spells comparison_rule d e s r → Spells not_rule d e s r
    -- comparison = sum [ operator sum ]
    alone : {d : ℕ} {e : Expr} {s r : Tokens} → Spells sum_rule d e s r → Spells comparison_rule d e s r
    compared : {d : ℕ} {op : Operator} {e f : Expr} {s t u r : Tokens} → Spells sum_rule d e s t → Between comparison_rule op t u → Spells sum_rule d f u r → Spells comparison_rule d (filter.Binary op e f) s r
    -- factor = numeral / text / "true" / "false" / selector / list / "(" or ")" / "-" factor
    numeral : {d : ℕ} {r : Tokens} (at : ℕ) (n : Bytes) → Spells factor_rule d (filter.Literal (text.numeral n)) ((at, text.Numeral n) ∷ r) r
    quoted : {d : ℕ} {r : Tokens} (at : ℕ) (bytes : Bytes) → Spells factor_rule d (filter.Literal (field.Text bytes)) ((at, text.Quoted bytes) ∷ r) r
    truth : {d : ℕ} {r : Tokens} (at : ℕ) (b : Bool) → Spells factor_rule d (filter.Literal (field.Truth b)) ((at, text.Truth b) ∷ r) r
    selector : {d : ℕ} {r : Tokens} (at : ℕ) (name : Bytes) → Spells factor_rule d (filter.Selector name) ((at, text.Selector name) ∷ r) r
    -- list = "[" [ literal *( "," literal ) ] "]"
    no_items : {d : ℕ} {r : Tokens} (at at' : ℕ) → Spells factor_rule d (filter.Items []) ((at, text.OpenList) ∷ (at', text.CloseList) ∷ r) r
    items : {d : ℕ} {all : List Single} {s r : Tokens} (at at' : ℕ) → Literals all s ((at', text.CloseList) ∷ r) → Spells factor_rule d (filter.Items all) ((at, text.OpenList) ∷ s) r
    group : {d : ℕ} {e : Expr} {s r : Tokens} (at at' : ℕ) → Spells or_rule d e s ((at', text.Close) ∷ r) → Spells factor_rule (suc d) e ((at, text.Open) ∷ s) r
    negative : {d : ℕ} {e : Expr} {s r : Tokens} (at : ℕ) → Spells factor_rule d e s r → Spells factor_rule (suc d) (filter.Negative e) ((at, text.Minus) ∷ s) r

  -- joined from the left
  pub data Joined : Rule → ℕ → Expr → Tokens → Tokens → Type 0 where
    single : {rule : Rule} {d : ℕ} {e : Expr} {s r : Tokens} → Spells (tighter rule) d e s r → Joined rule d e s r
    joined : {rule : Rule} {d : ℕ} {op : Operator} {e f : Expr} {s t u r : Tokens} → Joined rule d e s t → Between rule op t u → Spells (tighter rule) d f u r → Joined rule d (filter.Binary op e f) s r

-- an or and the end, with no more than 64 open at once
pub record Derived (tokens : Tokens) (e : Expr) : Type 0 where
  pub rest : Tokens
  pub spelled : Spells or_rule 64 e tokens rest
  pub ended : next rest ≡ text.End

-- the definition's reader reads exactly what is derived
abbrev pub ReadsDerived : Type 0
ReadsDerived = (written : Bytes) (e : Expr) → (filter_of written ≡ Ok e → Derived (tokens_of written) e) × (Derived (tokens_of written) e → filter_of written ≡ Ok e)
