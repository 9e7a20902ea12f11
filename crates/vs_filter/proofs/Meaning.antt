-- The instructions of an expression evaluate to the expression's value.
use Rattle.std.proofs.Common.{◌≡◌, ◌&&◌, List, [], ◌∷◌, Option, Some, None, Ok, option_map, option_and_then, refl, ap, sym, ◌∙◌, subst}
use Rattle.vs_defs.specs.Bytes.{Bytes}
use Rattle.vs_defs.specs.AttributeField.{Field, is_object}
use Rattle.vs_defs.specs.Filter as filter
use Rattle.vs_defs.specs.Filter.{Expr, value_of, of_values, is_pass}
use Rattle.vs_defs.specs.FilterText.{filter_of, passes_filter, passes_parsed}
use Rattle.vs_filter.specs.declared.code.Instruction.{Instruction}
use Rattle.vs_filter.specs.declared.code.Instruction.TheVariants as code
use Rattle.vs_filter.specs.Seen.{operator_seen}
use Rattle.vs_filter.specs.Code.{step, built, only, tree_of}
use Rattle.vs_filter.specs.Evaluated.{above, on_top, joined_on, step_on, exec, only_value}

-- the values of a stack of expressions, where none fails
abbrev values : Bytes → List Expr → Option (List Field)
values text [] = Some []
values text (e ∷ es) = option_and_then (λ vs. above vs (value_of e text)) (values text es)

-- the values are those of the expressions, where there are any
abbrev Stands : Bytes → Option (List Expr) → Option (List Field) → Type 0
Stands text None r = Unit {0}
Stands text (Some es) r = r ≡ values text es

wrapped_stands : (f : Field → Option Field) (o : Option (List Field)) (x : Option Field)
    → option_and_then (λ vs. on_top f vs) (option_and_then (λ vs. above vs x) o) ≡ option_and_then (λ vs. above vs (option_and_then f x)) o
wrapped_stands f None x = refl
wrapped_stands f (Some vs) None = refl
wrapped_stands f (Some vs) (Some v) = refl

joined_stands : (op : filter.Operator) (o : Option (List Field)) (x y : Option Field)
    → option_and_then (λ vs. joined_on op vs) (option_and_then (λ vs. above vs y) (option_and_then (λ vs. above vs x) o))
    ≡ option_and_then (λ vs. above vs (option_and_then (λ a. option_and_then (λ b. of_values op a b) y) x)) o
joined_stands op None x y = refl
joined_stands op (Some vs) None y = refl
joined_stands op (Some vs) (Some a) None = refl
joined_stands op (Some vs) (Some a) (Some b) = refl

step_stands : (text : Bytes) (i : Instruction) (es : List Expr) → Stands text (step i es) (option_and_then (step_on text i) (values text es))
step_stands text (code.Literal a) es = refl
step_stands text (code.Selector name) es = refl
step_stands text (code.Items items) es = refl
step_stands text code.Not [] = tt
step_stands text code.Not (e ∷ es) = wrapped_stands filter.not_of (values text es) (value_of e text)
step_stands text code.Negative [] = tt
step_stands text code.Negative (e ∷ es) = wrapped_stands filter.negative_of (values text es) (value_of e text)
step_stands text (code.Binary op) [] = tt
step_stands text (code.Binary op) (b ∷ []) = tt
step_stands text (code.Binary op) (b ∷ a ∷ es) = joined_stands (operator_seen op) (values text es) (value_of a text) (value_of b text)

all_done : (text : Bytes) (o : Option (List Field)) → option_and_then (exec text []) o ≡ o
all_done text None = refl
all_done text (Some vs) = refl

one_done : (text : Bytes) (i : Instruction) (is : List Instruction) (o : Option (List Field))
    → option_and_then (exec text (i ∷ is)) o ≡ option_and_then (exec text is) (option_and_then (step_on text i) o)
one_done text i is None = refl
one_done text i is (Some vs) = refl

built_stands : (text : Bytes) (is : List Instruction) (es : List Expr) → Stands text (built is es) (option_and_then (exec text is) (values text es))
built_stands text [] es = all_done text (values text es)
built_stands text (i ∷ is) es =
    let made = option_and_then (step_on text i) (values text es) in
    let rest = elim (step i es) as (λ p. Stands text p made → Stands text (option_and_then (built is) p) (option_and_then (exec text is) made)) [
      | None ↦ λ h. tt
      | Some fs ↦ λ h. subst (λ r. Stands text (built is fs) (option_and_then (exec text is) r)) (sym h) (built_stands text is fs)
    ] in
    subst (λ r. Stands text (option_and_then (built is) (step i es)) r) (sym (one_done text i is (values text es))) (rest (step_stands text i es))

one_value : (o : Option Field) → only_value (above [] o) ≡ o
one_value None = refl
one_value (Some v) = refl

only_stands : (text : Bytes) (p : Option (List Expr)) (r : Option (List Field)) (e : Expr) → Stands text p r → only p ≡ Some e → only_value r ≡ value_of e text
only_stands text None r e h o = cc
only_stands text (Some []) r e h o = cc
only_stands text (Some (f ∷ [])) r e h o =
    let same : f ≡ e = cc in
    ap only_value h ∙ one_value (value_of f text) ∙ ap (λ d. value_of d text) same
only_stands text (Some (f ∷ g ∷ es)) r e h o = cc

value_is : (text : Bytes) (is : List Instruction) (e : Expr) → tree_of is ≡ Some e → only_value (exec text is []) ≡ value_of e text
value_is text is e o = only_stands text (built is []) (exec text is []) e (built_stands text is []) o

-- what passes a filter, by its instructions
pub passes_by : (written : Bytes) (is : List Instruction) (attribute : Bytes) → Some (filter_of written) ≡ option_map (λ e. Ok e) (tree_of is)
    → (is_object attribute && is_pass (only_value (exec attribute is []))) ≡ passes_filter (Some written) (Some attribute)
passes_by written is attribute kept = by_tree (tree_of is) refl kept
  where
    by_tree : (o : Option Expr) → tree_of is ≡ o → Some (filter_of written) ≡ option_map (λ e. Ok e) o
        → (is_object attribute && is_pass (only_value (exec attribute is []))) ≡ passes_filter (Some written) (Some attribute)
    by_tree None t k = cc
    by_tree (Some e) t k =
        let parsed : filter_of written ≡ Ok e = cc in
        ap (λ v. is_object attribute && is_pass v) (value_is attribute is e t) ∙ sym (ap (λ r. passes_parsed r (Some attribute)) parsed)
