-- What instructions build when one more stands behind them.
use Rattle.std.proofs.Common.{◌≡◌, List, [], ◌∷◌, ◌++◌, Option, Some, None, option_and_then, refl, ap, ◌∙◌}
use Rattle.vs_defs.specs.Filter as filter
use Rattle.vs_defs.specs.Filter.{Expr}
use Rattle.vs_filter.specs.declared.operator.Operator.{Operator}
use Rattle.vs_filter.specs.declared.code.Instruction.{Instruction}
use Rattle.vs_filter.specs.declared.code.Instruction.TheVariants.{Binary}
use Rattle.vs_filter.specs.Seen.{operator_seen}
use Rattle.vs_filter.specs.Code.{step, wrapped, built, tree_of, Adds}

built_append : (before more : List Instruction) (es : List Expr) → built (before ++ more) es ≡ option_and_then (built more) (built before es)
built_append [] more es = refl
built_append (i ∷ before) more es = elim (step i es) as (λ o. option_and_then (built (before ++ more)) o ≡ option_and_then (built more) (option_and_then (built before) o)) [
  | None ↦ refl
  | Some fs ↦ built_append before more fs
]

last : (o : Option (List Expr)) → option_and_then (built []) o ≡ o
last None = refl
last (Some fs) = refl

one_more : (i : Instruction) (o : Option (List Expr)) → option_and_then (built (i ∷ [])) o ≡ option_and_then (step i) o
one_more i None = refl
one_more i (Some es) = last (step i es)

built_push : (before : List Instruction) (i : Instruction) (es fs : List Expr) → built before es ≡ Some fs → built (before ++ i ∷ []) es ≡ step i fs
built_push before i es fs e = built_append before (i ∷ []) es ∙ one_more i (built before es) ∙ ap (option_and_then (step i)) e

-- one that takes nothing
pub adds_operand : {before later : List Instruction} (i : Instruction) (e : Expr) → ((es : List Expr) → step i es ≡ Some (e ∷ es)) → later ≡ before ++ i ∷ [] → Adds before later e
adds_operand {before = before} i e s p = record { adds = λ es fs h. ap (λ code. built code es) p ∙ built_push before i es fs h ∙ s fs }

-- one that takes the expression on top
pub adds_wrapped : {before after later : List Instruction} {e : Expr} (i : Instruction) (f : Expr → Expr) → ((es : List Expr) → step i es ≡ wrapped f es) → later ≡ after ++ i ∷ [] → Adds before after e
    → Adds before later (f e)
adds_wrapped {after = after} {e = e} i f s p a = record { adds = λ es fs h. ap (λ code. built code es) p ∙ built_push after i es (e ∷ fs) (a.adds es fs h) ∙ s (e ∷ fs) }

-- one that takes the two on top
pub adds_joined : {before mid after later : List Instruction} {a b : Expr} (op : Operator) → later ≡ after ++ Binary op ∷ [] → Adds before mid a → Adds mid after b
    → Adds before later (filter.Binary (operator_seen op) a b)
adds_joined {after = after} {a = a} {b = b} op p q r =
    record { adds = λ es fs h. ap (λ code. built code es) p ∙ built_push after (Binary op) es (b ∷ a ∷ fs) (r.adds es (a ∷ fs) (q.adds es fs h)) }

pub tree_is : {code : List Instruction} {e : Expr} → Adds [] code e → tree_of code ≡ Some e
tree_is a = rw (a.adds [] [] refl) refl
