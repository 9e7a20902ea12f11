-- What a list of instructions builds: it takes expressions from the top of a stack, and puts theirs there.
use Rattle.std.specs.Prelude.{◌≡◌, List, [], ◌∷◌, map, Option, Some, None, option_and_then}
use Rattle.vs_defs.specs.AttributeField as field
use Rattle.vs_defs.specs.AttributeField.{Single}
use Rattle.vs_defs.specs.Filter as filter
use Rattle.vs_defs.specs.Filter.{Expr}
use Rattle.vs_filter.specs.declared.code.Literal.{Literal}
use Rattle.vs_filter.specs.declared.code.Literal.TheVariants.{Number, Text, Truth, NoKind}
use Rattle.vs_filter.specs.declared.code.Instruction.{Instruction}
use Rattle.vs_filter.specs.declared.code.Instruction.TheVariants as code
use Rattle.vs_filter.specs.Seen.{operator_seen}

abbrev pub single_seen : Literal → Single
single_seen (Number n) = field.Number n
single_seen (Text bytes) = field.Text bytes
single_seen (Truth b) = field.Truth b
single_seen NoKind = field.NoKind

abbrev pub joined : filter.Operator → List Expr → Option (List Expr)
joined op [] = None
joined op (b ∷ []) = None
joined op (b ∷ a ∷ es) = Some (filter.Binary op a b ∷ es)

abbrev pub wrapped : (Expr → Expr) → List Expr → Option (List Expr)
wrapped f [] = None
wrapped f (e ∷ es) = Some (f e ∷ es)

abbrev pub step : Instruction → List Expr → Option (List Expr)
step (code.Literal a) es = Some (filter.Literal (single_seen a) ∷ es)
step (code.Selector name) es = Some (filter.Selector name ∷ es)
step (code.Items items) es = Some (filter.Items (map single_seen items) ∷ es)
step code.Not es = wrapped filter.Not es
step code.Negative es = wrapped filter.Negative es
step (code.Binary op) es = joined (operator_seen op) es

abbrev pub built : List Instruction → List Expr → Option (List Expr)
built [] es = Some es
built (i ∷ is) es = option_and_then (built is) (step i es)

-- the one expression that is built from nothing
abbrev pub only : Option (List Expr) → Option Expr
only None = None
only (Some []) = None
only (Some (e ∷ [])) = Some e
only (Some (e ∷ f ∷ es)) = None

abbrev pub tree_of : List Instruction → Option Expr
tree_of code = only (built code [])

-- the later list does what the earlier does, and then puts the expression on top
pub record Adds (before after : List Instruction) (e : Expr) : Type 0 where
  pub adds : (es fs : List Expr) → built before es ≡ Some fs → built after es ≡ Some (e ∷ fs)
