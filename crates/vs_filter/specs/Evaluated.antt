-- What a list of instructions makes of a stack of values, at an attribute's text. None is a failure.
use Rattle.std.specs.Prelude.{◌≡◌, ◌<◌, List, [], ◌∷◌, map, length, Option, Some, None, option_map, option_and_then}
use Rattle.vs_defs.specs.Bytes.{Bytes}
use Rattle.vs_defs.specs.AttributeField.{Field, One, Listed, field_of}
use Rattle.vs_defs.specs.Filter as filter
use Rattle.vs_defs.specs.Filter.{of_values, not_of, negative_of, with_kind}
use Rattle.vs_filter.specs.declared.code.Instruction.{Instruction}
use Rattle.vs_filter.specs.declared.code.Instruction.TheVariants as code
use Rattle.vs_filter.specs.declared.evaluate.Turn.{Turn}
use Rattle.vs_filter.specs.declared.evaluate.Turn.TheVariants.{Done, Join}
use Rattle.vs_filter.specs.Seen.{operator_seen}
use Rattle.vs_filter.specs.Code.{single_seen}
use Rattle.vs_filter.specs.Values.{value_seen}

-- what an instruction puts on top by itself
abbrev pub operand_of : Bytes → Instruction → Option Field
operand_of text (code.Literal a) = with_kind (One (single_seen a))
operand_of text (code.Selector name) = option_and_then with_kind (field_of text name)
operand_of text (code.Items items) = Some (Listed (map single_seen items))
operand_of text code.Not = None
operand_of text code.Negative = None
operand_of text (code.Binary op) = None

abbrev pub above : List Field → Option Field → Option (List Field)
above vs o = option_map (λ v. v ∷ vs) o

abbrev pub on_top : (Field → Option Field) → List Field → Option (List Field)
on_top f [] = None
on_top f (v ∷ vs) = above vs (f v)

-- an operator with its right value, on the values below
abbrev pub applied : filter.Operator → Field → List Field → Option (List Field)
applied op right [] = None
applied op right (v ∷ vs) = above vs (of_values op v right)

abbrev pub joined_on : filter.Operator → List Field → Option (List Field)
joined_on op [] = None
joined_on op (v ∷ vs) = applied op v vs

abbrev pub step_on : Bytes → Instruction → List Field → Option (List Field)
step_on text (code.Literal a) vs = above vs (with_kind (One (single_seen a)))
step_on text (code.Selector name) vs = above vs (option_and_then with_kind (field_of text name))
step_on text (code.Items items) vs = above vs (Some (Listed (map single_seen items)))
step_on text code.Not vs = on_top not_of vs
step_on text code.Negative vs = on_top negative_of vs
step_on text (code.Binary op) vs = joined_on (operator_seen op) vs

abbrev pub exec : Bytes → List Instruction → List Field → Option (List Field)
exec text [] vs = Some vs
exec text (i ∷ is) vs = option_and_then (exec text is) (step_on text i vs)

abbrev pub only_value : Option (List Field) → Option Field
only_value None = None
only_value (Some []) = None
only_value (Some (v ∷ [])) = Some v
only_value (Some (v ∷ w ∷ vs)) = None

-- where the instructions after a value end, whatever stands below it
abbrev pub IsTurn : Bytes → List Instruction → Field → Option Turn → Type 0
IsTurn text is top None = (below : List Field) → only_value (exec text is (top ∷ below)) ≡ None
IsTurn text is top (Some (Done v)) = (below : List Field) → exec text is (top ∷ below) ≡ Some (value_seen v ∷ below)
IsTurn text is top (Some (Join op right rest)) =
    (length rest.now < length is) × ((below : List Field) → exec text is (top ∷ below) ≡ option_and_then (exec text rest.now) (applied (operator_seen op) (value_seen right) below))
