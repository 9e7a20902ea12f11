-- A number of the program, or a failure, as a value of the definitions.
use Rattle.std.specs.Prelude.{ℤ, Option, option_map}
use Rattle.vs_defs.specs.AttributeField as field
use Rattle.vs_defs.specs.AttributeField.{Field}

abbrev pub number_seen : Option ℤ → Option Field
number_seen o = option_map (λ n. field.One (field.Number n)) o
