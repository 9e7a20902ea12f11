-- Components of a vector, which are texts.
--     plus_in text             whether it is a numeral greater than zero
--     IsFirstBad texts place   the first of the texts that is no numeral is at this place
--     Refuses error texts      the texts are refused by this error
use Rattle.std.specs.Prelude.{◌≡◌, ℕ, ◌<◌, Bool, false, List, Option, Some, None, length}
use Rattle.std.specs.List.{prefix_len}
use Rattle.vs_defs.specs.Bytes.{Bytes}
use Rattle.vs_defs.specs.Numeral.{Sign, sign_of, bit_of, is_numeral}
use Rattle.vs_bits.specs.declared.components.ComponentsError.{ComponentsError}
use Rattle.vs_bits.specs.declared.components.ComponentsError.TheVariants.{NoMemory, BadComponent}

abbrev pub bit_when : Option Sign → Bool
bit_when None = false
bit_when (Some sign) = bit_of sign

abbrev pub plus_in : Bytes → Bool
plus_in text = bit_when (sign_of text)

abbrev pub IsFirstBad : List Bytes → ℕ → Type 0
IsFirstBad texts place = (prefix_len is_numeral texts ≡ place) × (place < length texts)

abbrev pub Refuses : ComponentsError → List Bytes → Type 0
Refuses NoMemory texts = Unit {0}
Refuses (BadComponent place) texts = IsFirstBad texts place
