-- What the values of an evaluation stand for, and the definitions' operators on all values alike.
use Rattle.std.specs.Prelude.{Bool, List, map, Option, None, option_map, option_and_then, ℤ}
use Rattle.vs_defs.specs.Bytes.{Bytes}
use Rattle.vs_defs.specs.AttributeField as field
use Rattle.vs_defs.specs.AttributeField.{Single, Field, One, Listed}
use Rattle.vs_defs.specs.Filter.{truth_in, number_in, are_equal, is_less, is_among}
use Rattle.vs_filter.specs.declared.chars.Chars.{Chars}
use Rattle.vs_filter.specs.declared.chars.Chars.TheVariants as chars
use Rattle.vs_filter.specs.declared.items.Items.{Items}
use Rattle.vs_filter.specs.declared.items.Items.TheVariants as items
use Rattle.vs_filter.specs.declared.value.Value.{Value}
use Rattle.vs_filter.specs.declared.value.Value.TheVariants as value
use Rattle.vs_filter.specs.Code.{single_seen}

abbrev pub chars_seen : Chars → Bytes
chars_seen (chars.Plain bytes) = bytes.now
chars_seen (chars.Json text) = text

abbrev pub items_seen : Items → List Single
items_seen (items.Plain literals) = map single_seen literals.now
items_seen (items.Json list) = list

abbrev pub value_seen : Value → Field
value_seen (value.Number n) = One (field.Number n)
value_seen (value.Text text) = One (field.Text (chars_seen text))
value_seen (value.Truth b) = One (field.Truth b)
value_seen (value.List all) = Listed (items_seen all)
value_seen value.NoKind = One field.NoKind

-- ---- a list has no truth and no number, and is equal to nothing

abbrev pub truth_of : Field → Option Bool
truth_of (One a) = truth_in a
truth_of (Listed items) = None

abbrev pub number_of : Field → Option ℤ
number_of (One a) = number_in a
number_of (Listed items) = None

abbrev pub equal_of : Field → Field → Option Bool
equal_of (One a) (One b) = are_equal a b
equal_of (One a) (Listed items) = None
equal_of (Listed items) b = None

abbrev pub less_of : Field → Field → Option Bool
less_of (One a) (One b) = is_less a b
less_of (One a) (Listed items) = None
less_of (Listed items) b = None

-- a list stands only on the right of `in`
abbrev pub among_of : Field → Field → Option Field
among_of (One a) (One b) = None
among_of (One a) (Listed items) = is_among a items
among_of (Listed items) b = None

abbrev pub truths_of : Field → Field → Option (Bool × Bool)
truths_of f g = option_and_then (λ p. option_map (λ q. (p, q)) (truth_of g)) (truth_of f)

abbrev pub numbers_of : Field → Field → Option (ℤ × ℤ)
numbers_of f g = option_and_then (λ m. option_map (λ n. (m, n)) (number_of g)) (number_of f)
