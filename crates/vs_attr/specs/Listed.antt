-- What a list stands for: the items that are left of an array in an object.
use Rattle.std.specs.Prelude.{List, [], Option, Some, None, option_map, option_and_then, IsSome, unwrap_or}
use Rattle.vs_defs.specs.Bytes.{Bytes}
use Rattle.vs_defs.specs.Json.{Items, mark_at}
use Rattle.vs_defs.specs.AttributeField.{Single, singles_of}
use Rattle.vs_attr.specs.Reading.{items_at, value_at, value_of, rest_of, item_depth}

abbrev pub items_from : Bytes → Option Items
items_from text = value_of (items_at item_depth text)

-- from the next item on, if there is one
abbrev pub items_left : Option Bytes → List Single
items_left None = []
items_left (Some text) = unwrap_or (option_map singles_of (items_from text)) []

abbrev pub AreItems : Option Bytes → Type 0
AreItems None = Unit {0}
AreItems (Some text) = IsSome (items_from text)

-- behind an array's bracket
abbrev pub begun : Bytes → Option Bytes → Option Bytes
begun inside None = Some inside
begun inside (Some rest) = None

abbrev pub items_inside : Bytes → List Single
items_inside inside = items_left (begun inside (mark_at 93 inside))

abbrev pub IsArrayInside : Bytes → Type 0
IsArrayInside inside = AreItems (begun inside (mark_at 93 inside))

-- from the item behind the first on
abbrev pub item_next : Bytes → Option Bytes
item_next text = option_and_then (mark_at 44) (rest_of (value_at item_depth text))
