-- What a field stands for.
use Rattle.std.specs.Prelude.{◌-◌, ◌==◌, true, false, cond, [], ◌∷◌, length, take, IsSome, Option, Some, None, option_map, option_and_then, option_copied}
use Rattle.std.specs.Borrow.{Bor}
use Rattle.vs_defs.specs.Limits.{max_json_depth}
use Rattle.vs_defs.specs.Bytes.{Bytes}
use Rattle.vs_defs.specs.Json.{Json, Members, Front, skip_space, whole_value, after_number}
use Rattle.vs_defs.specs.Numeral.{is_empty}
use Rattle.vs_defs.specs.Decimal.{read_fixed}
use Rattle.vs_defs.specs.AttributeField as attribute
use Rattle.vs_attr.specs.declared.kind.Field.{Field}
use Rattle.vs_attr.specs.declared.kind.Field.TheVariants as field
use Rattle.vs_attr.specs.Reading.{value_at, value_of, string_at, member_depth}

abbrev pub field_seen : Field → attribute.Field
field_seen (field.Number billionths) = attribute.One (attribute.Number billionths)
field_seen (field.Text bytes) = attribute.One (attribute.Text bytes)
field_seen (field.Truth b) = attribute.One (attribute.Truth b)
field_seen (field.List items) = attribute.Listed items
field_seen field.NoKind = attribute.One attribute.NoKind

-- the kind of a value, past white space, by the byte that it begins with: 34 is `"`, 91 and 123 are `[` and `{`, 110, 116 and 102 are
-- the first of `null`, `true` and `false`; an array has no kind
abbrev pub number_single : Bytes → attribute.Single
number_single text = attribute.number_field (option_and_then read_fixed (option_map (λ rest. take (length text - length rest) text) (after_number text)))

abbrev pub plain_single : Bytes → attribute.Single
plain_single [] = attribute.NoKind
plain_single (c ∷ cs) =
    cond (c == 110) attribute.NoKind (cond (c == 116) (attribute.Truth true) (cond (c == 102) (attribute.Truth false) (number_single (c ∷ cs))))

abbrev pub single_from : Bytes → attribute.Single
single_from [] = attribute.NoKind
single_from (c ∷ cs) =
    cond (c == 34) (attribute.text_field (string_at cs)) (cond (c == 91) attribute.NoKind (cond (c == 123) attribute.NoKind (plain_single (c ∷ cs))))

-- the value of a member, from where it begins
abbrev pub found_value : Option Bytes → Option Json
found_value found = option_and_then (λ text. value_of (value_at member_depth text)) found

abbrev pub IsReadable : Option Bytes → Type 0
IsReadable None = Unit {0}
IsReadable (Some text) = IsSome (value_of (value_at member_depth text))

-- of the members that were read, the value of the last of this name, or else what was found before, and what follows them
abbrev pub named_in : Bytes → Option Json → Front Members → Option (Option Json × Bytes)
named_in name found r = option_map (λ q. (attribute.last_named name found q.0, q.1)) r

abbrev pub found_seen : Option (Option (Bor Bytes) × Bor Bytes) → Option (Option Json × Bytes)
found_seen r = option_map (λ p. (found_value (option_copied p.0), p.1.now)) r

-- the value that was found, where nothing but white space follows
abbrev pub found_whole : Option (Option Json × Bytes) → Option Json
found_whole r = option_and_then (λ p. cond (is_empty (skip_space p.1)) p.0 None) r

-- the value of the last member of this name in the object that a whole text is
abbrev pub member_found : Bytes → Bytes → Option Json
member_found name text = option_and_then (λ j. attribute.member_value name j) (whole_value (value_at max_json_depth text))
