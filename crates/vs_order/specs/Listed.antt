-- The members of an order as they are kept.
--     entries_of members             their names with their ids
--     ArePlaces ids places           at the id of each, the places, a function from ids, have its place
use Rattle.std.specs.Prelude.{◌≡◌, ◌<◌, ℕ, List, Some, length, map}
use Rattle.std.specs.List.{slice_index_or}
use Rattle.std.specs.declared.option.Option.{Option}
use Rattle.vs_order.specs.declared.order.Listed.{Listed}
use Rattle.vs_order.specs.Entries.{Entries}

abbrev pub entries_of : List Listed → Entries
entries_of members = map (λ (x : Listed). (x.name, x.id)) members

abbrev pub ArePlaces : List ℕ → (ℕ → Option ℕ) → Type 0
ArePlaces ids places = (k d : ℕ) → k < length ids → places (slice_index_or ids k d) ≡ Some k
