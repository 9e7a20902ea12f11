-- Members in their order, each by its name and its id.
--     Entries                     names with ids
--     ids_of entries              the ids in the members' order
--     place_of, id_of             the place of a name, and its id
--     is_taken id entries         whether it is the id of one of them
--     place_of_id, name_at        the place of an id, and the name at a place
--     without_place place entries      the last in the place of a removed one
--     Named                       what contracts see of names that are kept
use Rattle.std.specs.Prelude.{ℕ, Bool, List, [], map, nat_eq, position, swap_remove}
use Rattle.std.specs.List.{list_any, position_or_len, slice_index_or}
use Rattle.std.specs.Map.{keys_of, lookup}
use Rattle.std.specs.declared.option.Option.{Option}
use Rattle.vs_defs.specs.Bytes.{Bytes, same_name}

abbrev pub Entries : Type 0
Entries = List (Bytes × ℕ)

abbrev pub ids_of : Entries → List ℕ
ids_of entries = map (λ e. e.1) entries

abbrev pub place_of : Bytes → Entries → Option ℕ
place_of name entries = position (same_name name) (keys_of entries)

abbrev pub id_of : Bytes → Entries → Option ℕ
id_of name entries = lookup (same_name name) entries

abbrev pub is_taken : ℕ → Entries → Bool
is_taken id entries = list_any (nat_eq id) (ids_of entries)

abbrev pub place_of_id : ℕ → Entries → ℕ
place_of_id id entries = position_or_len (nat_eq id) (ids_of entries)

abbrev pub name_at : Entries → ℕ → Bytes
name_at entries place = slice_index_or (keys_of entries) place []

abbrev pub without_place : ℕ → Entries → Entries
without_place place entries = swap_remove entries place ([], 0)

-- the names with their ids, the id that the next one takes, and how many more take no memory
pub record Named : Type 0 where
  pub entries : Entries
  pub next : ℕ
  pub room : ℕ
