-- Seven members whose words lie one after another, for tests.
use Rattle.std.specs.Prelude.{ℕ, List, [], ◌∷◌, None, map, slice_index_or}
use Rattle.std.specs.List.{range_with_len, slice_index}
use Rattle.vs_defs.specs.Bytes.{Bytes}
use Rattle.vs_defs.specs.Words.{bits_of_words}
use Rattle.vs_defs.specs.Store.{Member}

abbrev pub lined_member : (names : List Bytes) (words : List ℕ) (place : ℕ) → Member
lined_member names words place = record { name = slice_index_or names place []; bits = bits_of_words 64 (slice_index words place ∷ []); attr = None; level = 0 }

abbrev pub lined_members : (names : List Bytes) (words : List ℕ) → List Member
lined_members names words = map (lined_member names words) (range_with_len 0 7)
