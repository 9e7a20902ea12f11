-- Keys in order, and the least few of them.
--     key_cmp, key_lt         the order: by distance, then by id
--     with_key keys key       keys in order, with one more
--     sorted_keys keys        the keys in order
--     Least, Queue            what is seen of a `Best` and of a `Frontier`
--     is_beyond least key     whether every place is taken by a lesser key
--     unpacked number         the key of a number that holds its distance in the upper half, its id in the lower
--     TopIsReplaced           the greatest of some numbers gave way to another
use Rattle.std.specs.Prelude.{◌≡◌, ℕ, ◌/◌, ◌%◌, ◌≤◌, ◌<◌, ◌-◌, Bool, false, List, ◌∷◌, Option, length, slice_get, slice_index_or, nat_le, nat_lt, ◌||◌, ◌&&◌, ◌==◌, IsPermutation}
use Rattle.std.specs.Option.{option_map_or}
use Rattle.std.specs.Ordering.{nat_cmp, ordering_then}
use Rattle.std.specs.declared.cmp.Ordering.{Ordering}
use Rattle.std.specs.BinaryHeap.{IsHeap, IsUpperBound}
use Rattle.vs_defs.specs.Bytes.{place_by, sort_by}
use Rattle.vs_rank.specs.declared.Key.{Key}

abbrev pub key_cmp : Key → Key → Ordering
key_cmp x y = ordering_then (nat_cmp x.dist y.dist) (nat_cmp x.id y.id)

abbrev pub key_lt : Key → Key → Bool
key_lt x y = nat_lt x.dist y.dist || (x.dist == y.dist && nat_lt x.id y.id)

-- the greater number first
abbrev pub reverse_cmp : ℕ → ℕ → Ordering
reverse_cmp x y = nat_cmp y x

abbrev pub with_key : List Key → Key → List Key
with_key keys key = place_by key_cmp key keys

abbrev pub sorted_keys : List Key → List Key
sorted_keys keys = sort_by key_cmp keys

-- the least of the keys that were offered, in order, of which `most` are kept, and the room that is made
pub record Least : Type 0 where
  pub most : ℕ
  pub keys : List Key
  pub spare : ℕ

abbrev pub worst_of : List Key → Option Key
worst_of keys = slice_get keys (length keys - 1)

abbrev pub is_beyond : Least → Key → Bool
is_beyond least key = nat_le least.most (length least.keys) && option_map_or (λ last. key_lt last key) (worst_of least.keys) false

-- keys in any order, and the room that is made
pub record Queue : Type 0 where
  pub keys : List Key
  pub spare : ℕ

-- no key is less than one before it
abbrev pub Ascends : List Key → Type 0
Ascends keys = (i j : ℕ) (d : Key) → i ≤ j → j < length keys → key_lt (slice_index_or keys j d) (slice_index_or keys i d) ≡ false

-- a key in one number, which the distance leads
abbrev pub unpacked : ℕ → Key
unpacked number = record { dist = number / 4294967296; id = number % 4294967296 }

-- a heap of numbers had a greatest on top, and has another number in its place
pub record TopIsReplaced (old new : List ℕ) (item : ℕ) : Type 0 where
  pub top : ℕ
  pub rest : List ℕ
  pub was : IsPermutation old (top ∷ rest)
  pub greatest : IsHeap nat_cmp old → IsUpperBound nat_cmp top old
  pub is : IsPermutation (item ∷ rest) new
