-- What the scan has found, by distance, name and place.
use Rattle.std.specs.Prelude.{ℕ, ◌+◌, ◌*◌, ◌-◌, ◌&&◌, nat_le, nat_lt, Bool, false, cond, List, [], ◌∷◌, length, take, drop, slice_get, slice_range, map}
use Rattle.std.specs.Option.{option_map_or}
use Rattle.std.specs.Ordering.{nat_cmp, ordering_then}
use Rattle.std.specs.declared.cmp.Ordering.{Ordering}
use Rattle.vs_defs.specs.Vector.{Vector, ham}
use Rattle.vs_defs.specs.Bytes.{Bytes, name_cmp, sort_by}
use Rattle.vs_defs.specs.Store.{Member}
use Rattle.vs_rank.specs.Tests.{Attribute}
use Rattle.vs_truth.specs.declared.candidate.Hit.{Hit}
use Rattle.vs_truth.specs.declared.candidate.Candidate.{Candidate}

-- a member's distance, its name and its place
pub record Near : Type 0 where
  pub dist : ℕ
  pub name : Bytes
  pub place : ℕ

abbrev pub near_cmp : Near → Near → Ordering
near_cmp x y = ordering_then (nat_cmp x.dist y.dist) (ordering_then (name_cmp x.name y.name) (nat_cmp x.place y.place))

-- the first of those that were offered, in order, at most so many
pub record First : Type 0 where
  pub most : ℕ
  pub nears : List Near

-- every place is taken by one at a lesser distance
abbrev pub is_beyond : First → ℕ → Bool
is_beyond first dist = nat_le first.most (length first.nears) && option_map_or (λ last. nat_lt last.dist dist) (slice_get first.nears (length first.nears - 1)) false

abbrev pub near_of : Candidate → Near
near_of found = record { dist = found.dist; name = found.name.now; place = found.place }

abbrev pub candidate_cmp : Candidate → Candidate → Ordering
candidate_cmp x y = near_cmp (near_of x) (near_of y)

abbrev pub candidate_hit : Candidate → Hit
candidate_hit found = record { place = found.place; dist = found.dist }

abbrev pub near_hit : Near → Hit
near_hit near = record { place = near.place; dist = near.dist }

-- the members from a place on that pass, each with its place
abbrev pub placed_from : (Attribute → Bool) → ℕ → List Member → List (ℕ × Member)
placed_from passes place [] = []
placed_from passes place (x ∷ xs) =
    let rest = placed_from passes (place + 1) xs in
    cond (passes x.attr) ((place, x) ∷ rest) rest

abbrev pub near_at : Vector → ℕ × Member → Near
near_at q placed = record { dist = ham q placed.1.bits; name = placed.1.name; place = placed.0 }

abbrev pub nears_of : (Attribute → Bool) → Vector → List Member → List Near
nears_of passes q members = map (near_at q) (placed_from passes 0 members)

-- the first few, in order
abbrev pub firsts : ℕ → List Near → List Near
firsts most nears = take most (sort_by near_cmp nears)

-- the same of the places of a range
abbrev pub nears_between : (Attribute → Bool) → Vector → List Member → ℕ → ℕ → List Near
nears_between passes q members from to = map (near_at q) (placed_from passes from (slice_range members from to))

-- and of a piece: 4,096 places, fewer in the last
abbrev pub nears_of_piece : (Attribute → Bool) → Vector → List Member → ℕ → List Near
nears_of_piece passes q members piece = map (near_at q) (placed_from passes (piece * 4096) (take 4096 (drop (piece * 4096) members)))
