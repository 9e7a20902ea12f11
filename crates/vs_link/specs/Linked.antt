-- How a member is joined at a layer: acceptance, and forced links. `most` is the bound on links there.
use Rattle.std.specs.Prelude.{◌≢◌, ◌<◌, ◌≤◌, ℕ, ◌==◌, Bool, ◌&&◌, cond, nat_lt, nat_eq, List, [], ◌∷◌, Some, None, fold, filter, length, All, MatchOption}
use Rattle.std.specs.List.{IsDistinct}
use Rattle.std.specs.declared.option.Option.{Option}
use Rattle.vs_graph.specs.Bodies.{Bodies, gap}
use Rattle.vs_link.specs.Picks.{farthest, nearest}
use Rattle.vs_graph.specs.Table.{Table, joined, displaced}

abbrev pub has_room : ℕ → Table → ℕ → Bool
has_room most t a = nat_lt (length (t a)) most

-- x takes the place of a neighbour of y, if there is one
abbrev pub displaced_by : Table → ℕ → ℕ → Option ℕ → Table
displaced_by t x y None = t
displaced_by t x y (Some w) = displaced t x y w

-- a neighbour of y gives way where it is farther than x and has another link
abbrev pub giving_way : Bodies → Table → ℕ → ℕ → Option ℕ → Option ℕ
giving_way bodies t x y None = None
giving_way bodies t x y (Some w) = cond (nat_lt (gap bodies y x) (gap bodies y w) && nat_lt 1 (length (t w))) (Some w) None

-- y takes x where it has room, or where its farthest neighbour gives way
abbrev pub accepted : Bodies → ℕ → ℕ → Table → ℕ → Table
accepted bodies most x t y = cond (has_room most t y) (joined t x y) (displaced_by t x y (giving_way bodies t x y (farthest bodies y (t y))))

-- x joins a neighbour of y that has room, or else takes the place of the farthest
abbrev pub forced_near : Bodies → Table → ℕ → ℕ → Option ℕ → Table
forced_near bodies t x y None = displaced_by t x y (farthest bodies y (t y))
forced_near bodies t x y (Some z) = joined t x z

-- x joins y, or else the first neighbour of y that has room, by distance to x, then name, or else takes the farthest one's place
abbrev pub forced_at : Bodies → ℕ → Table → ℕ → ℕ → Table
forced_at bodies most t x y = cond (has_room most t y) (joined t x y) (forced_near bodies t x y (nearest bodies x (filter (has_room most t) (t y))))

abbrev pub forced : Bodies → ℕ → Table → ℕ → Option ℕ → Table
forced bodies most t x None = t
forced bodies most t x (Some y) = forced_at bodies most t x y

-- the first of the chosen, or else the fallback
abbrev pub target : List ℕ → Option ℕ → Option ℕ
target [] fallback = fallback
target (y ∷ ys) fallback = Some y

abbrev pub offered : Bodies → ℕ → Table → ℕ → List ℕ → Table
offered bodies most t x chosen = fold (accepted bodies most x) t chosen

-- each of the chosen in order, and where nobody accepted, a forced link
abbrev pub linked : Bodies → ℕ → Table → ℕ → List ℕ → Option ℕ → Table
linked bodies most t x chosen fallback =
    let after = offered bodies most t x chosen in
    cond (length (after x) == 0) (forced bodies most after x (target chosen fallback)) after

-- whom x may be joined to: different members, others than x, that have the layer
pub record AreChosen (layers : ℕ → ℕ) (layer most x : ℕ) (chosen : List ℕ) : Type 0 where
  pub stand : All (λ y. (layer < layers y) × (y ≢ x)) chosen
  pub once : IsDistinct nat_eq chosen
  pub few : length chosen ≤ most

-- of whom x may be joined to by force: none exactly where no other has the layer
abbrev pub IsFallback : (ℕ → ℕ) → ℕ → ℕ → Option ℕ → Type 0
IsFallback layers layer x fallback = MatchOption fallback ((y : ℕ) → y ≢ x → layer < layers y → ⊥) (λ y. (layer < layers y) × (y ≢ x))
