-- Which candidates a new member is linked to, by ids. A candidate comes with its distance to the new member.
use Rattle.std.specs.Prelude.{ℕ, Bool, ◌&&◌, not, cond, nat_lt, List, [], ◌∷◌, ◌++◌, length}
use Rattle.std.specs.List.{list_any}
use Rattle.vs_rank.specs.declared.Key.{Key}
use Rattle.vs_graph.specs.Bodies.{Bodies, gap}

-- a chosen one is nearer to the candidate than the new member is
abbrev pub is_shadowed : Bodies → List ℕ → Key → Bool
is_shadowed bodies chosen key = list_any (λ s. nat_lt (gap bodies s key.id) key.dist) chosen

abbrev pub is_choice : Bodies → ℕ → List ℕ → Key → Bool
is_choice bodies m chosen key = nat_lt (length chosen) m && not (is_shadowed bodies chosen key)

-- those that are choices behind the chosen ones before them
abbrev pub selected_behind : Bodies → ℕ → List ℕ → List Key → List ℕ
selected_behind bodies m chosen [] = []
selected_behind bodies m chosen (key ∷ keys) =
    cond (is_choice bodies m chosen key) (key.id ∷ selected_behind bodies m (chosen ++ key.id ∷ []) keys) (selected_behind bodies m chosen keys)

abbrev pub selected : Bodies → ℕ → List Key → List ℕ
selected bodies m keys = selected_behind bodies m [] keys
