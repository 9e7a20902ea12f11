-- The neighbour that is picked: the farthest, and the nearest; of equal distances by name.
use Rattle.std.specs.Prelude.{ℕ, List, cond, Some, None, fold}
use Rattle.std.specs.Ordering.{is_gt, is_lt}
use Rattle.std.specs.declared.option.Option.{Option}
use Rattle.vs_graph.specs.Bodies.{Bodies, nearness}

-- of two, the later in the order by nearness to y
abbrev pub later : Bodies → ℕ → Option ℕ → ℕ → Option ℕ
later bodies y None z = Some z
later bodies y (Some w) z = cond (is_gt (nearness bodies y z w)) (Some z) (Some w)

-- the farthest from y, of equal distances the one of greatest name
abbrev pub farthest : Bodies → ℕ → List ℕ → Option ℕ
farthest bodies y ids = fold (later bodies y) None ids

-- of two, the earlier one
abbrev pub earlier : Bodies → ℕ → Option ℕ → ℕ → Option ℕ
earlier bodies x None z = Some z
earlier bodies x (Some w) z = cond (is_lt (nearness bodies x z w)) (Some z) (Some w)

-- the nearest to x, of equal distances the one of least name
abbrev pub nearest : Bodies → ℕ → List ℕ → Option ℕ
nearest bodies x ids = fold (earlier bodies x) None ids
