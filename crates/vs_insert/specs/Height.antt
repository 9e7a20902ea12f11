-- Which member stands highest.
use Rattle.std.specs.Prelude.{◌≡◌, ◌≢◌, ◌<◌, ℕ, false, None, IsSomeAnd, IfSome, MatchOption}
use Rattle.std.specs.Ordering.{nat_cmp, ordering_then, is_gt}
use Rattle.std.specs.declared.option.Option.{Option}
use Rattle.std.specs.declared.cmp.Ordering.{Ordering}
use Rattle.vs_defs.specs.Bytes.{name_cmp}
use Rattle.vs_graph.specs.declared.node.Node.{Node}

-- by level from the greatest down, then name
abbrev pub height : Node → Node → Ordering
height one other = ordering_then (nat_cmp other.level one.level) (name_cmp one.body.name other.body.name)

-- the highest of the live ids below a number, one of them left out
abbrev pub IsHighestBelow : (ℕ → Option Node) → ℕ → ℕ → Option ℕ → Type 0
IsHighestBelow at but count best =
    MatchOption best ((q : ℕ) → q < count → q ≢ but → at q ≡ None)
    (λ b. (b ≢ but) × IsSomeAnd (at b) (λ n. (q : ℕ) → q < count → q ≢ but → IfSome (at q) (λ k. is_gt (height n k) ≡ false)))
