-- The items at the ids below a bound.
--     first at n      their list
--     IsFull at n     each of these ids has one
use Rattle.std.specs.Prelude.{◌<◌, ◌++◌, ℕ, zero, suc, List, [], IsSome, option_to_list}
use Rattle.std.specs.declared.option.Option.{Option}

abbrev pub first : {X : Type 0} → (ℕ → Option X) → ℕ → List X
first at zero = []
first at (suc n) = first at n ++ option_to_list (at n)

abbrev pub IsFull : {X : Type 0} → (ℕ → Option X) → ℕ → Type 0
IsFull at n = (k : ℕ) → k < n → IsSome (at k)
