use Rattle.std.proofs.Common.{◌≡◌, ◌<◌, ℕ, [], false, get_or}
use Rattle.std.specs.Map.{keys_of}
use Rattle.vs_defs.specs.Bytes.{same_name}
use Rattle.vs_order.proofs.order.Order.place_of_name.Given as goal

-- no member before this place has the name
abbrev pub invariant-loop-place : goal.invariant-loop-place
invariant-loop-place l = (k : ℕ) → k < l.place → same_name l.name (get_or (keys_of l.self) k []) ≡ false
