-- Ids below a bound, of a map and of what is changed over it.
use Rattle.std.proofs.Common.{◌<◌, ℕ, refl}
use Rattle.std.specs.Prelude.{Some, None, IsSome, unwrap_or}
use Rattle.std.specs.declared.option.Option.{Option}

pub below_both : {X : Type 0} (o : Option (Option X)) (base : Option X) (id e : ℕ) → (IsSome o → id < e) → (IsSome base → id < e) → IsSome (unwrap_or o base) → id < e
below_both None base id e h k some = k some
below_both (Some x) base id e h k some = h refl
