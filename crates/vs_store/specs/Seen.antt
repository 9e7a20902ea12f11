-- The store and the limits that contracts see.
--     limits_seen limits                     the limits that a `Limits` stands for
--     store_seen entries changes limits      the store of the sets that are kept
use Rattle.std.specs.Prelude.{ℕ, List, map}
use Rattle.std.specs.Global.{Vec}
use Rattle.vs_defs.specs.Store as model
use Rattle.vs_store.specs.declared.limits.Limits.{Limits}

abbrev pub limits_seen : Limits → model.Limits
limits_seen l = record { set = l.set; keys = l.keys; all = l.all; changes = l.changes }

abbrev pub store_seen : List (Vec ℕ × model.Set) → ℕ → Limits → model.Store model.Set
store_seen entries changes limits = record { sets = map (λ e. (e.0.items, e.1)) entries; changes = changes; limits = limits_seen limits }
