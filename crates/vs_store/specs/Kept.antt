-- What holds of a store that is kept.
--     AreUsual limits             each limit is at least 1 and at most the usual one
--     IsKept store members        every set is good, the members of all sets are counted, and the limits aren't passed
use Rattle.std.specs.Prelude.{◌≡◌, ◌≤◌, ℕ, All, length, sum_by}
use Rattle.vs_defs.specs.Bounds.{IsFrom}
use Rattle.vs_defs.specs.Store.{Store, Set, Limits, usual_limits}
use Rattle.vs_defs.specs.Good.{GoodStore}
use Rattle.vs_set.specs.Kept.{IsSound}

pub record AreUsual (l : Limits) : Type 0 where
  pub set : IsFrom 1 usual_limits.set l.set
  pub keys : IsFrom 1 usual_limits.keys l.keys
  pub all : IsFrom 1 usual_limits.all l.all
  pub changes : IsFrom 1 usual_limits.changes l.changes

pub record IsKept (s : Store Set) (members : ℕ) : Type 0 where
  pub limits : AreUsual s.limits
  pub good : GoodStore s
  pub sound : All (λ e. IsSound e.1) s.sets
  pub counted : members ≡ sum_by (λ e. length e.1.contents.members) s.sets
  pub all_within : members ≤ s.limits.all
  pub keys_within : length s.sets ≤ s.limits.keys
  pub set_within : All (λ e. length e.1.contents.members ≤ s.limits.set) s.sets
  pub changes_within : s.changes ≤ s.limits.changes
