-- Of two passes that have met, both lists begin what both have seen.
use Rattle.std.proofs.Common.{◌≡◌, ◌⊎◌, inl, inr, sym, subst}
use Rattle.vs_defs.specs.History.{IsPrefix}
use Rattle.vs_thread_defs.specs.Machine.{GraphHistory}
use Rattle.vs_history.proofs.Beginnings.{prefix_self}
use Rattle.vs_pass.specs.Knower.{Meets}

pub first_begins : (one other both : GraphHistory) → Meets one other both → IsPrefix one both
first_begins one other both (inl m) = subst (IsPrefix one) (sym m.1) m.0
first_begins one other both (inr m) = subst (IsPrefix one) (sym m.1) (prefix_self one)

pub second_begins : (one other both : GraphHistory) → Meets one other both → IsPrefix other both
second_begins one other both (inl m) = subst (IsPrefix other) (sym m.1) (prefix_self other)
second_begins one other both (inr m) = subst (IsPrefix other) (sym m.1) m.0
