use Rattle.std.proofs.Common.{subst, sym, arith, []}
use Rattle.vs_order.specs.Entries.{ids_of}
use Rattle.vs_order.specs.Ids.{AreSplit}
use Rattle.vs_order.proofs.FreeIds.{split_empty}
use Rattle.vs_order.proofs.names.Names.new.Goals as goal

pub invariant_of-result : goal.invariant_of-result
invariant_of-result c = (
  subst (λ es. AreSplit (ids_of es) c.new-2.result.items 0) (sym c.new.ensures.empty)
      (subst (λ free. AreSplit [] free 0) (sym c.new-2.ensures.items) split_empty),
  omega arith,
)
