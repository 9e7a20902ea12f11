use Rattle.std.proofs.Common.{[], refl, sym, subst}
use Rattle.vs_page.specs.Told.{row_at}
use Rattle.vs_set.specs.Kept.{IsKept, KeepRows}
use Rattle.vs_set.proofs.Members.{named_empty}
use Rattle.vs_set.proofs.Telling.{rows_none}
use Rattle.vs_set.proofs.set.Set.create.Goals as goal

pub invariant_of-result : goal.invariant_of-result
invariant_of-result g c =
    let at = g.N.Nodes.at c.in_ok-nodes.nodes in (
      subst (λ r. IsKept (g.N.Nodes.at r.nodes) r.dim c.new.result.entries c.in_ok-new.field-0 0) (sym c.new-3.ensures)
          (subst (λ es. IsKept at c.args.dim es c.in_ok-new.field-0 0) (sym c.new.ensures)
          (subst (λ o. IsKept at c.args.dim [] o 0) (sym c.in_ok-new.ensures) (record { named = named_empty at c.in_ok-nodes.ensures; same = refl; counted = refl }))),
      subst (λ es. KeepRows (g.N.Nodes.at c.new-3.result.nodes) c.new-3.result.dim es c.in_ok-new-2.field-0) (sym c.new.ensures) (rows_none (row_at c.in_ok-new-2.field-0)),
    )
