use Rattle.std.proofs.Common.{◌+◌, sym, subst}
use Rattle.vs_set.specs.Listed.{IsRowOf}
use Rattle.vs_set.proofs.FirstRows.{AreFirst, one_more}
use Rattle.vs_set.proofs.Standing.{within_get}
use Rattle.vs_set.proofs.snap.Snap.rows.Goals as goal

pub loop-place-preserved : goal.loop-place-preserved
loop-place-preserved g c =
    let x = c.args.self.now.contents in
    let row = c.in_ok-row.field-0 in
    let place = c.loop-place.place in
    subst (λ rows. AreFirst x.dim rows x.members (place + 1)) (sym c.in_ok-push.ensures.ok)
    (one_more x.dim c.loop-place.rows x.members place c.loop-place.invariant row (within_get x.members place (IsRowOf x.dim row) c.in_ok-row.ensures) c.in_ok-row.ensures)
