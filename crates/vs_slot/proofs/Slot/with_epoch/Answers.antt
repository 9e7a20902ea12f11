use Rattle.std.proofs.Common.{◌≡◌, ◌==◌, get_or, arith, refl}
use Rattle.vs_slot.proofs.Places.{none_marked}
use Rattle.std.proofs.lemmas.Bool.{ne_eqb}
use Rattle.vs_slot.proofs.Slot.with_epoch.Goals as goal
use Rattle.vs_slot.proofs.Slot.with_epoch.Goals.{then-epoch-eq0, else-epoch-eq0}

pub returns-clause-empty : goal.returns-clause-empty
returns-clause-empty c =
    none_marked (λ mark. mark == c.args.epoch) c.resize.new.self.items (λ k h.
    let filled : get_or c.resize.new.self.items k 0 ≡ c.if-epoch-eq0.unmarked = c.in_ok-resize.ensures.by_index.1 k 0 refl (omega (arith, c.new-marks.ensures.len)) (omega (arith, c.in_ok-resize.ensures.len, c.resize.new.self.ok.0)) in
    elim c.if-epoch-eq0.branch [ then-epoch-eq0 w ↦ ne_eqb _ _ (λ e. omega arith) | else-epoch-eq0 w ↦ ne_eqb _ _ (λ e. w.if-epoch-eq0.false (omega arith)) ])
