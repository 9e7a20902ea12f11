use Rattle.std.proofs.Common.{◌==◌, ◌<◌, ◌+◌, ℕ, arith, ap, ◌∙◌, refl, vec_len}
use Rattle.vs_slot.proofs.Places.{none_marked, all_low}
use Rattle.std.proofs.lemmas.Bool.{both_ways, ne_eqb}
use Rattle.vs_slot.proofs.Slot.begin.Goals as goal
use Rattle.vs_slot.proofs.Slot.begin.Goals.{then-self-eq0, else-self-eq0}

pub returns-then-self-clause-empty : goal.returns-then-self-clause-empty
returns-then-self-clause-empty c =
    none_marked (λ mark. mark == 1) c.clear.new.marks.items (λ k h. ap (λ (n : ℕ). n == 1) (c.clear.ensures.zero k))

pub returns-else-self-clause-empty : goal.returns-else-self-clause-empty
returns-else-self-clause-empty c =
    let some : 0 < c.self.inside.epoch = elim c.if-self-eq0.branch [ then-self-eq0 w ↦ absurd (both_ways _ c.if-self.false (w.value-is ∙ ap (λ (n : ℕ). n == 0) w.if-self-eq0.true)) | else-self-eq0 w ↦ omega (arith, w.if-self-eq0.false) ] in
    none_marked (λ mark. mark == c.self.inside.epoch + 1) c.resize.new.self.items (λ k h.
    let low = all_low c.self.inside.marks.items c.resize.new.self.items c.self.inside.epoch (vec_len c.self.inside.marks) c.max-length.result
    (c.self.invariant some) c.in_ok-resize.ensures.by_index.0 (λ j d. c.in_ok-resize.ensures.by_index.1 j d refl) k (omega (arith, c.in_ok-resize.ensures.len, c.resize.new.self.ok.0)) in
    ne_eqb _ _ (λ e. omega (arith, low, e)))
