use Rattle.std.proofs.Common.{◌<◌, length, sym, ap, ◌∙◌, subst, arith}
use Rattle.vs_defs.specs.Words.{FitsDimension}
use Rattle.vs_truth.specs.Nearest.{KeepsBits}
use Rattle.vs_truth.specs.RowMembers.{member_of_row}
use Rattle.vs_truth.proofs.Listed.{rows_long, member_at, keeps}
use Rattle.vs_truth.proofs.rows.RowsMembers.bits.Goals as goal

pub returns-clause-kept : goal.returns-clause-kept
returns-clause-kept g c =
    let self = c.args.self.now in
    let row = c.index-self-place.result in
    let within : c.args.place < length self.rows.now = omega (arith, c.requires, rows_long self.dim self.rows.now) in
    member_at self.dim self.rows.now c.args.place row within c.index-self-place.is (λ m. KeepsBits m.bits c.bits.result.now)
    (subst (KeepsBits (member_of_row self.dim row).bits) (ap (λ r. r.body.bits) c.index-self-place.is ∙ sym c.bits.ensures) (keeps self.dim row (subst (λ r. FitsDimension self.dim r.body.bits) (sym c.index-self-place.is) (self.fit c.args.place row within))))
