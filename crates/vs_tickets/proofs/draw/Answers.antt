use Rattle.std.proofs.Common.{sym, ◌∙◌, arith}
use Rattle.vs_tickets.proofs.Steps.{draws}
use Rattle.vs_tickets.proofs.draw.Goals as goal

pub fetch_add-requires : goal.fetch_add-requires
fetch_add-requires c =
    let t = c.requires.table in
    let one = t.0.1 in
    let key = t.1 in
    (t.0.0, omega arith, draws _ _ _ _ (omega arith) c.requires.parts.0 (c.requires.parts.1 ∙ sym t.1))
