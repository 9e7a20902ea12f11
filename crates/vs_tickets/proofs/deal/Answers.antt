use Rattle.std.proofs.Common.{arith}
use Rattle.vs_tickets.proofs.Steps.{deals}
use Rattle.vs_tickets.proofs.deal.Goals as goal

pub split_seat-requires : goal.split_seat-requires
split_seat-requires c =
    let t = c.requires.table in
    let one = t.1 in
    (t.0, omega arith, deals _ _ _ c.requires.parts)
