use Rattle.std.proofs.Common.{arith}
use Rattle.vs_tickets.proofs.Steps.{learns}
use Rattle.vs_tickets.proofs.learn.Goals as goal

pub load-requires : goal.load-requires
load-requires c =
    let t = c.requires.table in
    let one = t.1 in
    (t.0, omega arith, learns _ _ _ _ c.requires.parts.0 c.requires.parts.1)
