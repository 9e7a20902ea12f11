use Rattle.std.proofs.Common.{◌∙◌, arith}
use Rattle.vs_tickets.proofs.Steps.{gathers}
use Rattle.vs_tickets.proofs.gather.Goals as goal

pub join_seat-requires : goal.join_seat-requires
join_seat-requires c =
    let t = c.requires.table in
    let one = t.1 in
    (t.0, c.requires.ended.0 ∙ t.0, c.requires.ended.1, omega arith, gathers _ _ _ _ _ c.requires.parts.0 c.requires.parts.1)
