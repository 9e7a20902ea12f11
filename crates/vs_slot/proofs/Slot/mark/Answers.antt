use Rattle.vs_slot.proofs.Places.{view_marked}
use Rattle.vs_slot.proofs.Slot.mark.Goals as goal

pub returns-clause-marked : goal.returns-clause-marked
returns-clause-marked c = view_marked c.self.inside.epoch c.args.id c.self.inside.marks.items c.args.self.now c.self.view_is
