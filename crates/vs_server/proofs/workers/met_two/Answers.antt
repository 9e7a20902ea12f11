use Rattle.vs_server.proofs.Meeting.{first_begins, second_begins}
use Rattle.vs_server.proofs.workers.met_two.Goals as goal

pub returns-clause-one : goal.returns-clause-one
returns-clause-one g c = first_begins c.args.one.seen c.args.other.seen c.meet.new.one.seen c.meet.ensures.one

pub returns-clause-other : goal.returns-clause-other
returns-clause-other g c = second_begins c.args.one.seen c.args.other.seen c.meet.new.one.seen c.meet.ensures.one
