use Rattle.std.proofs.Common.{sym}
use Rattle.vs_server.proofs.workers.run_all.Goals as goal

pub returns : goal.returns
returns g c i d l = let one = (c.for_each_mut.ensures i d l).1 in rw (sym one.argument_is, sym one.left) one.call
