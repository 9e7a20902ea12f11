use Rattle.std.proofs.Common.{[]}
use Rattle.vs_outside.proofs.KnownBytes.{Adds-none, in_front-none}
use Rattle.vs_connection.proofs.Ends.{ends_at_once}
use Rattle.vs_connection.proofs.Faults.{read_rose, write_rose}
use Rattle.vs_connection.proofs.serve.serve_by.Goals as goal

pub returns-in-Err-clause-session : goal.returns-in-Err-clause-session
returns-in-Err-clause-session g c author start here = ([], [], in_front-none _, Adds-none _, ends_at_once (g.H.Handler.after c.args.handler.now author) start here)

pub returns-in-Ok-clause-read_fault : goal.returns-in-Ok-clause-read_fault
returns-in-Ok-clause-read_fault g c = (c.serve_with.ensures.read_fault, read_rose _ _ _ c.serve_with.ensures.unfailed_read)

pub returns-in-Ok-clause-write_fault : goal.returns-in-Ok-clause-write_fault
returns-in-Ok-clause-write_fault g c = (c.serve_with.ensures.write_fault, write_rose _ _ _ c.serve_with.ensures.unfailed_write)
