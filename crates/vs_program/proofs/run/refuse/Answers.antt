use Rattle.vs_program.proofs.Ends.{refused}
use Rattle.vs_program.proofs.run.refuse.Goals as goal

pub returns-clause-written : goal.returns-clause-written
returns-clause-written g c = refused _ _ c.write_all-is_whole.result c.write_all-is_whole.ensures.written
