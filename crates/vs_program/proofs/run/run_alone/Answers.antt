use Rattle.std.proofs.Common.{Err, subst}
use Rattle.vs_args.specs.Readings.{IsReading}
use Rattle.vs_program.proofs.Ends.{no_memory, complete_none}
use Rattle.vs_program.proofs.run.run_alone.Goals as goal

pub returns-in-NoMemory-clause-job : goal.returns-in-NoMemory-clause-job
returns-in-NoMemory-clause-job g c =
    let plain = subst (λ e. IsReading c.args.words.now (Err e)) c.in-NoMemory.is c.in-Err.ensures.reading in
    no_memory (g.S.Source.left c.args.source.now) (g.K.Sink.written c.args.sink.now) c.args.words.now plain

pub returns-in-NoMemory-clause-complete : goal.returns-in-NoMemory-clause-complete
returns-in-NoMemory-clause-complete g c seed messages named has in_same out_same =
    complete_none seed messages (g.S.Source.left c.args.source.now) (g.K.Sink.written c.args.sink.now) (g.K.Sink.written c.args.sink.now)
