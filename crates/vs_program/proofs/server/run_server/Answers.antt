use Rattle.std.proofs.Common.{Err, subst}
use Rattle.vs_args.specs.Readings.{IsReading}
use Rattle.vs_args.specs.Words.{job_named}
use Rattle.vs_program.proofs.Served.{serves_nothing}
use Rattle.vs_program.proofs.server.run_server.Goals as goal

pub returns-in-Err-NoMemory : goal.returns-in-Err-NoMemory
returns-in-Err-NoMemory g c =
    let plain = subst (λ e. IsReading c.args.words.now (Err e)) c.in-Err-NoMemory.field-0-is c.in-Err-NoMemory.ensures.reading in
    serves_nothing _ _ _ _ c.args.listeners.now.items (job_named c.args.words.now) plain
