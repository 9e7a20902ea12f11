use Rattle.vs_pass.proofs.desk.Desk.hold.Given as goal

abbrev pub ghosts-close : goal.ghosts-close
ghosts-close g a =
    let told = a._told.now in
    record { work = g.T.Task.work told.task.value told.known (g.S.Stored.store told.old.value) told.output.value (g.S.Stored.store told.new.value) }
