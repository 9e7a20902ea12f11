use Rattle.vs_session.proofs.call.call_addition.Given as goal

abbrev pub ghosts-prepare : goal.ghosts-prepare
ghosts-prepare g a = record { name = a.blank.name; parts = 1 }
