use Rattle.vs_measure_shared.proofs.holding.drafted.Given as goal

abbrev pub ghosts-prepare : goal.ghosts-prepare
ghosts-prepare g a = record { name = a.blank.name; parts = 1 }
