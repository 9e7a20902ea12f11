use Rattle.vs_measure_shared.proofs.main.Given as goal

abbrev pub ghosts-measure : goal.ghosts-measure
ghosts-measure g a = record { table = a.opened.table; limits = a.opened.limits }
