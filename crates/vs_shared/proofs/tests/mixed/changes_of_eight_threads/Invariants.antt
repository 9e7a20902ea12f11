use Rattle.vs_shared.proofs.tests.mixed.changes_of_eight_threads.Given as goal

abbrev pub ghosts-changed_by_eight : goal.ghosts-changed_by_eight
ghosts-changed_by_eight g a = record { table = a.opened.table; limits = a.opened.limits }
