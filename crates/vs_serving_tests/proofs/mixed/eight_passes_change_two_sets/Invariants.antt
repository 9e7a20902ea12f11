use Rattle.vs_serving_tests.proofs.mixed.eight_passes_change_two_sets.Given as goal

abbrev pub ghosts-changed_by_eight : goal.ghosts-changed_by_eight
ghosts-changed_by_eight g a = record { table = a.opened.table; limits = a.opened.limits }
