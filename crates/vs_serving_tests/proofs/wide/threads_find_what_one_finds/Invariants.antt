use Rattle.vs_serving_tests.proofs.wide.threads_find_what_one_finds.Given as goal

abbrev pub ghosts-found_by_both : goal.ghosts-found_by_both
ghosts-found_by_both g a = record { table = a.opened.table; limits = a.opened.limits }
