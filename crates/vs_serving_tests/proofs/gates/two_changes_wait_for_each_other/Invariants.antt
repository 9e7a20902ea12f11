use Rattle.vs_serving_tests.proofs.gates.two_changes_wait_for_each_other.Given as goal

abbrev pub ghosts-wait_for_each_other : goal.ghosts-wait_for_each_other
ghosts-wait_for_each_other g a = record { table = a.opened.table; limits = a.opened.limits }
