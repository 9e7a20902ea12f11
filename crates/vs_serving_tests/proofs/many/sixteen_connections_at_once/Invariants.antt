use Rattle.vs_serving_tests.proofs.many.sixteen_connections_at_once.Given as goal

abbrev pub ghosts-served_at_once : goal.ghosts-served_at_once
ghosts-served_at_once g a = record { table = a.opened.table; limits = a.opened.limits }
