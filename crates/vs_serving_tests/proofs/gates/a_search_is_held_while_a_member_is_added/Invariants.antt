use Rattle.vs_serving_tests.proofs.gates.a_search_is_held_while_a_member_is_added.Given as goal

abbrev pub ghosts-is_held : goal.ghosts-is_held
ghosts-is_held g a = record { table = a.opened.table; limits = a.opened.limits }
