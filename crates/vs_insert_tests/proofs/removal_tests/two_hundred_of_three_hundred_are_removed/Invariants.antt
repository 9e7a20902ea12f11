use Rattle.vs_insert_tests.proofs.removal_tests.two_hundred_of_three_hundred_are_removed.Given as goal

-- the counter's own ledger, in one part
abbrev pub ghosts-thinned_by : goal.ghosts-thinned_by
ghosts-thinned_by g a = record { name = a.blank.name; parts = a.blank.parts }
