use Rattle.vs_insert_tests.proofs.counting_tests.looks_are_within_their_bounds.Given as goal

-- the counter's own ledger, in one part
abbrev pub ghosts-counts_by : goal.ghosts-counts_by
ghosts-counts_by g a = record { name = a.blank.name; parts = a.blank.parts }
