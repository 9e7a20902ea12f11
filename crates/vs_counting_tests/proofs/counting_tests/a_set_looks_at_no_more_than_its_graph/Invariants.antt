use Rattle.vs_counting_tests.proofs.counting_tests.a_set_looks_at_no_more_than_its_graph.Given as goal

-- the counter's own ledger, in one part
abbrev pub ghosts-counts_by : goal.ghosts-counts_by
ghosts-counts_by g a = record { name = a.blank.name; parts = a.blank.parts }
