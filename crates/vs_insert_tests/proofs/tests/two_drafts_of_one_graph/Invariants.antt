use Rattle.vs_insert_tests.proofs.tests.two_drafts_of_one_graph.Given as goal

-- the counter's own ledger, in one part
abbrev pub ghosts-drafts_by : goal.ghosts-drafts_by
ghosts-drafts_by g a = record { name = a.blank.name; parts = a.blank.parts }
