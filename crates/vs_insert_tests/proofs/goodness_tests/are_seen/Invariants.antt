use Rattle.vs_insert_tests.proofs.goodness_tests.are_seen.Given as goal

-- the counter's own ledger, in one part
abbrev pub ghosts-fault_by : goal.ghosts-fault_by
ghosts-fault_by g a = record { name = a.blank.name; parts = a.blank.parts }
