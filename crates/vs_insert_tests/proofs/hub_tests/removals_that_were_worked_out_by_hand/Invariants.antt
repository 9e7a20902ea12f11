use Rattle.vs_insert_tests.proofs.hub_tests.removals_that_were_worked_out_by_hand.Given as goal

-- the counter's own ledger, in one part
abbrev pub ghosts-worked_by : goal.ghosts-worked_by
ghosts-worked_by g a = record { name = a.blank.name; parts = a.blank.parts }
