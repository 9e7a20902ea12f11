use Rattle.vs_insert_tests.proofs.goodness_tests.changes_are_seen.Given as goal

-- the counter's own ledger, in one part
abbrev pub ghosts-change_by : goal.ghosts-change_by
ghosts-change_by g a = record { name = a.blank.name; parts = a.blank.parts }
