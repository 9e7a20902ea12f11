use Rattle.vs_insert_tests.proofs.tests.entries_levels_and_attributes.Given as goal

-- the counter's own ledger, in one part
abbrev pub ghosts-levels_by : goal.ghosts-levels_by
ghosts-levels_by g a = record { name = a.blank.name; parts = a.blank.parts }
