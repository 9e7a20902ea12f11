use Rattle.vs_insert_tests.proofs.hub_tests.a_member_of_level_15_is_removed.Given as goal

-- the counter's own ledger, in one part
abbrev pub ghosts-high_by : goal.ghosts-high_by
ghosts-high_by g a = record { name = a.blank.name; parts = a.blank.parts }
