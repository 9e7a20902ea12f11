use Rattle.vs_insert_tests.proofs.hub_tests.full_hubs_are_removed.Given as goal

-- the counter's own ledger, in one part
abbrev pub ghosts-full_hubs_by : goal.ghosts-full_hubs_by
ghosts-full_hubs_by g a = record { name = a.blank.name; parts = a.blank.parts }
