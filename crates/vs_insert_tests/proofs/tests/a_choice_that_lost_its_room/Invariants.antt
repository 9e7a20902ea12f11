use Rattle.vs_insert_tests.proofs.tests.a_choice_that_lost_its_room.Given as goal

-- the counter's own ledger, in one part
abbrev pub ghosts-late_by : goal.ghosts-late_by
ghosts-late_by g a = record { name = a.blank.name; parts = a.blank.parts }
