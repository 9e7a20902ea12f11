use Rattle.vs_graph_fixtures.proofs.tests.second_of_two.Given as goal

-- the counter's own ledger, in one part
abbrev pub ghosts-second_of : goal.ghosts-second_of
ghosts-second_of a = record { name = a.blank.name; parts = a.blank.parts }
