use Rattle.vs_graph.proofs.tests.an_edit_of_many_members.Given as goal

-- the counter's own ledger, in one part
abbrev pub ghosts-many_by : goal.ghosts-many_by
ghosts-many_by g a = record { name = a.blank.name; parts = a.blank.parts }
