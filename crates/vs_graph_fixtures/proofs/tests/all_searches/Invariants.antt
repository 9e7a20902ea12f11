use Rattle.vs_graph_fixtures.proofs.tests.all_searches.Given as goal

-- the counter's own ledger, in one part
abbrev pub ghosts-searches : goal.ghosts-searches
ghosts-searches a = record { name = a.blank.name; parts = a.blank.parts }
