use Rattle.vs_query.proofs.tests.check_search.Given as goal

-- the counter's ledger is the one that the blank names
abbrev pub ghosts-found : goal.ghosts-found
ghosts-found g a = record { name = a.blank.name; parts = 1 }
