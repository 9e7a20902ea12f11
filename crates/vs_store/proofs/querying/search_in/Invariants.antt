use Rattle.vs_store.proofs.querying.search_in.Given as goal

-- the counter's ledger is the one that the blank names
abbrev pub ghosts-found : goal.ghosts-found
ghosts-found a = record { name = a.blank.name; parts = 1 }
