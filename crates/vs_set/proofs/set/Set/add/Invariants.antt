use Rattle.vs_set.proofs.set.Set.add.Given as goal

-- the counter's ledger is the one that the blank names
abbrev pub ghosts-add_new : goal.ghosts-add_new
ghosts-add_new g a = record { name = a.blank.name; parts = 1 }

abbrev pub ghosts-add_again : goal.ghosts-add_again
ghosts-add_again g a = record { name = a.blank.name; parts = 1 }
