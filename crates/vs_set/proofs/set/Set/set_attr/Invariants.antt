use Rattle.vs_set.proofs.set.Set.set_attr.Given as goal

-- the counter's ledger is the one that the blank names
abbrev pub ghosts-give_attr : goal.ghosts-give_attr
ghosts-give_attr g a = record { name = a.blank.name; parts = 1 }
