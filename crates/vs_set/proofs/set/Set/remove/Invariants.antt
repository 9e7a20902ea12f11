use Rattle.vs_set.proofs.set.Set.remove.Given as goal

-- the counter's ledger is the one that the blank names
abbrev pub ghosts-take_out : goal.ghosts-take_out
ghosts-take_out g a = record { name = a.blank.name; parts = 1 }
