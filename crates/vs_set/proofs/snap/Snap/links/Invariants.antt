use Rattle.vs_set.proofs.snap.Snap.links.Given as goal

-- the counter's ledger is the one that the blank names
abbrev pub ghosts-keys_around : goal.ghosts-keys_around
ghosts-keys_around g a = record { name = a.blank.name; parts = 1 }
