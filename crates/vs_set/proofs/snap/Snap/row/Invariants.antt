use Rattle.vs_set.proofs.snap.Snap.row.Given as goal

-- the counter's ledger is the one that the blank names
abbrev pub ghosts-row_of : goal.ghosts-row_of
ghosts-row_of g a = record { name = a.blank.name; parts = 1 }
