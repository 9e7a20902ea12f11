use Rattle.vs_set.proofs.reading.SnapMembers.attr.Given as goal

-- the counter's ledger is the one that the blank names
abbrev pub ghosts-node_of : goal.ghosts-node_of
ghosts-node_of g a = record { name = a.blank.name; parts = 1 }
