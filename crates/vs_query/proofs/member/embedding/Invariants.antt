use Rattle.vs_query.proofs.member.embedding.Given as goal

-- the counter's ledger is the one that the blank names
abbrev pub ghosts-signs_at : goal.ghosts-signs_at
ghosts-signs_at g a = record { name = a.blank.name; parts = 1 }
