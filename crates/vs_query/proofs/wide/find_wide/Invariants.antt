use Rattle.vs_query.proofs.wide.find_wide.Given as goal

abbrev pub ghosts-bits_alone : goal.ghosts-bits_alone
ghosts-bits_alone g a = record { name = a.blank.name; parts = 1 }
