use Rattle.vs_truth.proofs.pieces.nearest_in_pieces.Given as goal

abbrev pub ghosts-nearest_alone : goal.ghosts-nearest_alone
ghosts-nearest_alone g a = record { name = a.blank.name; parts = 1 }
