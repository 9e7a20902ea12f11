use Rattle.vs_truth.proofs.pieces.scan_piece.Given as goal

abbrev pub ghosts-first_of_piece : goal.ghosts-first_of_piece
ghosts-first_of_piece g a = record { name = a.blank.name; parts = 1 }
