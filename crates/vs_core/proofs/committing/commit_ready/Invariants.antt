use Rattle.vs_core.proofs.committing.commit_ready.Given as goal

abbrev pub ghosts-commit_fresh : goal.ghosts-commit_fresh
ghosts-commit_fresh a = record { name = a.blank.name; parts = a.blank.parts }
