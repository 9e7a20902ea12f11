use Rattle.vs_shared.proofs.commit.CommitTaskCounted.run.Given as goal

abbrev pub ghosts-commit_fresh : goal.ghosts-commit_fresh
ghosts-commit_fresh a = record { name = a.blank.name; parts = 1 }
