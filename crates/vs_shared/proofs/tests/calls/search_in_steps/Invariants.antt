use Rattle.vs_shared.proofs.tests.calls.search_in_steps.Given as goal

abbrev pub ghosts-found : goal.ghosts-found
ghosts-found g a = record { name = a.blank.name; parts = 1 }
