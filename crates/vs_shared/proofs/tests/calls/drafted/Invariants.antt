use Rattle.vs_shared.proofs.tests.calls.drafted.Given as goal

abbrev pub ghosts-prepared : goal.ghosts-prepared
ghosts-prepared g a = record { name = a.blank.name; parts = 1 }
