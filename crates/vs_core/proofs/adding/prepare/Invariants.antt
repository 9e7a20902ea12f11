use Rattle.vs_core.proofs.adding.prepare.Given as goal

abbrev pub ghosts-choose : goal.ghosts-choose
ghosts-choose a = record { name = a.blank.name; parts = a.blank.parts }
