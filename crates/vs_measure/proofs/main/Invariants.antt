use Rattle.vs_measure.proofs.main.Given as goal

-- the counter's own ledger, in one part
abbrev pub ghosts-measure : goal.ghosts-measure
ghosts-measure a = record { name = a.blank.name; parts = a.blank.parts }
