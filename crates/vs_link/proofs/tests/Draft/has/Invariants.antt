use Rattle.vs_link.proofs.tests.Draft.has.Given as goal

-- the counter's own ledger, in one part
abbrev pub ghosts-has_by : goal.ghosts-has_by
ghosts-has_by a = record { name = a.blank.name; parts = a.blank.parts }
