use Rattle.vs_link.proofs.tests.Draft.choice.Given as goal

-- the counter's own ledger, in one part
abbrev pub ghosts-choice_by : goal.ghosts-choice_by
ghosts-choice_by a = record { name = a.blank.name; parts = a.blank.parts }
