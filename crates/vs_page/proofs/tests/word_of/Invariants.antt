use Rattle.vs_page.proofs.tests.word_of.Given as goal

-- the counter's own ledger, in one part
abbrev pub ghosts-word_by : goal.ghosts-word_by
ghosts-word_by a = record { name = a.blank.name; parts = a.blank.parts }
