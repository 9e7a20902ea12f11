use Rattle.vs_link.proofs.tests.Draft.link.Given as goal

-- the counter's own ledger, in one part
abbrev pub ghosts-link_by : goal.ghosts-link_by
ghosts-link_by a = record { name = a.blank.name; parts = a.blank.parts }
