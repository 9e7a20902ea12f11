use Rattle.vs_store.proofs.event_tests.looks_answered_later.Given as goal

-- the counter's own ledger, in one part
abbrev pub ghosts-looks_by : goal.ghosts-looks_by
ghosts-looks_by g a = record { name = a.blank.name; parts = a.blank.parts }
