use Rattle.vs_store.proofs.event_tests.refused_drafts.Given as goal

-- the counter's own ledger, in one part
abbrev pub ghosts-refused_drafts_by : goal.ghosts-refused_drafts_by
ghosts-refused_drafts_by g a = record { name = a.blank.name; parts = a.blank.parts }
