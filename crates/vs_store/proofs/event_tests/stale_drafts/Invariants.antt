use Rattle.vs_store.proofs.event_tests.stale_drafts.Given as goal

-- the counter's own ledger, in one part
abbrev pub ghosts-stale_drafts_by : goal.ghosts-stale_drafts_by
ghosts-stale_drafts_by g a = record { name = a.blank.name; parts = a.blank.parts }
