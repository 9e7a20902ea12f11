use Rattle.vs_store.proofs.event_tests.committed_drafts.Given as goal

-- the counter's own ledger, in one part
abbrev pub ghosts-committed_by : goal.ghosts-committed_by
ghosts-committed_by g a = record { name = a.blank.name; parts = a.blank.parts }
