use Rattle.vs_truth_tests.proofs.run_tests.found_any.Given as goal

-- the counter's own ledger, in one part
abbrev pub ghosts-found : goal.ghosts-found
ghosts-found a = record { name = a.blank.name; parts = a.blank.parts }
