use Rattle.vs_shared.proofs.tests.drafts_of_two_passes.Given as goal

abbrev pub ghosts-drafted_by_two : goal.ghosts-drafted_by_two
ghosts-drafted_by_two g a = record { table = a.opened.table; limits = a.opened.limits }
