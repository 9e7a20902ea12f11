use Rattle.vs_serving_tests.proofs.interaction.a_client_that_waits_for_each_reply_is_served.Given as goal

abbrev pub ghosts-conversed : goal.ghosts-conversed
ghosts-conversed g a = record { table = a.opened.table; limits = a.opened.limits }
