use Rattle.vs_serving_tests.proofs.meeting.a_pass_sees_what_another_changed.Given as goal

abbrev pub ghosts-met : goal.ghosts-met
ghosts-met g a = record { table = a.opened.table; limits = a.opened.limits }
