use Rattle.vs_counting_tests.proofs.epoch_tests.a_beam_finds_the_same_as_the_epochs_begin_anew.Given as goal

-- the counter's own ledger, in one part
abbrev pub ghosts-epochs_by : goal.ghosts-epochs_by
ghosts-epochs_by g a = record { name = a.blank.name; parts = a.blank.parts }
