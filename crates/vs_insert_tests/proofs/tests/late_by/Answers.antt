use Rattle.vs_insert_tests.proofs.tests.late_by.Goals as goal

pub settle-requires-clause-drafted : goal.settle-requires-clause-drafted
settle-requires-clause-drafted g c = c.in_ok-add_leaves.ensures.kept c.in_ok-late.late.level c.in_ok-late.late.chosen c.in_ok-late.ensures.drafted
