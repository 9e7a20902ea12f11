use Rattle.vs_insert_tests.proofs.tests.drafts_by.Goals as goal

pub settle-requires-2-clause-drafted : goal.settle-requires-2-clause-drafted
settle-requires-2-clause-drafted g c = c.in_ok-settle.ensures.kept c.in_ok-c.c.level c.in_ok-c.c.chosen c.in_ok-c.ensures.drafted
