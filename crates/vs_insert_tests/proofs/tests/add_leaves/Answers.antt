use Rattle.std.proofs.Common.{◌∙◌}
use Rattle.vs_insert_tests.proofs.tests.add_leaves.Goals as goal

pub loop-leaf-preserved : goal.loop-leaf-preserved
loop-leaf-preserved g c = record {
  dim = c.in_ok-add.ensures.dim ∙ c.loop-leaf.invariant.dim;
  kept = λ level chosen are. c.in_ok-add.ensures.kept level chosen (c.loop-leaf.invariant.kept level chosen are);
}
