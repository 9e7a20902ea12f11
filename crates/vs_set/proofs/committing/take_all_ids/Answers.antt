use Rattle.std.proofs.Common.{[], arith}
use Rattle.vs_set.specs.Retaken.{retaken}
use Rattle.vs_set.proofs.Retaking.{all_done}
use Rattle.vs_set.proofs.committing.take_all_ids.Goals as goal

pub returns : goal.returns
returns c = all_done (retaken c.args.names.now.entries) [] c.args.layers.now c.loop-list.layers (omega arith) (λ k d lt. c.loop-list.invariant.0 k d (omega arith))
