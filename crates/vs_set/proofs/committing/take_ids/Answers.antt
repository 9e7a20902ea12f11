use Rattle.std.proofs.Common.{arith}
use Rattle.vs_set.specs.Retaken.{with_id}
use Rattle.vs_set.proofs.Retaking.{all_done, no_chosen}
use Rattle.vs_set.proofs.committing.take_ids.Goals as goal

pub returns : goal.returns
returns c = all_done (with_id c.args.names.now.entries) no_chosen c.args.list.now c.loop-chosen.list (omega arith) (λ k d lt. c.loop-chosen.invariant.0 k d (omega arith))
