use Rattle.std.proofs.Common.{refl}
use Rattle.vs_store.proofs.Answered.{has_members}
use Rattle.vs_store.proofs.store.Store.info.Goals as goal

pub info-requires : goal.info-requires
info-requires c = has_members refl c.changes-changes.ensures.good c.args.key.now c.in-Some.set.now c.in-Some.ensures
