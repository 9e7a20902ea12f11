use Rattle.std.proofs.Common.{ap, ◌∙◌}
use Rattle.vs_defs.specs.Store.{set_of}
use Rattle.vs_store.proofs.Sets.{set_is}
use Rattle.vs_store.proofs.store.Store.set_at.Goals as goal

pub returns : goal.returns
returns c = c.get.ensures.value ∙ set_is c.args.key.now c.self.inside.sets.entries ∙ ap (set_of c.args.key.now) c.self.view_is
