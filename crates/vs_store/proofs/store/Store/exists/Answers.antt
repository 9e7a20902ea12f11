use Rattle.std.proofs.Common.{◌≡◌, ap, ◌∙◌, arith}
use Rattle.std.proofs.lemmas.Grind.{common_steps}
use Rattle.vs_defs.specs.Refuse.{has_key}
use Rattle.vs_defs.specs.Store.{plain}
use Rattle.vs_store.proofs.Counted.{has_plain}
use Rattle.vs_store.proofs.store.Store.exists.Goals as goal

pub loop-key-preserved : goal.loop-key-preserved
loop-key-preserved c =
    let h : c.has_key.result ≡ has_key (plain c.args.self.now) c.key-item.result = c.has_key.ensures ∙ has_plain c.args.self.now c.as_slice.result.now ∙ ap (has_key (plain c.args.self.now)) c.as_slice.ensures in
    grind (arith, common_steps)
