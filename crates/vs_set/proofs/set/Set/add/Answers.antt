use Rattle.std.proofs.Common.{sym, ap, ◌∙◌}
use Rattle.vs_defs.specs.Store.{is_member}
use Rattle.vs_set.proofs.set.Set.add.Goals as goal

pub add_new-requires-clause-new : goal.add_new-requires-clause-new
add_new-requires-clause-new g c = ap (λ n. is_member n c.args.self.now.contents.members) (sym c.as_slice.ensures) ∙ sym c.has.ensures ∙ c.if-has.false

pub add_new-requires-clause-room : goal.add_new-requires-clause-room
add_new-requires-clause-room g c = c.requires.room (ap (λ n. is_member n c.args.self.now.contents.members) (sym c.as_slice.ensures) ∙ sym c.has.ensures ∙ c.if-has.false)
