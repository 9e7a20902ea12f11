use Rattle.std.proofs.Common.{sym, ap, ◌∙◌, true, false}
use Rattle.std.specs.Option.{option_copied}
use Rattle.vs_store.proofs.Counted.{memberships, no_membership}
use Rattle.vs_store.proofs.store.Store.is_member.Goals as goal
use Rattle.vs_store.proofs.store.Store.is_member.Goals.{in_default-via-in-Some+else-has, in_default-via-in_default}

pub returns-in-Some-clause-answers : goal.returns-in-Some-clause-answers
returns-in-Some-clause-answers c = memberships c.args.self.now c.args.key.now c.in-Some.set.now (sym c.in-Some.ensures) c.args.name.now true (sym c.has.ensures ∙ c.if-has.true)

pub returns-in_default-clause-answers : goal.returns-in_default-clause-answers
returns-in_default-clause-answers c = elim c.in_default.branch [
  | in_default-via-in-Some+else-has w ↦
      memberships c.args.self.now c.args.key.now w.in-Some.set.now (sym w.in-Some.ensures) c.args.name.now false (sym w.has.ensures ∙ w.if-has.false)
  | in_default-via-in_default w ↦ no_membership c.args.self.now c.args.key.now (sym c.set_at.ensures ∙ ap option_copied w.in_default.is) c.args.name.now
]
