use Rattle.std.proofs.Common.{sym, ap, ◌∙◌}
use Rattle.vs_defs.specs.Store.{set_of}
use Rattle.vs_bits.specs.Requests.{add_of}
use Rattle.vs_store.proofs.Taken.{drafted}
use Rattle.vs_store.proofs.store.Store.draft_with.Goals as goal

pub invariant_of-result : goal.invariant_of-result
invariant_of-result c =
    drafted c.self.view_is c.self.invariant (add_of c.args.add) c.args.word c.in-Some.set.now (ap (λ k. set_of k c.args.self.now) (sym c.as_slice.ensures) ∙ sym c.in-Some.ensures) c.in_ok-snap.ensures c.requires.bounds c.requires.cas
    c.requires.may c.in_ok-number_to_add.ensures.unrefused

pub returns-clause-draftable : goal.returns-clause-draftable
returns-clause-draftable c =
    (drafted c.self.view_is c.self.invariant (add_of c.args.add) c.args.word c.in-Some.set.now (ap (λ k. set_of k c.args.self.now) (sym c.as_slice.ensures) ∙ sym c.in-Some.ensures) c.in_ok-snap.ensures c.requires.bounds c.requires.cas
    c.requires.may c.in_ok-number_to_add.ensures.unrefused).draftable
