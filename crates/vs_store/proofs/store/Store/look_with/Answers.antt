use Rattle.std.proofs.Common.{sym, ap, ◌∙◌}
use Rattle.vs_defs.specs.Store.{set_of}
use Rattle.vs_command.specs.Requests.{search_of}
use Rattle.vs_store.proofs.Taken.{absent_unrefused, present_refusal, cause_told, looked}
use Rattle.vs_store.proofs.store.Store.look_with.Goals as goal

pub returns-in_default-clause-unrefused : goal.returns-in_default-clause-unrefused
returns-in_default-clause-unrefused c =
    absent_unrefused c.args.self.now (search_of c.args.search) (ap (λ k. set_of k c.args.self.now) (sym c.as_slice.ensures) ∙ sym c.in_default.ensures)

pub returns-in_err-place-clause-refused : goal.returns-in_err-place-clause-refused
returns-in_err-place-clause-refused c =
    cause_told c.args.self.now (search_of c.args.search) c.in-Some.set.now (ap (λ k. set_of k c.args.self.now) (sym c.as_slice.ensures) ∙ sym c.in-Some.ensures) c.from_residual.result c.in_err-place.field-0.0 c.from_residual.ensures.1
    c.in_err-place.ensures.refused

pub invariant_of-result-2 : goal.invariant_of-result-2
invariant_of-result-2 c =
    looked c.self.view_is c.self.invariant (search_of c.args.search) c.in_ok-place.place c.in-Some.set.now (ap (λ k. set_of k c.args.self.now) (sym c.as_slice.ensures) ∙ sym c.in-Some.ensures) c.in_ok-snap.ensures c.requires.bounds
    c.in_ok-place.ensures.unrefused c.in_ok-place.ensures.sought

pub returns-clause-unrefused : goal.returns-clause-unrefused
returns-clause-unrefused c =
    present_refusal c.args.self.now (search_of c.args.search) c.in-Some.set.now _ (ap (λ k. set_of k c.args.self.now) (sym c.as_slice.ensures) ∙ sym c.in-Some.ensures) c.in_ok-place.ensures.unrefused
