use Rattle.std.proofs.Common.{◌≡◌, None, subst}
use Rattle.std.specs.Prelude.{IfOk}
use Rattle.vs_defs.specs.Refuse.{store_refusal}
use Rattle.vs_defs.specs.Request as request
use Rattle.vs_defs.specs.Store.{plain}
use Rattle.vs_bits.specs.declared.add.Add.{Add}
use Rattle.vs_bits.specs.Requests.{add_of}
use Rattle.vs_thread_defs.specs.Core as core
use Rattle.vs_store.proofs.store.Store.draft.Goals as goal

pub returns-clause-add : goal.returns-clause-add
returns-clause-add c = subst (λ (a : Add). IfOk c.draft_with.result (λ (d : core.Drafting). d.add ≡ add_of a)) c.in_ok-try_clone.ensures c.draft_with.ensures.add

pub returns-clause-unrefused : goal.returns-clause-unrefused
returns-clause-unrefused c =
    subst (λ (a : Add). IfOk c.draft_with.result (λ (d : core.Drafting). store_refusal (plain c.args.self.now) (request.Vadd (add_of a)) ≡ None)) c.in_ok-try_clone.ensures c.draft_with.ensures.unrefused
