use Rattle.vs_shared.proofs.shared.Shared.draft.Goals as goal

pub returns-in_default-try_clone-clause-call : goal.returns-in_default-try_clone-clause-call
returns-in_default-try_clone-clause-call g c add is = c.starved.ensures.draft add c.args.word
