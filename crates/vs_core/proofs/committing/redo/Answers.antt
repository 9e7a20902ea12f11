use Rattle.std.proofs.Common.{[], ◌∷◌, subst}
use Rattle.vs_defs.specs.Request as request
use Rattle.vs_thread_defs.specs.Machine.{StoreDoes}
use Rattle.vs_command.specs.Outcomes.{outcome_of}
use Rattle.vs_core.proofs.Turning.{redone}
use Rattle.vs_core.proofs.committing.redo.Goals as goal

pub returns-clause-turns : goal.returns-clause-turns
returns-clause-turns c =
    let old = c.args.store.now in
    let new = c.do_now-answer.new.self in
    let o = outcome_of c.do_now-answer.result in
    let is = c.into_add-add.ensures in
    redone old c.args.number c.args.ready new c.args.cut_now c.args.taken o is.bounds c.requires
    (subst (λ w. StoreDoes old (request.Vadd c.args.ready.add) (w ∷ []) o new) is.drawn
    (subst (λ (x : request.Add). StoreDoes old (request.Vadd x) (c.into_add-add.result.1 ∷ []) o new) is.add c.do_now-answer.ensures.does))
