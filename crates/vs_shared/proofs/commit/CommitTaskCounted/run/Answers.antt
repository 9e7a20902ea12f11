use Rattle.std.proofs.Common.{ℕ, [], ◌∷◌, is_some, sym, ap, ◌∙◌, subst}
use Rattle.vs_defs.specs.Request.{Request}
use Rattle.vs_thread_defs.specs.Machine.{StoreDoes}
use Rattle.vs_command.specs.Outcomes.{outcome_of}
use Rattle.vs_command.specs.Requests.{request_of}
use Rattle.vs_shared.proofs.Committing.{may_commit}
use Rattle.vs_shared.proofs.Tasks.{commit_done, commit_redone, none_of}
use Rattle.vs_shared.proofs.commit.CommitTaskCounted.run.Goals as goal

pub commit_fresh-requires-clause-may : goal.commit_fresh-requires-clause-may
commit_fresh-requires-clause-may c =
    let r = c.requires in
    may_commit r.limits r.seen c.args.self.ready r.needs.3 c.draft_laws.ensures.keeps_chosen r.number r.log r.holding c.args.store.now.store r.store_is

pub returns-then-is_some : goal.returns-then-is_some
returns-then-is_some c limits number s log held ends known needs =
    let ready = c.args.self.ready in
    let old = c.args.store.now.store in
    let new = c.do_now.new.self in
    let o = outcome_of c.do_now.result in
    let does = subst (λ (r : Request). StoreDoes old r (ready.drawn ∷ []) o new) needs.0
    (subst (λ (w : ℕ). StoreDoes old (request_of c.args.self.request.now) (w ∷ []) o new) needs.1 c.do_now.ensures.does) in
    commit_redone limits number s log held old ends c.args._known known ready needs.3 needs.2 new c.do_now.result c.do_now.ensures.scores
    (ap is_some (sym c.stale.ensures) ∙ sym c.is_some.ensures ∙ c.if-is_some.true) does

pub returns : goal.returns
returns c limits number s log held ends known needs =
    let ready = c.args.self.ready in
    let old = c.args.store.now.store in
    commit_done limits number s log held old ends c.args._known known ready needs.3 needs.2 c.commit_fresh.new.store c.commit_fresh.result c.commit_fresh.ensures.scores
    (none_of _ (ap is_some (sym c.stale.ensures) ∙ sym c.is_some.ensures ∙ c.if-is_some.false)) c.commit_fresh.ensures.commits
