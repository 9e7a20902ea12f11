use Rattle.std.proofs.Common.{[], ◌∷◌, sym, ◌∙◌, subst}
use Rattle.vs_defs.specs.Request.{Request}
use Rattle.vs_thread_defs.specs.Machine.{StoreDoes}
use Rattle.vs_bits.specs.Requests.{add_of}
use Rattle.vs_command.specs.Outcomes.{outcome_of}
use Rattle.vs_shared.proofs.Tasks.{drafted_by, done_by}
use Rattle.vs_shared.proofs.draft.DraftTaskCounted.run.Goals as goal

pub returns-then-can_draft : goal.returns-then-can_draft
returns-then-can_draft c limits number s log held ends known needs =
    let drafted = c.draft_with.ensures in
    drafted_by limits number s log held c.args.store.now.store ends (add_of c.args.self.add) c.args.self.word needs.1 c.draft_with.result c.map.result c.map.ensures.cases drafted.add drafted.drawn drafted.set drafted.draftable drafted.refused

pub returns : goal.returns
returns c limits number s log held ends known needs =
    let old = c.args.store.now.store in
    let new = c.do_now.new.self in
    let does = subst (λ (r : Request). StoreDoes old r (c.args.self.word ∷ []) (outcome_of c.do_now.result) new) needs.0 c.do_now.ensures.does in
    done_by limits number s log held old ends (add_of c.args.self.add) c.args.self.word needs.1 new c.do_now.result c.map-2.result c.map-2.ensures.cases (sym c.can_draft.ensures ∙ c.if-can_draft.false) does c.do_now.ensures.scores
