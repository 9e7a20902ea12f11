use Rattle.std.proofs.Common.{◌++◌, ◌∷◌, [], length, sym, ap, subst, ◌∙◌, arith}
use Rattle.vs_thread_defs.specs.Machine.{Follows, GraphLegal}
use Rattle.vs_defs.specs.Store.{Limits}
use Rattle.vs_history.specs.Seats.{HistoryView}
use Rattle.vs_history.proofs.RuleKept.{appends}
use Rattle.vs_history.proofs.steps.append.Goals as goal

pub fetch_add-requires : goal.fetch_add-requires
fetch_add-requires g c =
    let w = c.args.word.now.named in
    let one = w.one_word in
    let seen = c.pass.view_is in
    let at = ap (λ (v : HistoryView). length v.seen) seen in
    let room = c.requires.room in (
      c.pass.invariant.same ∙ sym w.same,
      omega arith,
      appends (Follows c.args.word.now.table.shared.key) g.C.Change.entry _ _ _
          (ap (λ (v : HistoryView). v.lead) seen ∙ c.requires.pass.0) (ap (λ (v : HistoryView). v.passes) seen ∙ c.requires.pass.1) (ap (λ (v : HistoryView). v.olds) seen ∙ c.requires.pass.2)
          (c.requires.author ∙ sym (ap (λ (v : HistoryView). v.number) seen))
          (subst (λ (v : HistoryView). GraphLegal c.args.word.now.table.shared.key (v.seen ++ g.C.Change.entry ∷ [])) (sym seen) (subst (λ (l : Limits). GraphLegal l (c.args.pass.now.seen ++ g.C.Change.entry ∷ [])) (sym w.same_limits) c.requires.legal))
          (omega arith),
    )
