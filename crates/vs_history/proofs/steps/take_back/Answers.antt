use Rattle.std.proofs.Common.{sym, ap, ◌∙◌, arith}
use Rattle.vs_thread_defs.specs.Machine.{Follows}
use Rattle.vs_history.specs.Seats.{HistoryView}
use Rattle.vs_history.proofs.RuleKept.{returns}
use Rattle.vs_history.proofs.steps.take_back.Goals as goal

pub join_seat-requires : goal.join_seat-requires
join_seat-requires g c =
    let w = c.args.word.now.named in
    let one = w.one_word in
    let seen = c.keeper.view_is in (
      c.keeper.invariant.same ∙ sym w.same,
      c.lent.invariant.same ∙ sym w.same,
      c.lent.invariant.empty,
      omega arith,
      returns (Follows c.args.word.now.table.shared.key) _ _ _ _ (ap (λ (v : HistoryView). v.passes) seen ∙ c.requires.keeper.0) (ap (λ (v : HistoryView). v.olds) seen ∙ c.requires.keeper.1)
          (ap (λ (v : HistoryView). v.lead) c.lent.view_is ∙ c.requires.lead),
    )
