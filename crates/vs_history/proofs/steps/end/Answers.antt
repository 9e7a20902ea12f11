use Rattle.std.proofs.Common.{sym, ap, ◌∙◌, arith}
use Rattle.vs_thread_defs.specs.Machine.{Follows}
use Rattle.vs_history.specs.Seats.{HistoryView}
use Rattle.vs_history.proofs.RuleKept.{ends}
use Rattle.vs_history.proofs.steps.end.Goals as goal

pub join_seat-requires : goal.join_seat-requires
join_seat-requires g c =
    let w = c.args.word.now.named in
    let one = w.one_word in (
      c.keeper.invariant.same ∙ sym w.same,
      c.ended.invariant.same ∙ sym w.same,
      c.ended.invariant.empty,
      omega arith,
      ends (Follows c.args.word.now.table.shared.key) _ _ _ _ (ap (λ (v : HistoryView). v.lead) c.ended.view_is ∙ c.requires),
    )
