use Rattle.std.proofs.Common.{sym, ap, ◌∙◌, arith}
use Rattle.vs_thread_defs.specs.Machine.{Follows}
use Rattle.vs_history.specs.Seats.{HistoryView}
use Rattle.vs_history.proofs.RuleKept.{makes}
use Rattle.vs_history.proofs.steps.make.Goals as goal

pub split_seat-requires : goal.split_seat-requires
split_seat-requires g c =
    let w = c.args.word.now.named in
    let one = w.one_word in
    let seen = c.keeper.view_is in (
      c.keeper.invariant.same ∙ sym w.same,
      omega arith,
      makes (Follows c.args.word.now.table.shared.key) _ _ (ap (λ (v : HistoryView). v.keeps) seen ∙ c.requires.0) (ap (λ (v : HistoryView). v.passes) seen ∙ c.requires.1),
    )
