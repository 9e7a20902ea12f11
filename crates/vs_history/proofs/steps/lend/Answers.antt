use Rattle.std.proofs.Common.{sym, ◌∙◌, arith}
use Rattle.vs_thread_defs.specs.Machine.{Follows}
use Rattle.vs_history.proofs.RuleKept.{shares}
use Rattle.vs_history.proofs.steps.lend.Goals as goal

pub split_seat-requires : goal.split_seat-requires
split_seat-requires g c =
    let w = c.args.word.now.named in
    let one = w.one_word in
    (c.lender.invariant.same ∙ sym w.same, omega arith, shares (Follows c.args.word.now.table.shared.key) _ _)
