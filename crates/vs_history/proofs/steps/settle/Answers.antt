use Rattle.std.proofs.Common.{sym, ◌∙◌, arith}
use Rattle.vs_thread_defs.specs.Machine.{Follows}
use Rattle.vs_history.proofs.RuleKept.{settles}
use Rattle.vs_history.proofs.steps.settle.Goals as goal

pub load-requires : goal.load-requires
load-requires g c =
    let w = c.args.word.now.named in
    let one = w.one_word in (
      c.taker.invariant.same ∙ sym w.same,
      omega arith,
      rw (sym w.same_limits) (settles (Follows c.args.word.now.table.shared.key) _ _ _),
    )
