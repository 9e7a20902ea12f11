use Rattle.vs_thread_defs.specs.Machine.{Follows}
use Rattle.vs_history.proofs.RuleKept.{begins}
use Rattle.vs_history.proofs.seat.Opened.new.Goals as goal

pub of_words-requires : goal.of_words-requires
of_words-requires c = begins (Follows c.args.limits)
