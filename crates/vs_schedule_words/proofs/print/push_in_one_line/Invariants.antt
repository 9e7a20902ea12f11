use Rattle.std.proofs.Common.{◌≡◌, ◌++◌, length}
use Rattle.vs_thread_defs.specs.Schedule.{in_one_line}
use Rattle.vs_schedule_words.proofs.print.push_in_one_line.Given as goal

abbrev pub invariant-loop-rest : goal.invariant-loop-rest
invariant-loop-rest l = record {
  same : l.out ++ in_one_line l.rest ≡ l.fn.out ++ in_one_line l.fn.reply;
}

abbrev pub decreases-loop-rest : goal.decreases-loop-rest
decreases-loop-rest l = length l.rest
