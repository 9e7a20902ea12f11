use Rattle.std.proofs.Common.{◌≡◌, List, ℕ, [], ◌++◌, Some, option_map}
use Rattle.vs_thread_defs.specs.Schedule.{numbers_of, pieces_from}
use Rattle.vs_schedule_words.proofs.Cuts.{pieces_left, bytes_left, numbers_behind}
use Rattle.vs_schedule_words.proofs.drawn.drawn_words.Given as goal

abbrev pub invariant-loop-rest : goal.invariant-loop-rest
invariant-loop-rest l = record {
  numbers : numbers_of (pieces_from [] l.fn.word) ≡ numbers_behind l.numbers (numbers_of (pieces_left (option_map (λ t. t.now) l.rest)));
}

abbrev pub decreases-loop-rest : goal.decreases-loop-rest
decreases-loop-rest l = bytes_left (option_map (λ t. t.now) l.rest)
