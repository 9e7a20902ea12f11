use Rattle.std.proofs.Common.{◌≡◌, ◌++◌, [], true, option_map}
use Rattle.std.specs.List.{list_all}
use Rattle.vs_thread_defs.specs.Schedule.{words_from, is_line_word}
use Rattle.vs_schedule_words.proofs.Cuts.{words_left, bytes_left}
use Rattle.vs_schedule_words.proofs.words.line_words.Given as goal

abbrev pub invariant-loop-rest : goal.invariant-loop-rest
invariant-loop-rest l = record {
  words : words_from [] l.fn.line ≡ l.words ++ words_left (option_map (λ t. t.now) l.rest);
  good : list_all is_line_word l.words ≡ true;
}

abbrev pub decreases-loop-rest : goal.decreases-loop-rest
decreases-loop-rest l = bytes_left (option_map (λ t. t.now) l.rest)
