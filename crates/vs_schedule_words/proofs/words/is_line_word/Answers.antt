use Rattle.std.proofs.Common.{rules, ◌≡◌, ◌∙◌, ◌<◌, length, arith}
use Rattle.vs_schedule_words.proofs.Cuts.{line_word_by}
use Rattle.vs_schedule_words.proofs.words.is_line_word.Goals as goal

pub returns-then-not-is_empty : goal.returns-then-not-is_empty
returns-then-not-is_empty c =
    let some : 0 < length c.args.word.now = grind arith in
    c.has_no_return.ensures ∙ line_word_by c.args.word.now some
