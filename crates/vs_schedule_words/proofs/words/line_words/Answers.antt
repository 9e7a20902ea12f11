use Rattle.std.proofs.Common.{rules, ◌≡◌, ◌∙◌, ◌++◌, ◌∷◌, ◌<◌, ◌≤◌, ◌+◌, [], true, false, nat_le, List, Some, None, All, length, option_map, ap, sym, subst, arith}
use Rattle.std.specs.List.{list_all}
use Rattle.vs_defs.specs.Bytes.{Bytes}
use Rattle.vs_thread_defs.specs.Schedule.{words_from, is_line_word}
use Rattle.vs_schedule_words.specs.Cut.{before_mark, behind_mark}
use Rattle.vs_schedule_words.proofs.Cuts.{words_left, words_step, all_words, good_step, bad_words, words_some, words_few, words_short}
use Rattle.vs_schedule_words.proofs.words.line_words.Goals as goal

pub returns-then-not-is_line_word-clause-words : goal.returns-then-not-is_line_word-clause-words
returns-then-not-is_line_word-clause-words c =
    let bad : is_line_word c.cut.result.0.now ≡ false = search rules in
    bad_words c.args.line.now c.loop-rest.words c.cut.result.0.now (words_left (option_map (λ t. t.now) c.cut.result.1))
    (words_step c.args.line.now c.loop-rest.words (option_map (λ t. t.now) c.loop-rest.rest) c.in-Some.text.now c.cut.result.0.now (option_map (λ t. t.now) c.cut.result.1)
    (ap (option_map (λ t. t.now)) c.in-Some.is) c.cut.ensures.before c.cut.ensures.behind c.loop-rest.invariant.words) bad

pub loop-rest-preserved : goal.loop-rest-preserved
loop-rest-preserved c =
    let word = c.in_ok-from_slice.field-0 in
    let word_is : word ≡ c.cut.result.0.now = c.in_ok-from_slice.ensures in
    let pushed : c.push.new.self ≡ c.loop-rest.words ++ word ∷ [] = c.in_ok-push.ensures.ok in
    let behind = option_map (λ t. t.now) c.cut.result.1 in
    let good : is_line_word c.cut.result.0.now ≡ true = search rules in record {
      words =
          words_step c.args.line.now c.loop-rest.words (option_map (λ t. t.now) c.loop-rest.rest) c.in-Some.text.now word behind (ap (option_map (λ t. t.now)) c.in-Some.is)
          (word_is ∙ c.cut.ensures.before) c.cut.ensures.behind c.loop-rest.invariant.words ∙ ap (λ l. l ++ words_left behind) (sym pushed);
      good = subst (λ l. list_all is_line_word l ≡ true) (sym pushed) (good_step c.loop-rest.words word c.loop-rest.invariant.good (ap is_line_word word_is ∙ good));
    }

pub returns-clause-some : goal.returns-clause-some
returns-clause-some c =
    let all = all_words c.args.line.now c.loop-rest.words (option_map (λ t. t.now) c.loop-rest.rest) (ap (option_map (λ t. t.now)) c.in_default.is) c.loop-rest.invariant.words in
    subst (λ (l : List Bytes). 1 ≤ length l) (sym all) (words_some [] c.args.line.now)

pub returns-clause-short : goal.returns-clause-short
returns-clause-short c =
    let line = c.args.line.now in
    let all = all_words c.args.line.now c.loop-rest.words (option_map (λ t. t.now) c.loop-rest.rest) (ap (option_map (λ t. t.now)) c.in_default.is) c.loop-rest.invariant.words in
    let within : length line ≤ 1048576 = grind arith in
    let short = words_short 1048576 [] line (omega (arith, within)) in
    subst (λ (l : List Bytes). (length l < 4294967296) × All (λ w. length w < 4294967296) l) (sym all)
    (omega (arith, within, words_few [] line), λ k d h. omega (arith, short k d h))
