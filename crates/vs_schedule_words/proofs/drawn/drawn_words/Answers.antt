use Rattle.std.proofs.Common.{rules, ◌≡◌, ◌∙◌, ◌++◌, ◌∷◌, [], false, Some, None, option_map, ap, sym, subst}
use Rattle.vs_thread_defs.specs.Schedule.{pieces_from, numbers_of, u32_of, drawn_of}
use Rattle.vs_schedule_words.proofs.Cuts.{pieces_left, numbers_behind, numbers_step, numbers_stop}
use Rattle.vs_schedule_words.proofs.drawn.drawn_words.Goals as goal

pub returns-in_default-word_number : goal.returns-in_default-word_number
returns-in_default-word_number c =
    let none : u32_of c.cut.result.0.now ≡ None = sym c.word_number.ensures ∙ c.in_default-word_number.is in
    let stops = numbers_stop (numbers_of (pieces_from [] c.args.word.now)) c.loop-rest.numbers (option_map (λ t. t.now) c.loop-rest.rest) c.in-Some.text.now c.cut.result.0.now
    (ap (option_map (λ t. t.now)) c.in-Some.is) c.cut.ensures.before none c.loop-rest.invariant.numbers in
    let drawn : drawn_of c.args.word.now ≡ numbers_of (pieces_from [] c.args.word.now) = search rules in
    sym (drawn ∙ stops)

pub loop-rest-preserved : goal.loop-rest-preserved
loop-rest-preserved c =
    let n = c.in-Some-word_number.number in
    let read : u32_of c.cut.result.0.now ≡ Some n = sym c.word_number.ensures ∙ c.in-Some-word_number.is in
    let behind = option_map (λ t. t.now) c.cut.result.1 in
    let pushed : c.push.new.self ≡ c.loop-rest.numbers ++ n ∷ [] = c.in_ok-push.ensures.ok in
    record {
      numbers =
          numbers_step (numbers_of (pieces_from [] c.args.word.now)) c.loop-rest.numbers (option_map (λ t. t.now) c.loop-rest.rest) c.in-Some.text.now c.cut.result.0.now n behind
          (ap (option_map (λ t. t.now)) c.in-Some.is) c.cut.ensures.before c.cut.ensures.behind read c.loop-rest.invariant.numbers
          ∙ ap (λ l. numbers_behind l (numbers_of (pieces_left behind))) (sym pushed);
    }
