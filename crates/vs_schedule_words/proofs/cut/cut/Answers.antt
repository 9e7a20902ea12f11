use Rattle.std.proofs.Common.{◌≡◌, ◌∙◌, ◌==◌, ◌+◌, ◌-◌, ◌≤◌, Some, None, length, take, drop, ap, sym, arith, rules, add-one}
use Rattle.std.specs.List.{position}
use Rattle.std.proofs.lemmas.List.{take_all, length-drop}
use Rattle.vs_schedule_words.proofs.Cuts.{cut_at, cut_nowhere}
use Rattle.vs_schedule_words.proofs.cut.cut.Goals as goal

pub returns-in-Some-clause-before : goal.returns-in-Some-clause-before
returns-in-Some-clause-before c = (cut_at c.args.mark c.args.text.now c.in-Some.end 0 (sym c.in-Some.ensures)).0

pub returns-in-Some-clause-behind : goal.returns-in-Some-clause-behind
returns-in-Some-clause-behind c =
    let text = c.args.text.now in
    let all : take (length text - (c.in-Some.end + 1)) (drop (c.in-Some.end + 1) text) ≡ drop (c.in-Some.end + 1) text =
    take_all (length text - (c.in-Some.end + 1)) (drop (c.in-Some.end + 1) text) (omega (arith, length-drop (c.in-Some.end + 1) text)) in
    ap Some all ∙ rw (add-one) (cut_at c.args.mark text c.in-Some.end 0 (sym c.in-Some.ensures)).1

pub returns-in-None-clause-before : goal.returns-in-None-clause-before
returns-in-None-clause-before c = (cut_nowhere c.args.mark c.args.text.now (sym c.in-None.ensures)).0

pub returns-in-None-clause-behind : goal.returns-in-None-clause-behind
returns-in-None-clause-behind c = (cut_nowhere c.args.mark c.args.text.now (sym c.in-None.ensures)).1
