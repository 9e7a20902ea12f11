use Rattle.std.proofs.Common.{◌-◌, ◌%◌, length, sym, ◌∙◌, arith}
use Rattle.std.proofs.lemmas.List.{take-append-drop}
use Rattle.vs_hamming.proofs.Words.{words_ham-append}
use Rattle.vs_hamming.proofs.distance.Goals as goal

pub returns : goal.returns
returns c =
    let a = c.split_at.ensures in
    let b = c.split_at-2.ensures in
    let whole = length c.args.a.now - length c.args.a.now % 4 in
    let joined = words_ham-append c.split_at.result.0.now c.split_at-2.result.0.now c.split_at.result.1.now c.split_at-2.result.1.now (a.front_len ∙ sym b.front_len) in
    let both = rw (a.front, a.back, b.front, b.back, take-append-drop whole c.args.a.now, take-append-drop whole c.args.b.now) at joined in
    let fours = rw (a.front, b.front) at c.by_fours.ensures.counted in
    let rest = rw (a.back, b.back) at c.one_by_one.ensures.counted in
    omega (arith, both, fours, rest)
