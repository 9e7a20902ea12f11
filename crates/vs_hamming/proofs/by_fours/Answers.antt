use Rattle.std.proofs.Common.{◌≡◌, ◌+◌, ◌*◌, get_or, arith, take_all, ◌∙◌}
use Rattle.vs_defs.specs.Vector.{ham}
use Rattle.vs_hamming.proofs.Words.{bits_of, ham_four, ones_of_xor-le, words_ham_is}
use Rattle.vs_hamming.proofs.by_fours.Goals as goal

pub overflow_add-first : goal.overflow_add-first
overflow_add-first c =
    let at = c.loop-four.four * 4 in
    let few = ones_of_xor-le (get_or c.args.a.now at 0) (get_or c.args.b.now at 0) (c.type_inv.a at).fits (c.type_inv.b at).fits in
    record { fits = omega (arith, few, c.loop-four.invariant.first_small, c.loop-four-test.true, c.requires.few) }

pub overflow_add-second-in-loop-four-2 : goal.overflow_add-second-in-loop-four-2
overflow_add-second-in-loop-four-2 c =
    let at = c.loop-four.four * 4 + 1 in
    let few = ones_of_xor-le (get_or c.args.a.now at 0) (get_or c.args.b.now at 0) (c.type_inv.a at).fits (c.type_inv.b at).fits in
    record { fits = omega (arith, few, c.loop-four.invariant.second_small, c.loop-four-test.true, c.requires.few) }

pub overflow_add-third-in-loop-four-2 : goal.overflow_add-third-in-loop-four-2
overflow_add-third-in-loop-four-2 c =
    let at = c.loop-four.four * 4 + 2 in
    let few = ones_of_xor-le (get_or c.args.a.now at 0) (get_or c.args.b.now at 0) (c.type_inv.a at).fits (c.type_inv.b at).fits in
    record { fits = omega (arith, few, c.loop-four.invariant.third_small, c.loop-four-test.true, c.requires.few) }

pub overflow_add-fourth-in-loop-four-2 : goal.overflow_add-fourth-in-loop-four-2
overflow_add-fourth-in-loop-four-2 c =
    let at = c.loop-four.four * 4 + 3 in
    let few = ones_of_xor-le (get_or c.args.a.now at 0) (get_or c.args.b.now at 0) (c.type_inv.a at).fits (c.type_inv.b at).fits in
    record { fits = omega (arith, few, c.loop-four.invariant.fourth_small, c.loop-four-test.true, c.requires.few) }

pub loop-four-preserved : goal.loop-four-preserved
loop-four-preserved c =
    let a = c.args.a.now in
    let b = c.args.b.now in
    let at = c.loop-four.four * 4 in
    let i = c.loop-four.invariant in
    let few = ones_of_xor-le (get_or a at 0) (get_or b at 0) (c.type_inv.a at).fits (c.type_inv.b at).fits in
    let few_1 = ones_of_xor-le (get_or a (at + 1) 0) (get_or b (at + 1) 0) (c.type_inv.a (at + 1)).fits (c.type_inv.b (at + 1)).fits in
    let few_2 = ones_of_xor-le (get_or a (at + 2) 0) (get_or b (at + 2) 0) (c.type_inv.a (at + 2)).fits (c.type_inv.b (at + 2)).fits in
    let few_3 = ones_of_xor-le (get_or a (at + 3) 0) (get_or b (at + 3) 0) (c.type_inv.a (at + 3)).fits (c.type_inv.b (at + 3)).fits in
    let more = ham_four a b at (omega (arith, c.loop-four-test.true)) (omega (arith, c.loop-four-test.true, c.requires.same))
    (c.type_inv.a at).fits (c.type_inv.b at).fits (c.type_inv.a (at + 1)).fits (c.type_inv.b (at + 1)).fits
    (c.type_inv.a (at + 2)).fits (c.type_inv.b (at + 2)).fits (c.type_inv.a (at + 3)).fits (c.type_inv.b (at + 3)).fits in
    let next : (c.loop-four.four + 1) * 4 ≡ at + 4 = omega arith in
    record {
      counted = rw next (omega (arith, more, i.counted));
      first_small = omega (arith, few, i.first_small);
      second_small = omega (arith, few_1, i.second_small);
      third_small = omega (arith, few_2, i.third_small);
      fourth_small = omega (arith, few_3, i.fourth_small);
    }

pub returns-clause-counted : goal.returns-clause-counted
returns-clause-counted c =
    let whole = take_all (c.loop-four.four * 4) c.args.a.now (omega (arith, c.loop-four-test.false, c.requires.fours)) in
    let whole_too = take_all (c.loop-four.four * 4) c.args.b.now (omega (arith, c.loop-four-test.false, c.requires.fours, c.requires.same)) in
    c.loop-four.invariant.counted ∙ (λ t. ham (bits_of (whole t)) (bits_of (whole_too t))) ∙ words_ham_is c.args.a.now c.args.b.now
