use Rattle.std.proofs.Common.{get_or, arith, take_all, ◌∙◌}
use Rattle.vs_defs.specs.Vector.{ham}
use Rattle.vs_hamming.proofs.Words.{bits_of, ham_more, ones_of_xor-le, words_ham_is}
use Rattle.vs_hamming.proofs.one_by_one.Goals as goal

pub overflow_add-total : goal.overflow_add-total
overflow_add-total c =
    let few = ones_of_xor-le (get_or c.args.a.now c.loop-i.i 0) (get_or c.args.b.now c.loop-i.i 0) (c.type_inv.a c.loop-i.i).fits (c.type_inv.b c.loop-i.i).fits in
    record { fits = omega arith }

pub loop-i-preserved : goal.loop-i-preserved
loop-i-preserved c =
    let few = ones_of_xor-le (get_or c.args.a.now c.loop-i.i 0) (get_or c.args.b.now c.loop-i.i 0) (c.type_inv.a c.loop-i.i).fits (c.type_inv.b c.loop-i.i).fits in
    let more = ham_more c.args.a.now c.args.b.now c.loop-i.i (omega arith) (omega arith) (c.type_inv.a c.loop-i.i).fits (c.type_inv.b c.loop-i.i).fits in
    record {
      counted = omega arith;
      small = omega arith;
    }

pub returns-clause-counted : goal.returns-clause-counted
returns-clause-counted c =
    let whole = take_all c.loop-i.i c.args.a.now (omega arith) in
    let whole_too = take_all c.loop-i.i c.args.b.now (omega arith) in
    c.loop-i.invariant.counted ∙ (λ t. ham (bits_of (whole t)) (bits_of (whole_too t))) ∙ words_ham_is c.args.a.now c.args.b.now
