use Rattle.std.proofs.Common.{arith}
use Rattle.std.proofs.lemmas.Grind.{common_steps, pow_more}
use Rattle.vs_decimal.proofs.DigitLists.{digit_at, tens_within}
use Rattle.vs_decimal.proofs.digits.number.Goals as goal

pub overflow_mul-size : goal.overflow_mul-size
overflow_mul-size c =
    let most = tens_within c.loop-digit.digit-index (omega arith) in
    omega (arith, c.loop-digit.invariant.bound)

pub overflow_add-size : goal.overflow_add-size
overflow_add-size c =
    let most = tens_within c.loop-digit.digit-index (omega arith) in
    let range = digit_at c.args.digits.now c.loop-digit.digit-index c.requires.digits c.loop-digit-test.true in
    omega (arith, c.loop-digit.invariant.bound)

pub loop-digit-preserved : goal.loop-digit-preserved
loop-digit-preserved c =
    let range = digit_at c.args.digits.now c.loop-digit.digit-index c.requires.digits c.loop-digit-test.true in
    record {
      value = grind (arith, common_steps);
      bound = omega (arith, pow_more 10 c.loop-digit.digit-index, c.loop-digit.invariant.bound);
    }
