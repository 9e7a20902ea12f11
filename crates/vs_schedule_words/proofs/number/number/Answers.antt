use Rattle.std.proofs.Common.{rules, ◌≡◌, ◌≤◌, ◌<◌, ◌^◌, ◌*◌, ◌+◌, ◌∙◌, None, Some, take, arith, ap}
use Rattle.vs_defs.specs.Decimal.{number_of}
use Rattle.vs_decimal.proofs.DigitLists.{digit_at}
use Rattle.vs_schedule_words.proofs.Digits.{exceeds, too_large, fits}
use Rattle.std.proofs.lemmas.List.{take_all}
use Rattle.vs_schedule_words.proofs.number.number.Goals as goal

pub returns-in_err-checked_mul : goal.returns-in_err-checked_mul
returns-in_err-checked_mul c =
    let none : c.from_residual.result ≡ None = search rules in
    let over : 2 ^ 32 ≤ c.loop-digit.size * 10 = grind arith in
    let most = exceeds c.args.digits.now c.loop-digit.digit-index c.loop-digit-test.true in
    let past : 2 ^ 32 ≤ number_of c.args.digits.now = omega (arith, c.loop-digit.invariant.value) in
    none ∙ too_large _ past

pub returns-in_err-size : goal.returns-in_err-size
returns-in_err-size c =
    let none : c.from_residual-in_err-size.result ≡ None = search rules in
    let range = digit_at c.args.digits.now c.loop-digit.digit-index c.requires c.loop-digit-test.true in
    let over : 2 ^ 32 ≤ c.in_ok-checked_mul.field-0 + c.from.result = grind arith in
    let tens : c.in_ok-checked_mul.field-0 ≡ c.loop-digit.size * 10 = search rules in
    let most = exceeds c.args.digits.now c.loop-digit.digit-index c.loop-digit-test.true in
    let past : 2 ^ 32 ≤ number_of c.args.digits.now = omega (arith, c.loop-digit.invariant.value, c.from.ensures) in
    none ∙ too_large _ past

pub returns : goal.returns
returns c =
    let whole : take c.loop-digit.digit-index c.args.digits.now ≡ c.args.digits.now = take_all c.loop-digit.digit-index c.args.digits.now c.loop-digit-test.false in
    let is : c.loop-digit.size ≡ number_of c.args.digits.now = c.loop-digit.invariant.value ∙ ap number_of whole in
    let small : number_of c.args.digits.now < 2 ^ 32 = omega (arith, c.loop-digit.invariant.bound) in
    ap Some is ∙ fits _ small
