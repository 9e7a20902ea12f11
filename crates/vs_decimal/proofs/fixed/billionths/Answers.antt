use Rattle.std.proofs.Common.{◌≤◌, length, rules}
use Rattle.vs_decimal.proofs.DigitLists.{number_of_padded, below_one}
use Rattle.vs_decimal.proofs.fixed.billionths.Goals as goal

pub returns-clause-value : goal.returns-clause-value
returns-clause-value c =
    let short : length c.without_point-digits.result.now ≤ 9 = search rules in
    let e = number_of_padded c.without_point-digits.result.now short in
    cc

pub returns-clause-bound : goal.returns-clause-bound
returns-clause-bound c =
    let short : length c.without_point-digits.result.now ≤ 9 = search rules in
    let b = below_one c.number.result (length c.without_point-digits.result.now) short c.number.ensures.bound in
    rw c.pow.ensures b
