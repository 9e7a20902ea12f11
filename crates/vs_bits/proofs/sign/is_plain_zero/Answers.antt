use Rattle.std.proofs.Common.{◌≡◌, ◌≤◌, Bool, true, ◌&&◌, ◌==◌, get_or, ap, ◌∙◌, subst, arith}
use Rattle.std.specs.Char.{is_ascii_digit}
use Rattle.std.specs.List.{list_all}
use Rattle.vs_defs.specs.Bytes.{Bytes}
use Rattle.vs_defs.specs.Numeral.{are_zeros}
use Rattle.vs_bits.proofs.Plain.{plain_numeral, plain_zero, rest_is}
use Rattle.vs_bits.proofs.sign.is_plain_zero.Goals as goal

pub returns-in_ok-zeros-in-48-to-57-clause-numeral : goal.returns-in_ok-zeros-in-48-to-57-clause-numeral
returns-in_ok-zeros-in-48-to-57-clause-numeral c =
    let text = c.args.text.now in
    let least : 48 ≤ get_or text 0 0 = omega arith in
    let most : get_or text 0 0 ≤ 57 = omega arith in
    let point : get_or text 1 0 ≡ 46 = omega arith in
    plain_numeral text c.in-48-to-57.len_at_least least most point
    (subst (λ (ds : Bytes). list_all is_ascii_digit ds ≡ true) (rest_is text) c.in_ok-zeros-in-48-to-57.ensures.digits)

pub returns-in_ok-zeros-in-48-to-57-clause-zero : goal.returns-in_ok-zeros-in-48-to-57-clause-zero
returns-in_ok-zeros-in-48-to-57-clause-zero c =
    let text = c.args.text.now in
    let least : 48 ≤ get_or text 0 0 = omega arith in
    let most : get_or text 0 0 ≤ 57 = omega arith in
    let point : get_or text 1 0 ≡ 46 = omega arith in
    ap (λ (b : Bool). (get_or text 0 0 == 48) && b) (c.in_ok-zeros-in-48-to-57.ensures.zeros ∙ ap are_zeros (rest_is text))
    ∙ plain_zero text c.in-48-to-57.len_at_least least most point
    (subst (λ (ds : Bytes). list_all is_ascii_digit ds ≡ true) (rest_is text) c.in_ok-zeros-in-48-to-57.ensures.digits)
