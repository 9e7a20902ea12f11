use Rattle.std.proofs.Common.{◌≤◌, length, sym, arith}
use Rattle.vs_attr.proofs.Strings.{pieces_rest}
use Rattle.vs_attr.proofs.Values.{member_no_name, member_no_end, member_no_colon, member_whole}
use Rattle.vs_attr.proofs.value.member_at.Goals as goal

pub returns-in_err-name-clause-value : goal.returns-in_err-name-clause-value
returns-in_err-name-clause-value c = rw c.from_residual.ensures (sym (member_no_name c.args.text.now (sym c.in_err-name.ensures.value)))

pub returns-in_err-rest-clause-value : goal.returns-in_err-rest-clause-value
returns-in_err-rest-clause-value c =
    rw c.from_residual-in_err-rest.ensures (sym (member_no_end c.args.text.now c.in_ok-name.name.now (sym c.in_ok-name.ensures.value) (sym c.in_err-rest.ensures)))

pub returns-in_err-value-clause-value : goal.returns-in_err-value-clause-value
returns-in_err-value-clause-value c =
    rw c.from_residual-in_err-value.ensures (sym (member_no_colon c.args.text.now c.in_ok-name.name.now c.in_ok-rest.rest.now (sym c.in_ok-name.ensures.value) (sym c.in_ok-rest.ensures) (sym c.in_err-value.ensures.value)))

pub returns-clause-value : goal.returns-clause-value
returns-clause-value c =
    sym (member_whole c.args.text.now c.in_ok-name.name.now c.in_ok-rest.rest.now c.in_ok-value.value.now (sym c.in_ok-name.ensures.value) (sym c.in_ok-rest.ensures) (sym c.in_ok-value.ensures.value))

pub returns-clause-bound : goal.returns-clause-bound
returns-clause-bound c =
    let h : length c.in_ok-rest.rest.now ≤ length c.in_ok-name.name.now = pieces_rest c.in_ok-name.name.now c.in_ok-rest.rest.now (sym c.in_ok-rest.ensures) in
    omega (arith, c.in_ok-name.ensures.bound, c.in_ok-value.ensures.bound)
