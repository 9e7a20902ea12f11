use Rattle.std.proofs.Common.{◌≤◌, length, sym, ap, ◌∙◌, arith, option_copied}
use Rattle.vs_attr.specs.Reading.{value_at, member_depth}
use Rattle.vs_attr.specs.Fields.{named_in, found_value}
use Rattle.vs_attr.proofs.Values.{value_rest, members_none, members_no_value, named_step, named_done, named_open, some_value, latest_readable}
use Rattle.vs_attr.proofs.find.last_member.Goals as goal

pub returns-in_err-raw-clause-value : goal.returns-in_err-raw-clause-value
returns-in_err-raw-clause-value c =
    rw c.from_residual.ensures (sym (ap (named_in c.args.name.now (found_value (option_copied c.loop-raw.found))) (members_none member_depth c.loop-raw.text.now (sym c.in_err-raw.ensures.value))) ∙ c.loop-raw.invariant.value)

pub returns-in_err-rest-clause-value : goal.returns-in_err-rest-clause-value
returns-in_err-rest-clause-value c =
    rw c.from_residual-in_err-rest.ensures (sym (ap (named_in c.args.name.now (found_value (option_copied c.loop-raw.found))) (members_no_value member_depth c.loop-raw.text.now c.in_ok-raw.raw.now c.in_ok-raw.value.now (sym c.in_ok-raw.ensures.value) (sym c.in_err-rest.ensures))) ∙ c.loop-raw.invariant.value)

pub loop-raw-smaller : goal.loop-raw-smaller
loop-raw-smaller c =
    let h : length c.in_ok-rest.rest.now ≤ length c.in_ok-raw.value.now = value_rest member_depth c.in_ok-raw.value.now c.in_ok-rest.rest.now (sym c.in_ok-rest.ensures) in
    omega (arith, c.in-Some.ensures.bound, c.in_ok-raw.ensures.bound)

pub loop-raw-preserved : goal.loop-raw-preserved
loop-raw-preserved c = record {
  value = named_step c.args.name.now c.loop-raw.text.now c.in_ok-raw.raw.now c.in_ok-raw.value.now c.in_ok-rest.rest.now c.in-Some.more.now
      (option_copied c.loop-raw.found) (option_copied c.latest-found.result) c.is_named.result
      (sym c.in_ok-raw.ensures.value) (sym c.in_ok-rest.ensures) (sym c.in-Some.ensures.value) c.is_named.ensures c.latest-found.ensures ∙ c.loop-raw.invariant.value;
  readable = rw c.latest-found.ensures (latest_readable c.in_ok-raw.value.now (option_copied c.loop-raw.found) c.is_named.result
      (some_value (value_at member_depth c.in_ok-raw.value.now) c.in_ok-rest.rest.now (sym c.in_ok-rest.ensures)) c.loop-raw.invariant.readable);
}

pub returns-in_err-after-in-None-clause-value : goal.returns-in_err-after-in-None-clause-value
returns-in_err-after-in-None-clause-value c =
    rw c.from_residual-in_err-after-in-None.ensures (named_open c.args.name.now c.loop-raw.text.now c.in_ok-raw.raw.now c.in_ok-raw.value.now c.in_ok-rest.rest.now
    (option_copied c.loop-raw.found) (option_copied c.latest-found.result) c.is_named.result
    (sym c.in_ok-raw.ensures.value) (sym c.in_ok-rest.ensures) (sym c.in-None.ensures.value) c.is_named.ensures c.latest-found.ensures (sym c.in_err-after-in-None.ensures.value) ∙ c.loop-raw.invariant.value)

pub returns-in-None-clause-value : goal.returns-in-None-clause-value
returns-in-None-clause-value c =
    named_done c.args.name.now c.loop-raw.text.now c.in_ok-raw.raw.now c.in_ok-raw.value.now c.in_ok-rest.rest.now c.in_ok-after-in-None.after.now
    (option_copied c.loop-raw.found) (option_copied c.latest-found.result) c.is_named.result
    (sym c.in_ok-raw.ensures.value) (sym c.in_ok-rest.ensures) (sym c.in-None.ensures.value) c.is_named.ensures c.latest-found.ensures (sym c.in_ok-after-in-None.ensures.value) ∙ c.loop-raw.invariant.value
