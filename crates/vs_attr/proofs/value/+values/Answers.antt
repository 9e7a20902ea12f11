use Rattle.std.proofs.Common.{◌≤◌, length, sym, ap, ◌∙◌, arith}
use Rattle.vs_attr.specs.Reading.{rest_of, value_from}
use Rattle.vs_attr.proofs.Values.{value_from_is, value_rest, items_end_none, items_end_more, items_end_last, members_none, members_no_value, members_end_more, members_end_last}
use Rattle.vs_attr.proofs.value.+values.Goals as goal

pub value_end-returns : goal.value_end-returns
value_end-returns t c =
    c.unspaced_end.ensures ∙ ap (λ s. rest_of (value_from c.args.depth s)) c.skip_space.ensures.value ∙ sym (ap rest_of (value_from_is c.args.depth c.args.text.now))

-- ---- items

pub items_end-returns-in_err-rest : goal.items_end-returns-in_err-rest
items_end-returns-in_err-rest t c =
    rw c.from_residual.ensures (sym (items_end_none c.args.depth c.loop-rest.text.now (sym c.in_err-rest.ensures)) ∙ c.loop-rest.invariant)

pub items_end-loop-rest-smaller : goal.items_end-loop-rest-smaller
items_end-loop-rest-smaller t c =
    let h : length c.in_ok-rest.rest.now ≤ length c.loop-rest.text.now = value_rest c.args.depth c.loop-rest.text.now c.in_ok-rest.rest.now (sym c.in_ok-rest.ensures) in
    omega (arith, c.in-Some.ensures.bound)

pub items_end-loop-rest-preserved : goal.items_end-loop-rest-preserved
items_end-loop-rest-preserved t c =
    sym (items_end_more c.args.depth c.loop-rest.text.now c.in_ok-rest.rest.now c.in-Some.more.now (sym c.in_ok-rest.ensures) (sym c.in-Some.ensures.value)) ∙ c.loop-rest.invariant

pub items_end-returns-in-None : goal.items_end-returns-in-None
items_end-returns-in-None t c =
    c.mark_at-in-None.ensures.value ∙ sym (items_end_last c.args.depth c.loop-rest.text.now c.in_ok-rest.rest.now (sym c.in_ok-rest.ensures) (sym c.in-None.ensures.value)) ∙ c.loop-rest.invariant

-- ---- members

pub members_end-returns-in_err-value : goal.members_end-returns-in_err-value
members_end-returns-in_err-value t c =
    rw c.from_residual.ensures (sym (ap rest_of (members_none c.args.depth c.loop-value.text.now (sym c.in_err-value.ensures.value))) ∙ c.loop-value.invariant)

pub members_end-returns-in_err-rest : goal.members_end-returns-in_err-rest
members_end-returns-in_err-rest t c =
    rw c.from_residual-in_err-rest.ensures (sym (ap rest_of (members_no_value c.args.depth c.loop-value.text.now c.in_ok-value.field-0-0.now c.in_ok-value.value.now (sym c.in_ok-value.ensures.value) (sym c.in_err-rest.ensures))) ∙ c.loop-value.invariant)

pub members_end-loop-value-smaller : goal.members_end-loop-value-smaller
members_end-loop-value-smaller t c =
    let h : length c.in_ok-rest.rest.now ≤ length c.in_ok-value.value.now = value_rest c.args.depth c.in_ok-value.value.now c.in_ok-rest.rest.now (sym c.in_ok-rest.ensures) in
    omega (arith, c.in-Some.ensures.bound, c.in_ok-value.ensures.bound)

pub members_end-loop-value-preserved : goal.members_end-loop-value-preserved
members_end-loop-value-preserved t c =
    sym (members_end_more c.args.depth c.loop-value.text.now c.in_ok-value.field-0-0.now c.in_ok-value.value.now c.in_ok-rest.rest.now c.in-Some.more.now (sym c.in_ok-value.ensures.value) (sym c.in_ok-rest.ensures) (sym c.in-Some.ensures.value)) ∙ c.loop-value.invariant

pub members_end-returns-in-None : goal.members_end-returns-in-None
members_end-returns-in-None t c =
    c.mark_at-in-None.ensures.value ∙ sym (members_end_last c.args.depth c.loop-value.text.now c.in_ok-value.field-0-0.now c.in_ok-value.value.now c.in_ok-rest.rest.now (sym c.in_ok-value.ensures.value) (sym c.in_ok-rest.ensures) (sym c.in-None.ensures.value)) ∙ c.loop-value.invariant
