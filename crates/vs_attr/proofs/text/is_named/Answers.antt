use Rattle.std.proofs.Common.{sym, ap, ◌∙◌, arith}
use Rattle.vs_defs.specs.AttributeField.{is_named}
use Rattle.vs_attr.proofs.Names.{compared_same, compared_other, compared_all, is_none_is}
use Rattle.vs_attr.proofs.text.is_named.Goals as goal

pub loop-byte-init : goal.loop-byte-init
loop-byte-init c = ap (is_named c.args.name.now) c.in-Some.ensures

pub returns-then-ne : goal.returns-then-ne
returns-then-ne c =
    sym (compared_other c.args.name.now c.loop-byte.text c.loop-byte.byte-index c.loop-byte-test.true c.next_byte.result c.next_byte.ensures.value (sym c.ne.ensures ∙ c.if-ne.true)) ∙ c.loop-byte.invariant

pub loop-byte-preserved : goal.loop-byte-preserved
loop-byte-preserved c =
    rw c.next_byte.ensures.rest (compared_same c.args.name.now c.loop-byte.text c.loop-byte.byte-index c.loop-byte-test.true c.next_byte.result c.next_byte.ensures.value (sym c.ne.ensures ∙ c.if-ne.false) ∙ c.loop-byte.invariant)

pub returns : goal.returns
returns c =
    compared_all c.args.name.now c.loop-byte.text c.loop-byte.byte-index (omega arith) c.next_byte-2.result c.next_byte-2.ensures.value c.is_none.result (is_none_is c.is_none.result c.next_byte-2.result c.is_none.ensures) ∙ c.loop-byte.invariant
