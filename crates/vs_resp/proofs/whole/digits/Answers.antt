use Rattle.std.proofs.Common.{◌+◌, ◌*◌, ◌-◌, take, get_or, arith, subst, sym, ◌∙◌}
use Rattle.std.proofs.lemmas.List.{take_more}
use Rattle.vs_defs.specs.Bytes.{Bytes}
use Rattle.vs_stream.specs.Machine.{len}
use Rattle.vs_resp.specs.Bulk.{Leads}
use Rattle.vs_resp.proofs.WholeBulks.{leads_digit}
use Rattle.vs_resp.proofs.whole.digits.Goals as goal

pub digits-preserved : goal.digits-preserved
digits-preserved c =
    let p = c.args.bytes.now in
    let size = c.digits.size in
    let value = c.digits.value in
    let byte = get_or p size 0 in
    record {
      spells = λ k sum ws few.
          subst (λ (ds : Bytes). Leads (len k sum ws 0 0) ds (len k sum ws (size + 1) (value * 10 + (byte - 48)))) (sym (take_more p size 0 (omega (arith, c.digits-test.true, c.min-most.ensures))))
          (leads_digit k sum ws size value byte (take size p) (sym c.is_ascii_digit.ensures.value ∙ c.if-is_ascii_digit.true) (omega (arith, c.digits-test.true, c.min-most.ensures)) c.if-value-gt-MAX_WORD_BYTES.false few (c.digits.invariant.spells k sum ws (omega (arith, few))));
      value = c.if-value-gt-MAX_WORD_BYTES.false;
      within = omega (arith, c.digits-test.true);
    }
