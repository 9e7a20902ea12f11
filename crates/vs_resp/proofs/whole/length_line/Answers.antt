use Rattle.std.proofs.Common.{ℕ, ◌≤◌, ◌+◌, ◌-◌, length, take, drop, refl, arith, subst}
use Rattle.vs_defs.specs.Limits.{max_message_bytes}
use Rattle.std.proofs.lemmas.List.{take_rest}
use Rattle.vs_resp.proofs.WholeBulks.{line_leads, lone_leads, is_digit}
use Rattle.vs_resp.proofs.whole.length_line.Goals as goal

pub returns-clause-leads : goal.returns-clause-leads
returns-clause-leads c = λ l sum ws few. line_leads c.args.bytes.now (take (length c.args.bytes.now - 1) (drop 1 c.args.bytes.now)) c.in_ok-number.number.size c.in_ok-number.number.value l sum ws (omega arith) c.if-bytes-ne36.false (take_rest c.args.bytes.now 1) (c.if-not-ends_line.ensures.line_end refl) (omega arith) (c.in_ok-number.ensures.spells l sum ws few)

pub returns-clause-within : goal.returns-clause-within
returns-clause-within c = omega (arith, c.if-not-ends_line.ensures.within refl)

pub returns-in-Some-clause-leads : goal.returns-in-Some-clause-leads
returns-in-Some-clause-leads c = λ l sum ws few. rw c.from.ensures (lone_leads c.args.bytes.now c.in-Some.digit l sum ws c.in-Some.ensures.line (is_digit c.in-Some.digit c.in-Some.ensures.digit.0 c.in-Some.ensures.digit.1) c.in-Some.ensures.digit.1 (subst (λ (n : ℕ). sum + n ≤ max_message_bytes) c.from.ensures few))
