use Rattle.std.proofs.Common.{arith, ap, ◌∙◌}
use Rattle.std.proofs.lemmas.List.Sums.{prefix_len-le-length}
use Rattle.vs_defs.specs.Numeral.{is_numeral, sign_of}
use Rattle.vs_bits.specs.Seen.{sign_seen}
use Rattle.vs_bits.proofs.Numerals.{bit_of_text, one_passes, one_stops, text_is_numeral, text_is_none}
use Rattle.vs_bits.proofs.components.word_of_numerals.Goals as goal

pub returns-in_default-clause-bad : goal.returns-in_default-clause-bad
returns-in_default-clause-bad c =
    let texts = c.args.numerals.now in
    let text = c.index-numerals-place.result in
    let bad = text_is_none texts c.loop-place.place text c.index-numerals-place.is (c.in_default.ensures ∙ ap sign_of c.as_slice.ensures) in
    (one_stops is_numeral texts c.loop-place.place text c.loop-place-test.true bad c.loop-place.invariant.read, c.loop-place-test.true)

pub loop-place-preserved : goal.loop-place-preserved
loop-place-preserved c =
    let texts = c.args.numerals.now in
    let text = c.index-numerals-place.result in
    let k = c.loop-place.place in
    let signed = c.in-Some.ensures ∙ ap sign_of c.as_slice.ensures in
    record {
      filled = rw c.from.ensures
          (bit_of_text c.loop-place.word texts k text (sign_seen c.in-Some.sign) c.bit_for.result c.loop-place-test.true (omega (arith, c.loop-place-test.true, c.requires)) c.index-numerals-place.is signed c.bit_for.ensures c.loop-place.invariant.filled);
      read = one_passes is_numeral texts k text c.loop-place-test.true (text_is_numeral texts k text (sign_seen c.in-Some.sign) c.index-numerals-place.is signed) c.loop-place.invariant.read;
    }

pub returns-clause-all : goal.returns-clause-all
returns-clause-all c = omega (arith, c.loop-place-test.false, c.loop-place.invariant.read, c.loop-place.auto.place-end, prefix_len-le-length is_numeral c.args.numerals.now)
