use Rattle.std.proofs.Common.{◌≡◌, ◌<◌, ◌≤◌, ◌-◌, ◌*◌, ◌∷◌, [], arith, length, length-append, length-take, length-drop, drop, refl, ◌∙◌}
use Rattle.std.proofs.lemmas.List.FromFn.{length-map-range_with_len}
use Rattle.std.proofs.lemmas.List.Sums.{prefix_len-le-length}
use Rattle.std.specs.List.{prefix_len}
use Rattle.vs_defs.specs.Numeral.{is_numeral}
use Rattle.vs_defs.specs.Words.{words_for, word_bit}
use Rattle.vs_bits.proofs.Numerals.{words_more, bits_of_all, part_passes, part_stops}
use Rattle.vs_bits.proofs.bits.Bits.from_numerals.Goals as goal

pub loop-at-preserved : goal.loop-at-preserved
loop-at-preserved c =
    let texts = c.args.numerals.now in
    let from = c.loop-at.at * 64 in
    let part = c.min-end.result - from in
    let some : from < length texts = omega (arith, c.loop-at-test.true, c.loop-at.invariant.end) in
    let before : from ≤ prefix_len is_numeral texts = omega (arith, c.loop-at.invariant.read, some) in
    let all = part_passes is_numeral texts from part before c.in-Ok.ensures.all in
    record {
      count = rw c.push_reserved.ensures.items (omega (arith, length-append c.loop-at.words.items (c.in-Ok.word ∷ []), c.loop-at.invariant.count));
      len = omega (arith, c.push_reserved.ensures.len, c.loop-at.invariant.len);
      room = omega (arith, c.push_reserved.ensures.capacity, c.loop-at.invariant.room);
      filled = rw c.push_reserved.ensures.items
          (words_more c.loop-at.words.items c.in-Ok.word texts c.loop-at.at from c.min-end.result c.loop-at.invariant.count refl c.min-end.ensures c.in-Ok.ensures.word c.loop-at.invariant.filled);
      read = omega (arith, all, length-take part (drop from texts), length-drop from texts, c.min-end.ensures, some);
      end = c.loop-at.invariant.end;
    }

pub returns-in-Err-clause-refused : goal.returns-in-Err-clause-refused
returns-in-Err-clause-refused c =
    let texts = c.args.numerals.now in
    let from = c.loop-at.at * 64 in
    let part = c.min-end.result - from in
    let some : from < length texts = omega (arith, c.loop-at-test.true, c.loop-at.invariant.end) in
    let before : from ≤ prefix_len is_numeral texts = omega (arith, c.loop-at.invariant.read, some) in
    let bad = c.in-Err.ensures.bad in
    (part_stops is_numeral texts from part c.in-Err.place before bad.0 bad.1, omega (arith, bad.1, length-take part (drop from texts), length-drop from texts, c.min-end.ensures))

pub returns-clause-bits : goal.returns-clause-bits
returns-clause-bits c =
    let texts = c.args.numerals.now in
    let done : c.loop-at.at ≡ words_for (length texts) = omega (arith, c.loop-at.auto.at-end, c.loop-at-test.false, c.loop-at.invariant.end) in
    let count : length c.loop-at.words.items ≡ words_for (length texts) = c.loop-at.invariant.count ∙ done in
    bits_of_all c.loop-at.words.items texts count (rw c.loop-at.invariant.count c.loop-at.invariant.filled)
    (omega (arith, done, c.loop-at.invariant.read, prefix_len-le-length is_numeral texts))

pub returns-clause-len : goal.returns-clause-len
returns-clause-len c = length-map-range_with_len (word_bit c.loop-at.words.items) 0 (length c.args.numerals.now)
