use Rattle.std.proofs.Common.{◌≡◌, ◌≤◌, ◌*◌, map, take, length, min, vec_len, vec_capacity}
use Rattle.std.specs.List.{prefix_len}
use Rattle.vs_defs.specs.Numeral.{is_numeral}
use Rattle.vs_defs.specs.Words.{words_for}
use Rattle.vs_bits.specs.Components.{plus_in}
use Rattle.vs_bits.specs.Packed.{AreWordsOf}
use Rattle.vs_bits.proofs.bits.Bits.from_numerals.Given as goal

-- the words so far hold the bits of as many numerals as they have places
abbrev pub invariant-loop-at : goal.invariant-loop-at
invariant-loop-at l = record {
  count : length l.words.items ≡ l.at;
  len : vec_len l.words ≡ l.at;
  room : l.at-end ≤ vec_capacity l.words;
  filled : AreWordsOf l.words.items (take (64 * l.at) (map plus_in l.numerals));
  read : min (64 * l.at) (length l.numerals) ≤ prefix_len is_numeral l.numerals;
  end : l.at-end ≡ words_for (length l.numerals);
}
