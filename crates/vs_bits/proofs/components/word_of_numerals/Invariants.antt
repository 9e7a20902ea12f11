use Rattle.std.proofs.Common.{◌≤◌, map, take}
use Rattle.std.specs.List.{prefix_len}
use Rattle.vs_defs.specs.Numeral.{is_numeral}
use Rattle.vs_bits.specs.Components.{plus_in}
use Rattle.vs_bits.specs.Packed.{IsWordOf}
use Rattle.vs_bits.proofs.components.word_of_numerals.Given as goal

abbrev pub invariant-loop-place : goal.invariant-loop-place
invariant-loop-place l = record {
  filled : IsWordOf l.word (take l.place (map plus_in l.numerals));
  read : l.place ≤ prefix_len is_numeral l.numerals;
}
