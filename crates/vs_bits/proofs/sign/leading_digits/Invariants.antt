use Rattle.std.proofs.Common.{◌≡◌, ◌≤◌, ◌-◌, length, take}
use Rattle.std.specs.List.{prefix_len}
use Rattle.std.specs.Char.{is_ascii_digit}
use Rattle.vs_defs.specs.Numeral.{are_zeros}
use Rattle.vs_bits.proofs.sign.leading_digits.Given as goal

abbrev pub invariant-digits : goal.invariant-digits
invariant-digits l = record {
  read : l.count ≤ prefix_len is_ascii_digit l.text;
  within : l.count ≤ length l.text;
  zeros : l.is_zeros ≡ are_zeros (take l.count l.text);
}

abbrev pub decreases-digits : goal.decreases-digits
decreases-digits l = length l.text - l.count
