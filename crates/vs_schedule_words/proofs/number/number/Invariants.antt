use Rattle.std.proofs.Common.{◌≡◌, ◌<◌, ◌^◌, take}
use Rattle.vs_defs.specs.Decimal.{number_of}
use Rattle.vs_schedule_words.proofs.number.number.Given as goal

abbrev pub invariant-loop-digit : goal.invariant-loop-digit
invariant-loop-digit l = record {
  value : l.size ≡ number_of (take l.digit-index l.digits);
  bound : l.size < 2 ^ 32;
}
