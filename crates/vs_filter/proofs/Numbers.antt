-- Numbers within 128 bits.
use Rattle.std.proofs.Common.{◌≡◌, ◌^◌, true, false, refl, arith, Option, Some, None, ℤ, pos, negsuc}
use Rattle.std.specs.Option.{SomeIff}
use Rattle.std.specs.Prelude.{FitsSigned}
use Rattle.std.specs.Int.{w128}
use Rattle.std.proofs.lemmas.Bool.Decides.{nat_tests}
use Rattle.std.proofs.lemmas.Bool.{lt-ltb}
use Rattle.vs_defs.specs.Filter.{is_i128, number}
use Rattle.vs_filter.specs.Numbers.{number_seen}

pub i128_true : (z : ℤ) → FitsSigned w128 z → is_i128 z ≡ true
i128_true (pos n) f = lt-ltb n (2 ^ 127) f.sfits
i128_true (negsuc n) f = lt-ltb n (2 ^ 127) (omega (arith, f.sfits))

pub i128_false : (z : ℤ) → (FitsSigned w128 z → ⊥) → is_i128 z ≡ false
i128_false (pos n) f = grind (arith, nat_tests)
i128_false (negsuc n) f = grind (arith, nat_tests)

pub checked_is : (o : Option ℤ) (z : ℤ) → SomeIff o (FitsSigned w128 z) z → number_seen o ≡ number z
checked_is None z h = rw (i128_false z h) refl
checked_is (Some n) z h = rw (i128_true z h.0, h.1) refl
