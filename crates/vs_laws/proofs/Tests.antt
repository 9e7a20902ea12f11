-- Laws of tests and of orders.
--     nat_eq_flips      the test of numbers, from either side
--     second_equal      a tie of two orders in turn is one of the second
use Rattle.std.proofs.Common.{◌≡◌, ℕ, true, refl, ap, arith}
use Rattle.std.specs.Prelude.{nat_eq}
use Rattle.std.specs.Ordering.{ordering_then, is_lt, is_gt}
use Rattle.std.specs.declared.cmp.Ordering.{Ordering}
use Rattle.std.specs.declared.cmp.Ordering.TheVariants.{Less, Equal, Greater}
use Rattle.std.proofs.lemmas.Bool.{both_ways}
use Rattle.std.proofs.lemmas.Bool.Decides.{nat_tests}

pub nat_eq_flips : (x y : ℕ) → nat_eq x y ≡ nat_eq y x
nat_eq_flips x y = grind (arith, nat_tests)

pub second_equal : (a b : Ordering) → ordering_then a b ≡ Equal → b ≡ Equal
second_equal Less b h = absurd (both_ways true (ap is_lt h) refl)
second_equal Equal b h = h
second_equal Greater b h = absurd (both_ways true (ap is_gt h) refl)
