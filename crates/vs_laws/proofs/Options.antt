-- Laws of options.
--     is_some_of_map    whether there is one, of what is made of it
--     none_is           there is none where none is seen
use Rattle.std.proofs.Common.{◌≡◌, true, false, Option, Some, None, option_map, is_some, refl}
use Rattle.std.proofs.lemmas.Bool.{both_ways}

pub is_some_of_map : {X Y : Type 0} (f : X → Y) (o : Option X) → is_some (option_map f o) ≡ is_some o
is_some_of_map f None = refl
is_some_of_map f (Some x) = refl

pub none_is : {X : Type 0} (o : Option X) → is_some o ≡ false → o ≡ None
none_is None h = refl
none_is (Some x) h = absurd (both_ways true h refl)
