-- Laws of lists.
--     in_at             an element of a list is in it
--     map_same          two functions with the same values
--     take_least        the first few, where what is beyond the list's end isn't counted
use Rattle.std.proofs.Common.{◌≡◌, ℕ, ◌<◌, ◌≤◌, List, [], ◌∷◌, length, map, get_or, take, take_all, true, inl, inr, refl, sym, ap, ◌∙◌, arith}
use Rattle.std.specs.Prelude.{nat_eq, min}
use Rattle.std.specs.List.{list_any}
use Rattle.std.proofs.lemmas.Bool.{cases_lt, eq-eqb}
use Rattle.std.proofs.lemmas.List.Folds.{list_any_at}

pub in_at : (xs : List ℕ) (k d : ℕ) → k < length xs → list_any (nat_eq (get_or xs k d)) xs ≡ true
in_at xs k d h = list_any_at (nat_eq (get_or xs k d)) xs k d h (eq-eqb (get_or xs k d) (get_or xs k d) refl)

pub map_same : {X Y : Type 0} (f g : X → Y) (xs : List X) → ((x : X) → f x ≡ g x) → map f xs ≡ map g xs
map_same f g [] h = refl
map_same f g (x ∷ xs) h = ap (λ y. y ∷ map f xs) (h x) ∙ ap (λ l. g x ∷ l) (map_same f g xs h)

pub take_least : {A : Type 0} (count n : ℕ) (xs : List A) → length xs ≤ n → take (min count n) xs ≡ take count xs
take_least count n xs h = elim (cases_lt n count) [
  | inl over ↦ take_all (min count n) xs (omega arith) ∙ sym (take_all count xs (omega arith))
  | inr under ↦ ap (λ k. take k xs) (omega arith)
]

-- ---- sorting what is seen of elements
