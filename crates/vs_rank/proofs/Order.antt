-- Numbers that stand for keys, behind a `Reverse`, in the order of a queue.
use Rattle.std.proofs.Common.{◌≡◌, ℕ, false, List, [], ◌∷◌, map, sym, subst, ◌∙◌}
use Rattle.std.specs.Prelude.{All}
use Rattle.std.specs.List.{AllByRecursion}
use Rattle.std.specs.List.Sorted.{IsPermutation}
use Rattle.std.specs.Ordering.{is_lt}
use Rattle.std.specs.declared.cmp.Reverse.{Reverse}
use Rattle.std.proofs.lemmas.List.Elements.{All-from_recursion}
use Rattle.std.proofs.lemmas.List.Sorted.{IsPermutation-map}
use Rattle.vs_rank.specs.declared.Key.{Key}
use Rattle.vs_rank.specs.Ranked.{key_lt, reverse_cmp, unpacked}
use Rattle.vs_rank.proofs.Keys.{lt_is}
use Rattle.vs_rank.proofs.Numbers.{is_lt_packed}

abbrev pub key_at_front : Reverse ℕ → Key
key_at_front x = unpacked x.0

abbrev pub keys_of : List (Reverse ℕ) → List Key
keys_of xs = map key_at_front xs

-- the order of the queue is that of the keys turned round
reverse_is : (x y : ℕ) → is_lt (reverse_cmp x y) ≡ key_lt (unpacked y) (unpacked x)
reverse_is x y = sym (is_lt_packed y x) ∙ lt_is (unpacked y) (unpacked x)

least_of : (number : ℕ) (xs : List (Reverse ℕ)) → AllByRecursion (λ y. is_lt (reverse_cmp number y.0) ≡ false) xs → AllByRecursion (λ other. key_lt other (unpacked number) ≡ false) (keys_of xs)
least_of number [] h = h
least_of number (x ∷ xs) h = (sym (reverse_is number x.0) ∙ h.0, least_of number xs h.1)

pub all_above : (number : ℕ) (key : Key) (xs : List (Reverse ℕ)) (keys : List Key) → key ≡ unpacked number → keys_of xs ≡ keys → AllByRecursion (λ y. is_lt (reverse_cmp number y.0) ≡ false) xs
    → All (λ other. key_lt other key ≡ false) keys
all_above number key xs keys made is h =
    subst (λ k. All (λ other. key_lt other k ≡ false) keys) (sym made)
    (subst (λ l. All (λ other. key_lt other (unpacked number) ≡ false) l) is (All-from_recursion _ _ (least_of number xs h)))

pub offered : (number : Reverse ℕ) (key : Key) (xs ys : List (Reverse ℕ)) (keys : List Key) → unpacked number.0 ≡ key → keys_of xs ≡ keys → IsPermutation (number ∷ xs) ys → IsPermutation (key ∷ keys) (keys_of ys)
offered number key xs ys keys made is h =
    subst (λ k. IsPermutation (k ∷ keys) (keys_of ys)) made
    (subst (λ l. IsPermutation (unpacked number.0 ∷ l) (keys_of ys)) is (IsPermutation-map key_at_front (number ∷ xs) ys h))

pub taken : (number : Reverse ℕ) (key : Key) (xs ys : List (Reverse ℕ)) (keys : List Key) → key ≡ unpacked number.0 → keys_of xs ≡ keys → IsPermutation xs (number ∷ ys) → IsPermutation keys (key ∷ keys_of ys)
taken number key xs ys keys made is h =
    subst (λ k. IsPermutation keys (k ∷ keys_of ys)) (sym made)
    (subst (λ l. IsPermutation l (unpacked number.0 ∷ keys_of ys)) is (IsPermutation-map key_at_front xs (number ∷ ys) h))
