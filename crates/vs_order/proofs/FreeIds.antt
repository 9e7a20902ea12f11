-- Ids that are taken and ids that are free, together the numbers below a bound.
--     split_empty            no ids
--     is_free, is_small      the id that is taken next
--     pushed, removed        what is taken and free after a name comes or goes
use Rattle.std.proofs.Common.{◌≡◌, ℕ, ◌<◌, ◌≤◌, ◌+◌, ◌-◌, false, List, [], ◌∷◌, ◌++◌, length, take, refl, sym, ap, ◌∙◌, subst, arith, get_or, append_assoc, append-nil, length-append}
use Rattle.std.specs.Prelude.{All, nat_eq, swap_remove}
use Rattle.std.specs.Cmp.{nat_eq_equiv}
use Rattle.std.specs.List.{list_any, IsDistinct, slice_set}
use Rattle.std.specs.List.Sorted.{IsPermutation}
use Rattle.std.proofs.lemmas.Bool.{false_from_ne_true, eqb-true}
use Rattle.std.proofs.lemmas.List.{take_more, take_all, length_push, get_or_default, get_or_append_left, get_or-append-add}
use Rattle.std.proofs.lemmas.List.Elements.{All-nil, All-push, All-from_recursion}
use Rattle.std.proofs.lemmas.List.Folds.{list_any_none}
use Rattle.std.proofs.lemmas.List.Sorted.{All-permutation, IsPermutation-refl, IsPermutation-sym, IsPermutation-trans, IsPermutation-append_left, IsPermutation-append_right, IsPermutation-to_front, IsPermutation-middle, IsPermutation-swap_remove, length_permutation}
use Rattle.std.proofs.lemmas.Map.Keys.{IsDistinct-IsPermutation, IsDistinct-head, IsDistinct-push}
use Rattle.vs_defs.specs.Limits.{max_members}
use Rattle.vs_laws.proofs.Tests.{nat_eq_flips}
use Rattle.vs_order.specs.Ids.{AreSplit, next_id, next_after}

pub split_empty : AreSplit [] [] 0
unfolding IsDistinct
split_empty = record { once = tt; below = All-nil (λ id. id < 0); counted = refl; few = omega arith }

-- the same ids in another order
moved : (taken free others rest : List ℕ) (next : ℕ) → IsPermutation (taken ++ free) (others ++ rest) → AreSplit taken free next → AreSplit others rest next
moved taken free others rest next p s = record {
  once = IsDistinct-IsPermutation nat_eq nat_eq_flips (taken ++ free) (others ++ rest) p s.once;
  below = All-permutation (λ id. id < next) (taken ++ free) (others ++ rest) p s.below;
  counted = omega (arith, length_permutation (taken ++ free) (others ++ rest) p, length-append taken free, length-append others rest, s.counted);
  few = s.few;
}

-- the last of the free ones stands beside the taken ones
last_moves : (taken : List ℕ) (x : ℕ) (xs : List ℕ) (d : ℕ)
    → IsPermutation (taken ++ x ∷ xs) ((taken ++ get_or (x ∷ xs) (length (x ∷ xs) - 1) d ∷ []) ++ take (length (x ∷ xs) - 1) (x ∷ xs))
last_moves taken x xs d =
    let n : ℕ = length (x ∷ xs) - 1 in
    let y : ℕ = get_or (x ∷ xs) n d in
    let front = take n (x ∷ xs) in
    let split : x ∷ xs ≡ front ++ y ∷ [] = sym (take_all (n + 1) (x ∷ xs) (omega arith)) ∙ take_more (x ∷ xs) n d (omega arith) in
    subst (λ l. IsPermutation (taken ++ l) ((taken ++ y ∷ []) ++ front)) (sym split)
    (subst (IsPermutation (taken ++ (front ++ y ∷ []))) (sym (append_assoc taken (y ∷ []) front))
    (IsPermutation-append_right taken (front ++ y ∷ []) (y ∷ front) (IsPermutation-to_front front y)))

All-left : (P : ℕ → Type 0) (xs ys : List ℕ) → All P (xs ++ ys) → All P xs
All-left P xs ys h = λ k d lt. subst P (get_or_append_left xs ys d k lt) (h k d (omega (arith, lt, length-append xs ys)))

-- one that stands behind the taken ones is none of them
not_in : (taken rest : List ℕ) (y : ℕ) → IsDistinct nat_eq ((taken ++ y ∷ []) ++ rest) → list_any (nat_eq y) taken ≡ false
not_in taken rest y once =
    let front : IsPermutation ((taken ++ y ∷ []) ++ rest) (y ∷ (taken ++ rest))
    = subst (λ l. IsPermutation l (y ∷ (taken ++ rest))) (sym (append_assoc taken (y ∷ []) rest)) (IsPermutation-middle taken y rest) in
    let apart : All (λ z. nat_eq y z ≡ false) (taken ++ rest)
    = All-from_recursion (λ z. nat_eq y z ≡ false) (taken ++ rest)
    (IsDistinct-head nat_eq y (taken ++ rest) (IsDistinct-IsPermutation nat_eq nat_eq_flips ((taken ++ y ∷ []) ++ rest) (y ∷ (taken ++ rest)) front once)) in
    list_any_none (nat_eq y) taken (All-left (λ z. nat_eq y z ≡ false) taken rest apart)

-- one beyond all is none of them
beyond : (n : ℕ) (xs : List ℕ) → All (λ id. id < n) xs → list_any (nat_eq n) xs ≡ false
beyond n xs h = list_any_none (nat_eq n) xs (λ k d lt. false_from_ne_true (nat_eq n (get_or xs k d)) (λ t. absurd (omega (arith, h k d lt, eqb-true n (get_or xs k d) t))))

pub is_free : (taken free : List ℕ) (next : ℕ) → AreSplit taken free next → list_any (nat_eq (next_id free next)) taken ≡ false
is_free taken [] next s = beyond next taken (All-left (λ id. id < next) taken [] s.below)
is_free taken (x ∷ xs) next s =
    not_in taken (take (length (x ∷ xs) - 1) (x ∷ xs)) (get_or (x ∷ xs) (length (x ∷ xs) - 1) next)
    (IsDistinct-IsPermutation nat_eq nat_eq_flips (taken ++ x ∷ xs) ((taken ++ get_or (x ∷ xs) (length (x ∷ xs) - 1) next ∷ []) ++ take (length (x ∷ xs) - 1) (x ∷ xs)) (last_moves taken x xs next) s.once)

pub is_small : (taken free : List ℕ) (next : ℕ) → AreSplit taken free next → length taken < max_members → next_id free next < max_members
is_small taken [] next s room = omega (arith, room, s.counted)
is_small taken (x ∷ xs) next s room =
    let n : ℕ = length (x ∷ xs) - 1 in
    let low : n < length (x ∷ xs) = omega arith in
    let here : get_or (taken ++ x ∷ xs) (length taken + n) next < next = s.below (length taken + n) next (omega (arith, low, length-append taken (x ∷ xs))) in
    omega (arith, s.few, subst (λ k. k < next) (get_or-append-add taken (x ∷ xs) n next) here)

pub pushed : (taken free : List ℕ) (next : ℕ) → AreSplit taken free next → length taken < max_members
    → AreSplit (taken ++ next_id free next ∷ []) (take (length free - 1) free) (next_after free next)
pushed taken [] next s room = record {
  once = subst (IsDistinct nat_eq) (sym (append-nil (taken ++ next ∷ [])))
      (IsDistinct-push nat_eq_equiv taken next (subst (IsDistinct nat_eq) (append-nil taken) s.once) (beyond next taken (All-left (λ id. id < next) taken [] s.below)));
  below = subst (All (λ id. id < next + 1)) (sym (append-nil (taken ++ next ∷ [])))
      (All-push (λ id. id < next + 1) taken next (λ k d lt. omega (arith, All-left (λ id. id < next) taken [] s.below k d lt)) (omega arith));
  counted = omega (arith, length_push taken next, s.counted);
  few = omega (arith, room, s.counted);
}
pushed taken (x ∷ xs) next s room =
    moved taken (x ∷ xs) (taken ++ get_or (x ∷ xs) (length (x ∷ xs) - 1) next ∷ []) (take (length (x ∷ xs) - 1) (x ∷ xs)) next (last_moves taken x xs next) s

-- the id at a place goes out
pub goes_out : (taken : List ℕ) (place d : ℕ) → place < length taken → IsPermutation taken (get_or taken place d ∷ swap_remove taken place d)
goes_out taken place d low =
    let y : ℕ = get_or taken place d in
    subst (λ l. IsPermutation taken (y ∷ l)) (ap (λ z. take (length taken - 1) (slice_set taken place z)) (get_or_default taken (length taken - 1) y d (omega (arith, low))))
    (IsPermutation-swap_remove taken place y low (get_or_default taken place d y low))

-- and is free again
pub removed : (taken free : List ℕ) (next place d : ℕ) → AreSplit taken free next → place < length taken
    → AreSplit (swap_remove taken place d) (free ++ get_or taken place d ∷ []) next
removed taken free next place d s low =
    let y : ℕ = get_or taken place d in
    let left = swap_remove taken place d in
    moved taken free left (free ++ y ∷ []) next
    (IsPermutation-trans (taken ++ free) (y ∷ (left ++ free)) (left ++ (free ++ y ∷ [])) (IsPermutation-append_left free taken (y ∷ left) (goes_out taken place d low))
    (IsPermutation-trans (y ∷ (left ++ free)) ((left ++ free) ++ y ∷ []) (left ++ (free ++ y ∷ [])) (IsPermutation-sym ((left ++ free) ++ y ∷ []) (y ∷ (left ++ free)) (IsPermutation-to_front (left ++ free) y))
    (subst (IsPermutation ((left ++ free) ++ y ∷ [])) (append_assoc left free (y ∷ [])) (IsPermutation-refl ((left ++ free) ++ y ∷ []))))) s

pub after_least : (free : List ℕ) (next : ℕ) → next_after free next ≤ next + 1
after_least [] next = omega arith
after_least (x ∷ xs) next = omega arith
