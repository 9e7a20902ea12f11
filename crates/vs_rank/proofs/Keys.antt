-- The laws of sorting, at keys.
use Rattle.std.proofs.Common.{◌≡◌, ℕ, zero, suc, ◌<◌, Bool, true, false, cond, List, [], ◌∷◌, ◌++◌, length, take, refl, sym, ◌∙◌, arith}
use Rattle.std.specs.Prelude.{filter}
use Rattle.std.specs.Option.{option_map_or}
use Rattle.std.specs.List.{AllByRecursion}
use Rattle.std.specs.List.Sorted.{IsPermutation}
use Rattle.std.specs.Ordering.{is_gt, is_lt}
use Rattle.std.proofs.lemmas.Bool.{both_ways}
use Rattle.std.proofs.lemmas.Bool.Decides.{nat_tests}
use Rattle.std.proofs.lemmas.List.Elements.{All-from_recursion}
use Rattle.vs_rank.specs.declared.Key.{Key}
use Rattle.vs_rank.specs.Ranked.{key_cmp, key_lt, with_key, sorted_keys, worst_of}
use Rattle.vs_rank.specs.Ranked as ranked
use Rattle.vs_rank.proofs.Sorted.{IsOrder, Ascends, AtMost}
use Rattle.vs_rank.proofs.Sorted as sorted

pub gt_is : (x y : Key) → is_gt (key_cmp x y) ≡ key_lt y x
gt_is x y = grind (arith, nat_tests)

pub lt_is : (x y : Key) → is_lt (key_cmp x y) ≡ key_lt x y
lt_is x y = grind (arith, nat_tests)

one_way : (x y : Key) → key_lt y x ≡ true → key_lt x y ≡ false
one_way x y p = grind (arith, nat_tests)

-- x ≤ y ≤ z
pub at_most_trans : (x y z : Key) → key_lt y x ≡ false → key_lt z y ≡ false → key_lt z x ≡ false
at_most_trans x y z p q = grind (arith, nat_tests)

-- x < y ≤ z
pub below_trans : (x y z : Key) → key_lt x y ≡ true → key_lt z y ≡ false → key_lt x z ≡ true
below_trans x y z p q = grind (arith, nat_tests)

same_dist : (x y : Key) → key_lt y x ≡ false → key_lt x y ≡ false → x.dist ≡ y.dist
same_dist x y p q = grind (arith, nat_tests)

same_id : (x y : Key) → key_lt y x ≡ false → key_lt x y ≡ false → x.id ≡ y.id
same_id x y p q = grind (arith, nat_tests)

pub key_order : IsOrder key_cmp
key_order = record {
  one_way = λ x y p. gt_is y x ∙ one_way x y (sym (gt_is x y) ∙ p);
  chain = λ x y z p q. gt_is x z ∙ at_most_trans x y z (sym (gt_is x y) ∙ p) (sym (gt_is y z) ∙ q);
  turned = λ x y. lt_is x y ∙ sym (gt_is y x);
  one = λ x y p q.
      let dist : x.dist ≡ y.dist = same_dist x y (sym (gt_is x y) ∙ p) (sym (gt_is y x) ∙ q) in
      let id : x.id ≡ y.id = same_id x y (sym (gt_is x y) ∙ p) (sym (gt_is y x) ∙ q) in
      λ t. record { dist = dist t; id = id t };
}

-- ---- the laws, of keys

-- x is at most each
abbrev pub Below : Key → List Key → Type 0
Below x xs = AllByRecursion (λ y. key_lt y x ≡ false) xs

abbrev pub Rises : List Key → Type 0
Rises [] = Unit {0}
Rises (x ∷ xs) = Below x xs × Rises xs

below_from : (x : Key) (xs : List Key) → AtMost key_cmp x xs → Below x xs
below_from x [] a = tt
below_from x (y ∷ ys) a = (sym (gt_is x y) ∙ a.0, below_from x ys a.1)

rises_from : (xs : List Key) → Ascends key_cmp xs → Rises xs
rises_from [] a = tt
rises_from (x ∷ xs) a = (below_from x xs a.0, rises_from xs a.1)

pub rises_sorted : (keys : List Key) → Rises (sorted_keys keys)
rises_sorted keys = rises_from (sorted_keys keys) (sorted.ascends_sorted key_cmp key_order keys)

pub same_sorted : (keys : List Key) → IsPermutation keys (sorted_keys keys)
same_sorted keys = sorted.sort_permutes key_cmp keys

below_filter_case : (b : Bool) (x y : Key) (ys : List Key) → key_lt y x ≡ false → Below x ys → Below x (cond b (y ∷ ys) ys)
below_filter_case true x y ys h a = (h, a)
below_filter_case false x y ys h a = a

below_filter : (p : Key → Bool) (x : Key) (ys : List Key) → Below x ys → Below x (filter p ys)
below_filter p x [] a = tt
below_filter p x (y ∷ ys) a = below_filter_case (p y) x y (filter p ys) a.0 (below_filter p x ys a.1)

rises_filter_case : (b : Bool) (x : Key) (xs : List Key) → Below x xs → Rises xs → Rises (cond b (x ∷ xs) xs)
rises_filter_case true x xs h a = (h, a)
rises_filter_case false x xs h a = a

pub rises_filter : (p : Key → Bool) (xs : List Key) → Rises xs → Rises (filter p xs)
rises_filter p [] a = tt
rises_filter p (x ∷ xs) a = rises_filter_case (p x) x (filter p xs) (below_filter p x xs a.0) (rises_filter p xs a.1)

pub ascends_from_rises : (xs : List Key) → Rises xs → ranked.Ascends xs
ascends_from_rises [] r i j d h l = absurd (omega arith)
ascends_from_rises (x ∷ xs) r zero zero d h l = sym (gt_is x x) ∙ sorted.not_above_itself key_cmp key_order x
ascends_from_rises (x ∷ xs) r zero (suc j) d h l = All-from_recursion _ _ r.0 j d (omega arith)
ascends_from_rises (x ∷ xs) r (suc i) zero d h l = absurd (omega arith)
ascends_from_rises (x ∷ xs) r (suc i) (suc j) d h l = ascends_from_rises xs r.1 i j d (omega arith) (omega arith)

-- the front of what passes, with one more key
pub front_with : (p : Key → Bool) (n : ℕ) (keys : List Key) (key : Key)
    → take n (filter p (sorted_keys (keys ++ key ∷ []))) ≡ cond (p key) (take n (with_key (take n (filter p (sorted_keys keys))) key)) (take n (filter p (sorted_keys keys)))
front_with p n keys key = sorted.front_with key_cmp key_order p n keys key

pub some_kept : (keys : List Key) (key : Key) → option_map_or (λ worst. key_lt key worst) (worst_of keys) false ≡ true → 0 < length keys
some_kept [] key h = absurd (both_ways false refl h)
some_kept (x ∷ xs) key h = omega arith
