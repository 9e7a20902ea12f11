-- Counts over filters and over keys of ids.
use Rattle.std.proofs.Common.{◌≡◌, ℕ, zero, suc, ◌+◌, ◌<◌, ◌≤◌, Bool, true, false, ◌&&◌, cond, List, [], ◌∷◌, length, map, get_or, refl, sym, ap, ◌∙◌, arith, ltb}
use Rattle.std.specs.Prelude.{filter, count_by}
use Rattle.std.proofs.lemmas.List.Sums.{sum_by-cons}
use Rattle.std.proofs.lemmas.Bool.Decides.{nat_tests}
use Rattle.vs_rank.specs.declared.Key.{Key}
use Rattle.vs_rank.specs.Ranked.{key_lt}
use Rattle.vs_rank.proofs.Keys.{Rises, Below}

pub count_map : {X Y : Type 0} (q : Y → Bool) (f : X → Y) (xs : List X) → count_by q (map f xs) ≡ count_by (λ x. q (f x)) xs
count_map q f [] = refl
count_map q f (x ∷ xs) = sum_by-cons (λ y. cond (q y) 1 0) (f x) (map f xs) ∙ ap (λ n. cond (q (f x)) 1 0 + n) (count_map q f xs) ∙ sym (sum_by-cons (λ x. cond (q (f x)) 1 0) x xs)

count_filter_case : {X : Type 0} (p q : X → Bool) (b : Bool) (x : X) (xs : List X) → count_by q (filter p xs) ≡ count_by (λ x. p x && q x) xs
    → count_by q (cond b (x ∷ filter p xs) (filter p xs)) ≡ cond (b && q x) 1 0 + count_by (λ x. p x && q x) xs
count_filter_case p q true x xs h = sum_by-cons (λ y. cond (q y) 1 0) x (filter p xs) ∙ ap (λ n. cond (q x) 1 0 + n) h
count_filter_case p q false x xs h = omega (arith, h)

pub count_filter : {X : Type 0} (p q : X → Bool) (xs : List X) → count_by q (filter p xs) ≡ count_by (λ x. p x && q x) xs
count_filter p q [] = refl
count_filter p q (x ∷ xs) = count_filter_case p q (p x) x xs (count_filter p q xs) ∙ sym (sum_by-cons (λ x. cond (p x && q x) 1 0) x xs)

-- strictly nearer than a bound
abbrev pub is_nearer : ℕ → Key → Bool
is_nearer bound key = ltb key.dist bound

later_not_nearer : (bound : ℕ) (x y : Key) → key_lt y x ≡ false → is_nearer bound x ≡ false → is_nearer bound y ≡ false
later_not_nearer bound x y h p = grind (arith, nat_tests)

none_nearer : (bound : ℕ) (x : Key) (xs : List Key) → is_nearer bound x ≡ false → Below x xs → count_by (is_nearer bound) xs ≡ 0
none_nearer bound x [] p b = refl
none_nearer bound x (y ∷ ys) p b =
    let no : is_nearer bound y ≡ false = later_not_nearer bound x y b.0 p in
    let rest : count_by (is_nearer bound) ys ≡ 0 = none_nearer bound x ys p b.1 in
    let all : count_by (is_nearer bound) (y ∷ ys) ≡ cond (is_nearer bound y) 1 0 + count_by (is_nearer bound) ys = sum_by-cons (λ z. cond (is_nearer bound z) 1 0) y ys in
    let all2 : count_by (is_nearer bound) (y ∷ ys) ≡ 0 + count_by (is_nearer bound) ys = all ∙ ap (λ b. cond b 1 0 + count_by (is_nearer bound) ys) no in
    omega (arith, all2, rest)

at_most_one : (b : Bool) → cond b 1 0 ≤ 1
at_most_one true = omega arith
at_most_one false = omega arith

-- where the n-th isn't nearer than the bound, at most n are
pub few_nearer : (bound n : ℕ) (xs : List Key) (d : Key) → Rises xs → n < length xs → is_nearer bound (get_or xs n d) ≡ false → count_by (is_nearer bound) xs ≤ n
few_nearer bound n [] d r h p = absurd (omega arith)
few_nearer bound zero (x ∷ xs) d r h p =
    let none : count_by (is_nearer bound) xs ≡ 0 = none_nearer bound x xs p r.0 in
    let all : count_by (is_nearer bound) (x ∷ xs) ≡ cond (is_nearer bound x) 1 0 + count_by (is_nearer bound) xs = sum_by-cons (λ z. cond (is_nearer bound z) 1 0) x xs in
    let all2 : count_by (is_nearer bound) (x ∷ xs) ≡ 0 + count_by (is_nearer bound) xs = all ∙ ap (λ b. cond b 1 0 + count_by (is_nearer bound) xs) p in
    omega (arith, all2, none)
few_nearer bound (suc n) (x ∷ xs) d r h p =
    let rest : count_by (is_nearer bound) xs ≤ n = few_nearer bound n xs d r.1 (omega arith) p in
    omega (arith, rest, sum_by-cons (λ z. cond (is_nearer bound z) 1 0) x xs, at_most_one (is_nearer bound x))
