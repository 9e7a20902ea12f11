-- A scan of members, one at a time.
use Rattle.std.proofs.Common.{◌≡◌, ℕ, ◌+◌, ◌-◌, ◌/◌, ◌<◌, ◌≤◌, Bool, true, false, cond, List, [], ◌∷◌, ◌++◌, length, get_or, take, drop, min, refl, sym, ap, ◌∙◌, subst, arith, map, append-nil, take_all}
use Rattle.std.specs.Prelude.{slice_get, slice_range, IsSomeAnd}
use Rattle.std.proofs.lemmas.Option.{slice_get-get_or}
use Rattle.std.proofs.lemmas.List.{map_push, take_more, get_or-drop, length-drop, length-map, length-take-le}
use Rattle.std.proofs.lemmas.List.Sorted.{length_permutation}
use Rattle.vs_defs.specs.Vector.{Vector, ham}
use Rattle.vs_defs.specs.Words.{FitsDimension, bits_of_words, words_ham}
use Rattle.vs_defs.specs.Bytes.{sort_by, place_by}
use Rattle.vs_defs.specs.Store.{Member}
use Rattle.vs_bits.proofs.Distances.{words_ham-same}
use Rattle.vs_rank.specs.Tests.{Attribute}
use Rattle.vs_rank.proofs.Sorted.{sort_push, sort_permutes, take_place}
use Rattle.vs_laws.proofs.Lists.{take_least}
use Rattle.vs_truth.specs.Nearest.{KeepsBits}
use Rattle.vs_truth.specs.Nears.{Near, near_cmp, near_at, placed_from, firsts, nears_between, nears_of}
use Rattle.vs_truth.proofs.Order.{near_order}

join_cond : {A : Type 0} (b : Bool) (x : A) (xs ys : List A) → cond b (x ∷ (xs ++ ys)) (xs ++ ys) ≡ cond b (x ∷ xs) xs ++ ys
join_cond true x xs ys = refl
join_cond false x xs ys = refl

pub placed-append : (p : Attribute → Bool) (n : ℕ) (xs ys : List Member) → placed_from p n (xs ++ ys) ≡ placed_from p n xs ++ placed_from p (n + length xs) ys
placed-append p n [] ys = ap (λ k. placed_from p k ys) (omega arith)
placed-append p n (x ∷ xs) ys =
    let place : (n + 1) + length xs ≡ n + length (x ∷ xs) = omega arith in
    let rest : placed_from p (n + 1) (xs ++ ys) ≡ placed_from p (n + 1) xs ++ placed_from p (n + length (x ∷ xs)) ys
    = placed-append p (n + 1) xs ys ∙ ap (λ k. placed_from p (n + 1) xs ++ placed_from p k ys) place in
    ap (λ r. cond (p x.attr) ((n, x) ∷ r) r) rest
    ∙ join_cond (p x.attr) (n, x) (placed_from p (n + 1) xs) (placed_from p (n + length (x ∷ xs)) ys)

range_more : (xs : List Member) (a b : ℕ) (d : Member) → a ≤ b → b < length xs → slice_range xs a (b + 1) ≡ slice_range xs a b ++ get_or xs b d ∷ []
range_more xs a b d low high =
    let size : (b + 1) - a ≡ (b - a) + 1 = omega arith in
    let at : a + (b - a) ≡ b = omega arith in
    let inside : b - a < length (drop a xs) = omega (arith, length-drop a xs) in
    ap (λ k. take k (drop a xs)) size ∙ take_more (drop a xs) (b - a) d inside
    ∙ ap (λ x. take (b - a) (drop a xs) ++ x ∷ []) (get_or-drop a xs (b - a) d ∙ ap (λ k. get_or xs k d) at)

range_long : (xs : List Member) (a b : ℕ) → a ≤ b → b ≤ length xs → length (slice_range xs a b) ≡ b - a
range_long xs a b low high = length-take-le (b - a) (drop a xs) (omega (arith, length-drop a xs))

-- one more member
placed_more : (p : Attribute → Bool) (xs : List Member) (a b : ℕ) (d : Member) → a ≤ b → b < length xs
    → placed_from p a (slice_range xs a (b + 1)) ≡ placed_from p a (slice_range xs a b) ++ cond (p (get_or xs b d).attr) ((b, get_or xs b d) ∷ []) []
placed_more p xs a b d low high =
    let long : a + length (slice_range xs a b) ≡ b = omega (arith, range_long xs a b low (omega arith)) in
    ap (placed_from p a) (range_more xs a b d low high)
    ∙ placed-append p a (slice_range xs a b) (get_or xs b d ∷ [])
    ∙ ap (λ k. placed_from p a (slice_range xs a b) ++ placed_from p k (get_or xs b d ∷ [])) long

-- what is said of the member at a place
pub said_at : (P : Member → Type 0) (xs : List Member) (i : ℕ) (d : Member) → i < length xs → IsSomeAnd (slice_get xs i) P → P (get_or xs i d)
said_at P xs i d h s = subst (λ o. IsSomeAnd o P) (slice_get-get_or xs i d h) s

-- a step of the scan, at a member that does not pass
step_fails : (p : Attribute → Bool) (q : Vector) (most : ℕ) (xs : List Member) (a i : ℕ) (d : Member) (nears : List Near) → a ≤ i → i < length xs → p (get_or xs i d).attr ≡ false
    → nears ≡ firsts most (nears_between p q xs a i) → nears ≡ firsts most (nears_between p q xs a (i + 1))
step_fails p q most xs a i d nears low h fails before =
    let earlier = placed_from p a (slice_range xs a i) in
    before ∙ ap (λ l. take most (sort_by near_cmp (map (near_at q) l)))
    (sym (placed_more p xs a i d low h ∙ ap (λ b. earlier ++ cond b ((i, get_or xs i d) ∷ []) []) fails ∙ append-nil earlier))

-- and at one that passes
step_passes : (p : Attribute → Bool) (q : Vector) (most : ℕ) (xs : List Member) (a i : ℕ) (d : Member) (near : Near) (nears more : List Near) → a ≤ i → i < length xs → p (get_or xs i d).attr ≡ true
    → near ≡ near_at q (i, get_or xs i d) → nears ≡ firsts most (nears_between p q xs a i) → more ≡ take most (place_by near_cmp near nears) → more ≡ firsts most (nears_between p q xs a (i + 1))
step_passes p q most xs a i d near nears more low h passes is before offered =
    let earlier = placed_from p a (slice_range xs a i) in
    let one : ℕ × Member = (i, get_or xs i d) in
    let all : placed_from p a (slice_range xs a (i + 1)) ≡ earlier ++ one ∷ [] = placed_more p xs a i d low h ∙ ap (λ b. earlier ++ cond b (one ∷ []) []) passes in
    let sorted : sort_by near_cmp (map (near_at q) (placed_from p a (slice_range xs a (i + 1)))) ≡ place_by near_cmp (near_at q one) (sort_by near_cmp (map (near_at q) earlier))
    = ap (λ l. sort_by near_cmp (map (near_at q) l)) all ∙ ap (sort_by near_cmp) (map_push (near_at q) earlier one) ∙ sort_push near_cmp near_order (map (near_at q) earlier) (near_at q one) in
    offered ∙ (λ t. take most (place_by near_cmp (is t) (before t)))
    ∙ take_place near_cmp most (near_at q one) (sort_by near_cmp (map (near_at q) earlier))
    ∙ sym (ap (take most) sorted)

-- a step of the scan, at a member that is offered where it passes
pub step : (p : Attribute → Bool) (q : Vector) (most : ℕ) (xs : List Member) (a i : ℕ) (d : Member) (dist : ℕ) (nears more : List Near) → a ≤ i → i < length xs → dist ≡ ham q (get_or xs i d).bits
    → nears ≡ firsts most (nears_between p q xs a i)
    → more ≡ cond (p (get_or xs i d).attr) (take most (place_by near_cmp (record { dist = dist; name = (get_or xs i d).name; place = i }) nears)) nears
    → more ≡ firsts most (nears_between p q xs a (i + 1))
step p q most xs a i d dist nears more low h far before offered = by (p (get_or xs i d).attr) refl
  where
    near : Near
    near = record { dist = dist; name = (get_or xs i d).name; place = i }

    by : (b : Bool) → p (get_or xs i d).attr ≡ b → more ≡ firsts most (nears_between p q xs a (i + 1))
    by true e = step_passes p q most xs a i d near nears more low h e (λ t. record { dist = far t; name = (get_or xs i d).name; place = i }) before
        (offered ∙ ap (λ b. cond b (take most (place_by near_cmp near nears)) nears) e)
    by false e = step_fails p q most xs a i d more low h e (offered ∙ ap (λ b. cond b (take most (place_by near_cmp near nears)) nears) e ∙ before)

placed_few_case : (b : Bool) (n : ℕ) (r : ℕ × Member) (rows : List (ℕ × Member)) → length rows ≤ n → length (cond b (r ∷ rows) rows) ≤ n + 1
placed_few_case true n r rows h = omega arith
placed_few_case false n r rows h = omega arith

placed_few : (p : Attribute → Bool) (n : ℕ) (xs : List Member) → length (placed_from p n xs) ≤ length xs
placed_few p n [] = omega arith
placed_few p n (x ∷ xs) = omega (arith, placed_few_case (p x.attr) (length xs) (n, x) (placed_from p (n + 1) xs) (placed_few p (n + 1) xs))

-- no more are kept than there are places
pub firsts_least : (p : Attribute → Bool) (q : Vector) (count : ℕ) (xs : List Member) (a b : ℕ) → a ≤ b → b ≤ length xs
    → firsts (min count (b - a)) (nears_between p q xs a b) ≡ firsts count (nears_between p q xs a b)
firsts_least p q count xs a b low high =
    let nears : List Near = nears_between p q xs a b in
    let few : length (sort_by near_cmp nears) ≤ b - a
    = omega (arith, length_permutation nears (sort_by near_cmp nears) (sort_permutes near_cmp nears), length-map (placed_from p a (slice_range xs a b)) (near_at q), placed_few p a (slice_range xs a b), range_long xs a b low high) in
    take_least count (b - a) (sort_by near_cmp nears) few

-- the range of all places
pub between_all : (p : Attribute → Bool) (q : Vector) (xs : List Member) (n : ℕ) → n ≡ length xs → nears_between p q xs 0 n ≡ nears_of p q xs
between_all p q xs n e = ap (λ l. map (near_at q) (placed_from p 0 l)) (take_all (n - 0) xs (omega (arith, e)))

pub same_words : (n m : ℕ) (a b : List ℕ) → m ≡ n → FitsDimension n a → FitsDimension m b → length a ≡ length b
same_words n m a b e p q = p.count ∙ ap (λ k. (k + 63) / 64) (sym e) ∙ sym q.count

-- the words' distance is that of the bits
pub distance_is : (q bits : Vector) (a b : List ℕ) → length bits ≡ length q → FitsDimension (length q) a → bits_of_words (length q) a ≡ q → KeepsBits bits b → words_ham a b ≡ ham q bits
distance_is q bits a b e p value kept =
    let other : bits_of_words (length q) b ≡ bits = ap (λ n. bits_of_words n b) (sym e) ∙ kept.same in
    words_ham-same (length q) a b p (subst (λ n. FitsDimension n b) e kept.fits) ∙ (λ t. ham (value t) (other t))
