-- The first of what the scan found are the definitions' nearest members.
use Rattle.std.proofs.Common.{subst, ◌≡◌, ◌≢◌, ℕ, zero, suc, ◌+◌, ◌<◌, Bool, true, false, cond, List, [], ◌∷◌, ◌++◌, length, take, refl, sym, ap, ◌∙◌, arith, map, append_assoc, length-append}
use Rattle.std.specs.Prelude.{slice_get, Some, filter}
use Rattle.std.specs.List.{AllByRecursion}
use Rattle.std.specs.Ordering.{nat_cmp, ordering_then, is_gt}
use Rattle.std.specs.declared.cmp.Ordering.{Ordering}
use Rattle.std.specs.declared.cmp.Ordering.TheVariants.{Less, Equal, Greater}
use Rattle.std.proofs.Math.Seq.{get_or-append_seam}
use Rattle.std.proofs.lemmas.Bool.Decides.{nat_tests}
use Rattle.std.proofs.lemmas.Map.Lookups.{exact_bytes}
use Rattle.std.proofs.lemmas.Option.{slice_get-get_or}
use Rattle.std.proofs.lemmas.List.{take-map}
use Rattle.std.proofs.lemmas.List.Elements.{All-from_recursion, recursion_from_All}
use Rattle.std.proofs.lemmas.List.Sorted.{All-permutation}
use Rattle.vs_defs.specs.Vector.{Vector, ham}
use Rattle.vs_defs.specs.Bytes.{name_cmp, sort_by, place_by}
use Rattle.vs_defs.specs.Store.{Member}
use Rattle.vs_defs.specs.Truth.{nearness, by_nearness}
use Rattle.vs_rank.specs.Tests.{Attribute}
use Rattle.vs_rank.proofs.Sorted.{sort_permutes}
use Rattle.vs_truth.specs.declared.candidate.Hit.{Hit}
use Rattle.vs_truth.specs.declared.candidate.Candidate.{Candidate}
use Rattle.vs_truth.specs.Nearest.{AreHits, nearest_passing}
use Rattle.vs_truth.specs.Nears.{Near, near_cmp, near_of, near_at, near_hit, nears_of, firsts, placed_from, candidate_hit}

abbrev pub Placed : Type 0
Placed = ℕ × Member

abbrev pub member_in : Placed → Member
member_in r = r.1

abbrev placed_cmp : Vector → Placed → Placed → Ordering
placed_cmp q r s = near_cmp (near_at q r) (near_at q s)

-- ---- lists

map_map : {A B C : Type 0} (f : A → B) (g : B → C) (xs : List A) → map g (map f xs) ≡ map (λ x. g (f x)) xs
map_map f g [] = refl
map_map f g (x ∷ xs) = ap (λ t. g (f x) ∷ t) (map_map f g xs)

map_by : {A B : Type 0} (f g : A → B) (xs : List A) → AllByRecursion (λ x. f x ≡ g x) xs → map f xs ≡ map g xs
map_by f g [] h = refl
map_by f g (x ∷ xs) h = λ t. h.0 t ∷ map_by f g xs h.1 t

all_take : {A : Type 0} (P : A → Type 0) (n : ℕ) (xs : List A) → AllByRecursion P xs → AllByRecursion P (take n xs)
all_take P zero xs h = tt
all_take P (suc n) [] h = tt
all_take P (suc n) (x ∷ xs) h = (h.0, all_take P n xs h.1)

all_sorted : {A : Type 0} (cmp : A → A → Ordering) (P : A → Type 0) (xs : List A) → AllByRecursion P xs → AllByRecursion P (sort_by cmp xs)
all_sorted cmp P xs h = recursion_from_All P (sort_by cmp xs) (All-permutation P xs (sort_by cmp xs) (sort_permutes cmp xs) (All-from_recursion P xs h))

-- ---- sorting what is seen of elements

place_maps_case : {A B : Type 0} (b : Bool) (f : A → B) (x y : A) (ys zs : List A) → map f (cond b (y ∷ zs) (x ∷ y ∷ ys)) ≡ cond b (f y ∷ map f zs) (f x ∷ f y ∷ map f ys)
place_maps_case true f x y ys zs = refl
place_maps_case false f x y ys zs = refl

-- where both orders say the same of x and each
place_maps : {A B : Type 0} (f : A → B) (cmp : A → A → Ordering) (other : B → B → Ordering) (x : A) (xs : List A)
    → AllByRecursion (λ y. is_gt (cmp x y) ≡ is_gt (other (f x) (f y))) xs → map f (place_by cmp x xs) ≡ place_by other (f x) (map f xs)
place_maps f cmp other x [] h = refl
place_maps f cmp other x (y ∷ ys) h =
    place_maps_case (is_gt (cmp x y)) f x y ys (place_by cmp x ys)
    ∙ (λ t. cond (h.0 t) (f y ∷ place_maps f cmp other x ys h.1 t) (f x ∷ f y ∷ map f ys))

all_same : (q : Vector) (x : Placed) (xs : List Placed) → AllByRecursion (λ y. is_gt (placed_cmp q x y) ≡ is_gt (near_cmp (near_at q x) (near_at q y))) xs
all_same q x [] = tt
all_same q x (y ∷ ys) = (refl, all_same q x ys)

sort_seen : (q : Vector) (xs : List Placed) → map (near_at q) (sort_by (placed_cmp q) xs) ≡ sort_by near_cmp (map (near_at q) xs)
sort_seen q [] = refl
sort_seen q (x ∷ xs) = place_maps (near_at q) (placed_cmp q) near_cmp x (sort_by (placed_cmp q) xs) (all_same q x (sort_by (placed_cmp q) xs)) ∙ ap (place_by near_cmp (near_at q x)) (sort_seen q xs)

-- ---- the places

less_is : (m n : ℕ) → m < n → nat_cmp m n ≡ Less
less_is m n h = grind (arith, nat_tests)

decided : (a b c : Ordering) → c ≡ Less → is_gt (ordering_then a (ordering_then b c)) ≡ is_gt (ordering_then a b)
decided Less b c e = refl
decided Equal Less c e = refl
decided Equal Equal c e = ap is_gt e
decided Equal Greater c e = refl
decided Greater b c e = refl

later_case : (b : Bool) (m n : ℕ) (x : Member) (rows : List Placed) → m < n → AllByRecursion (λ (r : Placed). m < r.0) rows → AllByRecursion (λ (r : Placed). m < r.0) (cond b ((n, x) ∷ rows) rows)
later_case true m n x rows h a = (h, a)
later_case false m n x rows h a = a

later : (p : Attribute → Bool) (m n : ℕ) (xs : List Member) → m < n → AllByRecursion (λ (r : Placed). m < r.0) (placed_from p n xs)
later p m n [] h = tt
later p m n (x ∷ xs) h = later_case (p x.attr) m n x (placed_from p (n + 1) xs) h (later p m (n + 1) xs (omega arith))

agree : (q : Vector) (n : ℕ) (x : Member) (rows : List Placed) → AllByRecursion (λ (r : Placed). n < r.0) rows
    → AllByRecursion (λ r. is_gt (placed_cmp q (n, x) r) ≡ is_gt (nearness q x r.1)) rows
agree q n x [] h = tt
agree q n x (r ∷ rows) h = (decided (nat_cmp (ham q x.bits) (ham q r.1.bits)) (name_cmp x.name r.1.name) (nat_cmp n r.0) (less_is n r.0 h.0), agree q n x rows h.1)

members_case : (b : Bool) (q : Vector) (n : ℕ) (x : Member) (rows : List Placed) (xs : List Member) → AllByRecursion (λ (r : Placed). n < r.0) rows
    → map member_in (sort_by (placed_cmp q) rows) ≡ sort_by (nearness q) xs
    → map member_in (sort_by (placed_cmp q) (cond b ((n, x) ∷ rows) rows)) ≡ sort_by (nearness q) (cond b (x ∷ xs) xs)
members_case true q n x rows xs after h =
    place_maps member_in (placed_cmp q) (nearness q) (n, x) (sort_by (placed_cmp q) rows) (agree q n x (sort_by (placed_cmp q) rows) (all_sorted (placed_cmp q) (λ (r : Placed). n < r.0) rows after))
    ∙ ap (place_by (nearness q) x) h
members_case false q n x rows xs after h = h

-- the members in the order of the places and those in the definitions' order
sort_members : (p : Attribute → Bool) (q : Vector) (n : ℕ) (xs : List Member) → map member_in (sort_by (placed_cmp q) (placed_from p n xs)) ≡ by_nearness q (filter (λ x. p x.attr) xs)
sort_members p q n [] = refl
sort_members p q n (x ∷ xs) =
    members_case (p x.attr) q n x (placed_from p (n + 1) xs) (filter (λ y. p y.attr) xs) (later p n (n + 1) xs (omega arith)) (sort_members p q (n + 1) xs)

-- each stands at its place
stands_case : (b : Bool) (members : List Member) (n : ℕ) (x : Member) (rows : List Placed) → slice_get members n ≡ Some x → AllByRecursion (λ (r : Placed). slice_get members r.0 ≡ Some r.1) rows
    → AllByRecursion (λ (r : Placed). slice_get members r.0 ≡ Some r.1) (cond b ((n, x) ∷ rows) rows)
stands_case true members n x rows e h = (e, h)
stands_case false members n x rows e h = h

seam : (before : List Member) (x : Member) (xs : List Member) → slice_get (before ++ x ∷ xs) (length before) ≡ Some x
seam before x xs =
    let within : length before < length (before ++ x ∷ xs) = omega (arith, length-append before (x ∷ xs)) in
    slice_get-get_or (before ++ x ∷ xs) (length before) x within ∙ ap (λ y. Some y) (get_or-append_seam before x xs x)

stand : (p : Attribute → Bool) (members before xs : List Member) (n : ℕ) → members ≡ before ++ xs → n ≡ length before
    → AllByRecursion (λ (r : Placed). slice_get members r.0 ≡ Some r.1) (placed_from p n xs)
stand p members before [] n e l = tt
stand p members before (x ∷ xs) n e l =
    let here : slice_get members n ≡ Some x = (λ t. slice_get (e t) (l t)) ∙ seam before x xs in
    stands_case (p x.attr) members n x (placed_from p (n + 1) xs) here
    (stand p members (before ++ x ∷ []) xs (n + 1) (e ∙ sym (append_assoc before (x ∷ []) xs)) (omega (arith, length-append before (x ∷ []))))

-- ---- the hits

abbrev pub IsPlaced : List Member → Placed → Type 0
IsPlaced members r = slice_get members r.0 ≡ Some r.1

-- members at their places, in order
hits_are : (q : Vector) (members : List Member) (first : List Placed) (nears : List Near) (hits : List Hit)
    → hits ≡ map near_hit nears → nears ≡ map (near_at q) first → AllByRecursion (IsPlaced members) first → AreHits q members (map member_in first) hits
hits_are q members first nears hits made are all = record {
  places =
      ap (map (λ (h : Hit). slice_get members h.place)) (made ∙ ap (map near_hit) are)
      ∙ map_map near_hit (λ (h : Hit). slice_get members h.place) (map (near_at q) first)
      ∙ map_map (near_at q) (λ (n : Near). slice_get members n.place) first
      ∙ map_by (λ (r : Placed). slice_get members r.0) (λ (r : Placed). Some r.1) first all
      ∙ sym (map_map member_in (λ (x : Member). Some x) first);
  dists =
      ap (map (λ (h : Hit). h.dist)) (made ∙ ap (map near_hit) are)
      ∙ map_map near_hit (λ (h : Hit). h.dist) (map (near_at q) first)
      ∙ map_map (near_at q) (λ (n : Near). n.dist) first
      ∙ sym (map_map member_in (λ (x : Member). ham q x.bits) first);
}

pub answered : (p : Attribute → Bool) (q : Vector) (count : ℕ) (members : List Member) (xs : List Candidate) (hits : List Hit)
    → hits ≡ map candidate_hit xs → map near_of xs ≡ firsts count (nears_of p q members)
    → AreHits q members (nearest_passing p count q members) hits
answered p q count members xs hits made found =
    let rows : List Placed = placed_from p 0 members in
    let ranked : List Placed = sort_by (placed_cmp q) rows in
    let first : List Placed = take count ranked in
    let nears : map near_of xs ≡ map (near_at q) first = found ∙ ap (take count) (sym (sort_seen q rows)) ∙ take-map (near_at q) count ranked in
    let members_are : map member_in first ≡ nearest_passing p count q members = sym (take-map member_in count ranked) ∙ ap (take count) (sort_members p q 0 members) in
    let all : AllByRecursion (IsPlaced members) first = all_take (IsPlaced members) count ranked (all_sorted (placed_cmp q) (IsPlaced members) rows (stand p members [] members 0 refl refl)) in
    subst (λ l. AreHits q members l hits) members_are (hits_are q members first (map near_of xs) hits (made ∙ sym (map_map near_of near_hit xs)) nears all)

-- ---- members of different names, in any order

then_equal : (a b : Ordering) → (b ≡ Equal → ⊥) → (c : Ordering) → is_gt (ordering_then a (ordering_then b c)) ≡ is_gt (ordering_then a b)
then_equal Less b ne c = refl
then_equal Equal Less ne c = refl
then_equal Equal Equal ne c = absurd (ne refl)
then_equal Equal Greater ne c = refl
then_equal Greater b ne c = refl

agree_named : (q : Vector) (x : Placed) (rows : List Placed) → AllByRecursion (λ (r : Placed). x.1.name ≢ r.1.name) rows
    → AllByRecursion (λ (r : Placed). is_gt (placed_cmp q x r) ≡ is_gt (nearness q x.1 r.1)) rows
agree_named q x [] h = tt
agree_named q x (r ∷ rows) h = (
  then_equal (nat_cmp (ham q x.1.bits) (ham q r.1.bits)) (name_cmp x.1.name r.1.name) (λ e. h.0 (exact_bytes x.1.name r.1.name e)) (nat_cmp x.0 r.0),
  agree_named q x rows h.1,
)

abbrev pub HaveNamesOnce : List Placed → Type 0
HaveNamesOnce [] = Unit {0}
HaveNamesOnce (x ∷ rows) = AllByRecursion (λ (r : Placed). x.1.name ≢ r.1.name) rows × HaveNamesOnce rows

sort_named : (q : Vector) (rows : List Placed) → HaveNamesOnce rows → map member_in (sort_by (placed_cmp q) rows) ≡ by_nearness q (map member_in rows)
sort_named q [] h = refl
sort_named q (x ∷ rows) h =
    place_maps member_in (placed_cmp q) (nearness q) x (sort_by (placed_cmp q) rows)
    (agree_named q x (sort_by (placed_cmp q) rows) (all_sorted (placed_cmp q) (λ (r : Placed). x.1.name ≢ r.1.name) rows h.0))
    ∙ ap (place_by (nearness q) x.1) (sort_named q rows h.1)

pub named_hits : (q : Vector) (count : ℕ) (members : List Member) (rows : List Placed) (hits : List Hit) → HaveNamesOnce rows → AllByRecursion (IsPlaced members) rows
    → hits ≡ map near_hit (take count (sort_by near_cmp (map (near_at q) rows))) → AreHits q members (take count (by_nearness q (map member_in rows))) hits
named_hits q count members rows hits once all made =
    let ranked : List Placed = sort_by (placed_cmp q) rows in
    subst (λ l. AreHits q members l hits) (sym (take-map member_in count ranked) ∙ ap (take count) (sort_named q rows once))
    (hits_are q members (take count ranked) (take count (sort_by near_cmp (map (near_at q) rows))) hits made (ap (take count) (sym (sort_seen q rows)) ∙ take-map (near_at q) count ranked)
    (all_take (IsPlaced members) count ranked (all_sorted (placed_cmp q) (IsPlaced members) rows all)))
