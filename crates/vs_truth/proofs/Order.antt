-- The order of what the scan finds is total, and the elements of a heap of candidates are seen by it.
use Rattle.std.proofs.Common.{◌≡◌, ℕ, ◌+◌, ◌<◌, ◌≤◌, ◌-◌, Bool, true, false, cond, List, [], ◌∷◌, length, get_or, map, take, refl, sym, ap, ◌∙◌, subst, arith, heap_items, heap_len, Global}
use Rattle.std.specs.Prelude.{Option, Some, None, IsSome, IfSome, slice_get, nat_lt, nat_le, ◌&&◌}
use Rattle.std.specs.List.Sorted.{IsPermutation, IsSortedBy}
use Rattle.std.specs.Ordering.{nat_cmp, ordering_then, is_lt, is_gt}
use Rattle.std.specs.Option.{option_map_or}
use Rattle.std.specs.BinaryHeap.{IsHeap, IsUpperBound, PopsGreatest}
use Rattle.std.specs.Cmp.{IsTotalOrder, nat_cmp_is, then_total, on_total, nat_cmp_total}
use Rattle.std.specs.declared.cmp.Ordering.{Ordering}
use Rattle.std.specs.declared.cmp.Ordering.TheVariants.{Less, Equal, Greater}
use Rattle.std.specs.declared.collections.binary_heap.BinaryHeap.{BinaryHeap}
use Rattle.std.proofs.lemmas.Cmp.{nat_list_cmp_total, ranked}
use Rattle.std.proofs.lemmas.Bool.{and_parts, both_ways, le-leb, leb-true, lt-leb, ltb-true}
use Rattle.std.proofs.lemmas.Map.Lookups.{exact_bytes}
use Rattle.std.proofs.lemmas.List.{get_or-map, length-map}
use Rattle.std.proofs.lemmas.List.Sorted.{IsPermutation-map, length_permutation}
use Rattle.vs_defs.specs.Bytes.{sort_by, place_by, name_cmp}
use Rattle.vs_rank.proofs.Sorted.{IsOrder, Ascends, order_of}
use Rattle.vs_laws.proofs.Tests.{second_equal}
use Rattle.vs_rank.proofs.Sorted as sorted
use Rattle.vs_truth.specs.Nears.{Near, near_cmp, near_of, candidate_cmp, First, is_beyond}
use Rattle.vs_truth.specs.declared.candidate.Candidate.{Candidate}

first_equal : (a b : Ordering) → ordering_then a b ≡ Equal → a ≡ Equal
first_equal Less b h = h
first_equal Equal b h = refl
first_equal Greater b h = h

near_total : IsTotalOrder near_cmp
near_total = then_total (on_total (λ (x : Near). x.dist) nat_cmp_total) (then_total (on_total (λ (x : Near). x.name) nat_list_cmp_total) (on_total (λ (x : Near). x.place) nat_cmp_total))

near_exact : (x y : Near) → near_cmp x y ≡ Equal → x ≡ y
near_exact x y h =
    let rest = second_equal _ _ h in
    let dist : x.dist ≡ y.dist = ranked x.dist y.dist Equal (sym (first_equal _ _ h)) in
    let name : x.name ≡ y.name = exact_bytes x.name y.name (first_equal _ _ rest) in
    let place : x.place ≡ y.place = ranked x.place y.place Equal (sym (second_equal _ _ rest)) in
    λ t. record { dist = dist t; name = name t; place = place t }

pub near_order : IsOrder near_cmp
near_order = order_of near_cmp near_total near_exact

-- ---- candidates, as they are seen

abbrev pub seen : List Candidate → List Near
seen xs = map near_of xs

upper : (x : Candidate) (xs : List Candidate) → IsUpperBound candidate_cmp x xs → IsUpperBound near_cmp (near_of x) (seen xs)
upper x [] h = tt
upper x (y ∷ ys) h = (h.0, upper x ys h.1)

pub sorted-map : {X Y : Type 0} (below : Y → Y → Bool) (f : X → Y) (xs : List X) → IsSortedBy (λ x y. below (f x) (f y)) xs → IsSortedBy below (map f xs)
sorted-map below f [] up = λ k d low high. absurd (omega arith)
sorted-map {X} below f (x ∷ xs) up = λ k d low high.
    let l : List X = x ∷ xs in
    let within : k + 1 < length l = omega (arith, length-map xs f) in
    let here = get_or-map f l k x d (omega arith) in
    let next = get_or-map f l (k + 1) x d within in
    subst (λ y. below y (get_or (map f l) k d) ≡ false) (sym next)
    (subst (λ y. below (f (get_or l (k + 1) x)) y ≡ false) (sym here) (up k x low within))

-- ---- a heap of candidates

pub heap_long : (h : BinaryHeap Candidate Global) → heap_len h ≡ length (heap_items h)
heap_long h = h.data.ok.0

abbrev pub kept : BinaryHeap Candidate Global → List Near
kept h = sort_by near_cmp (seen (heap_items h))

pub kept_long : (h : BinaryHeap Candidate Global) → length (kept h) ≡ heap_len h
kept_long h = length_permutation (seen (heap_items h)) (kept h) (sorted.sort_permutes near_cmp (seen (heap_items h))) ∙ length-map (heap_items h) near_of ∙ sym (heap_long h)

pub kept_more : (h k : BinaryHeap Candidate Global) (x : Candidate) → IsPermutation (x ∷ heap_items h) (heap_items k) → kept k ≡ place_by near_cmp (near_of x) (kept h)
kept_more h k x same = sym (sorted.sort_permuted near_cmp near_order (seen (x ∷ heap_items h)) (seen (heap_items k)) (IsPermutation-map near_of (x ∷ heap_items h) (heap_items k) same))

pub last_is_top : (h : BinaryHeap Candidate Global) (x : Candidate) → 0 < heap_len h → x ≡ get_or (heap_items h) 0 x → IsUpperBound candidate_cmp x (heap_items h)
    → slice_get (kept h) (length (kept h) - 1) ≡ Some (near_of x)
last_is_top h x pos e up =
    let some : 0 < length (heap_items h) = omega (arith, heap_long h) in
    sorted.top_is_last near_cmp near_order (near_of x) (seen (heap_items h)) (omega (arith, length-map (heap_items h) near_of)) (ap near_of e ∙ sym (get_or-map near_of (heap_items h) 0 x (near_of x) some)) (upper x (heap_items h) up)

pub popped : (h k : BinaryHeap Candidate Global) (r : Option Candidate) → IsHeap candidate_cmp (heap_items h) → IsSome r
    → IfSome r (λ x. IsPermutation (heap_items h) (x ∷ heap_items k)) → IfSome r (λ x. PopsGreatest candidate_cmp (heap_items h) x (heap_items k))
    → kept k ≡ take (length (kept h) - 1) (kept h)
popped h k None heap some same greatest = absurd (both_ways false refl some)
popped h k (Some x) heap some same greatest =
    sorted.without_top near_cmp near_order (near_of x) (seen (heap_items h)) (seen (heap_items k)) (IsPermutation-map near_of (heap_items h) (x ∷ heap_items k) same) (upper x (heap_items h) (greatest heap).1)

pub some_kept : (nears : List Near) (x : Near) → option_map_or (λ last. is_gt (near_cmp last x)) (slice_get nears (length nears - 1)) false ≡ true → 0 < length nears
some_kept [] x h = absurd (both_ways false refl h)
some_kept (y ∷ ys) x h = omega arith

-- candidates in order
pub in_order : (xs ys : List Candidate) → IsPermutation xs ys → IsSortedBy (λ x y. is_lt (candidate_cmp x y)) ys → seen ys ≡ sort_by near_cmp (seen xs)
in_order xs ys same up =
    sym (sorted.sort_is near_cmp near_order (seen xs) (seen ys) (sorted.ascends_from_sort near_cmp near_order (seen ys) (sorted-map (λ x y. is_lt (near_cmp x y)) near_of ys up)) (IsPermutation-map near_of xs ys same))

pub sorted_out : (h : BinaryHeap Candidate Global) (xs : List Candidate) → IsPermutation (heap_items h) xs → IsSortedBy (λ x y. is_lt (candidate_cmp x y)) xs → seen xs ≡ kept h
sorted_out h xs same up = in_order (heap_items h) xs same up

pub offered_full : (h : BinaryHeap Candidate Global) (first : First) (x : Near) (r b : Bool) → (v : First) → v ≡ first → v.nears ≡ kept h → length first.nears ≡ first.most
    → r ≡ option_map_or (λ last. is_gt (near_cmp last x)) (slice_get first.nears (length first.nears - 1)) false → r ≡ b
    → take first.most (place_by near_cmp x first.nears) ≡ cond b (place_by near_cmp x (take (length first.nears - 1) first.nears)) first.nears
offered_full h first x r b v is seen_as full e f =
    let up : Ascends near_cmp first.nears = subst (Ascends near_cmp) (sym seen_as ∙ ap (λ (l : First). l.nears) is) (sorted.ascends_sorted near_cmp near_order (seen (heap_items h))) in
    sorted.offer_full near_cmp near_order first.nears x first.most full up
    ∙ ap (λ c. cond c (place_by near_cmp x (take (length first.nears - 1) first.nears)) first.nears) (sym e ∙ f)

-- ---- what is beyond those that are kept

comes_after : (last : Near) (x : Near) → last.dist < x.dist → is_gt (near_cmp last x) ≡ false
comes_after last x h =
    let less : Less ≡ nat_cmp last.dist x.dist = nat_cmp_is last.dist x.dist Less h in
    ap (λ o. is_gt (ordering_then o (ordering_then (name_cmp last.name x.name) (nat_cmp last.place x.place)))) (sym less)

last_before : (o : Option Near) (x : Near) → option_map_or (λ last. nat_lt last.dist x.dist) o false ≡ true → option_map_or (λ last. is_gt (near_cmp last x)) o false ≡ false
last_before None x h = refl
last_before (Some last) x h = comes_after last x (ltb-true last.dist x.dist h)

pub beyond_kept : (h : BinaryHeap Candidate Global) (first : First) (x : Near) → (v : First) → v ≡ first → v.nears ≡ kept h → length first.nears ≤ first.most → is_beyond first x.dist ≡ true
    → take first.most (place_by near_cmp x first.nears) ≡ first.nears
beyond_kept h first x v is seen_as few beyond =
    let parts = and_parts (nat_le first.most (length first.nears)) (option_map_or (λ (last : Near). nat_lt last.dist x.dist) (slice_get first.nears (length first.nears - 1)) false) beyond in
    let full : length first.nears ≡ first.most = omega (arith, few, leb-true _ _ parts.0) in
    offered_full h first x (option_map_or (λ (last : Near). is_gt (near_cmp last x)) (slice_get first.nears (length first.nears - 1)) false) false v is seen_as full refl (last_before (slice_get first.nears (length first.nears - 1)) x parts.1)

pub beyond_full : (h : BinaryHeap Candidate Global) (dist : ℕ) (last : Near) (most : ℕ) → most ≤ heap_len h → slice_get (kept h) (length (kept h) - 1) ≡ Some last
    → is_beyond (record { most = most; nears = kept h }) dist ≡ nat_lt last.dist dist
beyond_full h dist last most full worst =
    let all : nat_le most (length (kept h)) ≡ true = le-leb most (length (kept h)) (omega (arith, full, kept_long h)) in
    λ t. all t && option_map_or (λ (x : Near). nat_lt x.dist dist) (worst t) false

pub beyond_room : (h : BinaryHeap Candidate Global) (dist most : ℕ) → heap_len h < most → is_beyond (record { most = most; nears = kept h }) dist ≡ false
beyond_room h dist most room =
    let few : nat_le most (length (kept h)) ≡ false = lt-leb most (length (kept h)) (omega (arith, room, kept_long h)) in
    ap (λ b. b && option_map_or (λ (x : Near). nat_lt x.dist dist) (slice_get (kept h) (length (kept h) - 1)) false) few
