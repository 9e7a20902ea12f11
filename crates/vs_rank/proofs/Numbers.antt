-- Keys in one number each, and a heap of such numbers.
use Rattle.std.proofs.Common.{◌≡◌, ℕ, ◌+◌, ◌/◌, ◌%◌, ◌<◌, ◌≤◌, ◌-◌, Bool, false, cond, List, [], ◌∷◌, length, get_or, map, take, refl, sym, ap, ◌∙◌, subst, arith, inl, inr, heap_items, heap_len, Global}
use Rattle.std.specs.Prelude.{Option, Some, None, IsSome, IfSome, ◌↔◌, ◌&&◌, nat_lt, nat_le}
use Rattle.std.specs.Option.{option_map_or, option_copied, option_map}
use denote.Ref.{Bor}
use Rattle.std.specs.List.Sorted.{IsPermutation, IsSortedBy}
use Rattle.std.specs.Ordering.{nat_cmp, is_gt, is_lt}
use Rattle.std.specs.BinaryHeap.{IsHeap, IsUpperBound}
use Rattle.std.specs.declared.collections.binary_heap.BinaryHeap.{BinaryHeap}
use Rattle.std.proofs.lemmas.Bool.{both_ways, cases_lt, le-leb, lt-leb}
use Rattle.std.proofs.lemmas.Bool.Decides.{nat_tests}
use Rattle.std.proofs.lemmas.List.{get_or-map, length-map}
use Rattle.std.proofs.lemmas.List.Sorted.{IsPermutation-map, length_permutation}
use Rattle.vs_rank.specs.declared.Key.{Key}
use Rattle.vs_rank.specs.Ranked.{key_cmp, key_lt, with_key, sorted_keys, worst_of, Least, TopIsReplaced, is_beyond, unpacked}
use Rattle.vs_rank.proofs.Sorted.{Ascends}
use Rattle.vs_rank.proofs.Sorted as sorted
use Rattle.vs_rank.proofs.Keys.{key_order, lt_is, gt_is}

-- the order of the numbers is that of the keys
pub lt_packed : (m n : ℕ) → key_lt (unpacked m) (unpacked n) ≡ nat_lt m n
lt_packed m n =
    elim (cases_lt m n) [
      | inl under ↦
          let more : m / 4294967296 ≤ n / 4294967296 = omega arith in
          let rest : n / 4294967296 ≤ m / 4294967296 → m % 4294967296 < n % 4294967296 = λ h. omega arith in
          grind (arith, nat_tests)
      | inr over ↦
          let less : n / 4294967296 ≤ m / 4294967296 = omega arith in
          let rest : m / 4294967296 ≤ n / 4294967296 → n % 4294967296 ≤ m % 4294967296 = λ h. omega arith in
          grind (arith, nat_tests)
    ]

pub is_lt_packed : (m n : ℕ) → is_lt (key_cmp (unpacked m) (unpacked n)) ≡ is_lt (nat_cmp m n)
is_lt_packed m n = lt_is (unpacked m) (unpacked n) ∙ lt_packed m n ∙ grind (arith, nat_tests)

abbrev pub seen : List ℕ → List Key
seen xs = map unpacked xs

upper : (x : ℕ) (xs : List ℕ) → IsUpperBound nat_cmp x xs → IsUpperBound key_cmp (unpacked x) (seen xs)
upper x [] h = tt
upper x (y ∷ ys) h = (is_lt_packed x y ∙ h.0, upper x ys h.1)

sorted-map : (xs : List ℕ) → IsSortedBy (λ x y. is_lt (nat_cmp x y)) xs → IsSortedBy (λ x y. is_lt (key_cmp x y)) (seen xs)
sorted-map [] up = λ k d low high. absurd (omega arith)
sorted-map (x ∷ xs) up = λ k d low high.
    let l : List ℕ = x ∷ xs in
    let within : k + 1 < length l = omega (arith, length-map xs unpacked) in
    let here = get_or-map unpacked l k x d (omega arith) in
    let next = get_or-map unpacked l (k + 1) x d within in
    subst (λ y. is_lt (key_cmp y (get_or (map unpacked l) k d)) ≡ false) (sym next)
    (subst (λ y. is_lt (key_cmp (unpacked (get_or l (k + 1) x)) y) ≡ false) (sym here) (is_lt_packed (get_or l (k + 1) x) (get_or l k x) ∙ up k x low within))

-- ---- a heap of such numbers

heap_long : (h : BinaryHeap ℕ Global) → heap_len h ≡ length (heap_items h)
heap_long h = h.data.ok.0

abbrev pub kept : BinaryHeap ℕ Global → List Key
kept h = sorted_keys (seen (heap_items h))

pub kept_long : (h : BinaryHeap ℕ Global) → length (kept h) ≡ heap_len h
kept_long h = length_permutation (seen (heap_items h)) (kept h) (sorted.sort_permutes key_cmp (seen (heap_items h))) ∙ length-map (heap_items h) unpacked ∙ sym (heap_long h)

pub kept_more : (h k : BinaryHeap ℕ Global) (x : ℕ) (key : Key) → unpacked x ≡ key → IsPermutation (x ∷ heap_items h) (heap_items k) → kept k ≡ with_key (kept h) key
kept_more h k x key is same =
    sym (sorted.sort_permuted key_cmp key_order (seen (x ∷ heap_items h)) (seen (heap_items k)) (IsPermutation-map unpacked (x ∷ heap_items h) (heap_items k) same))
    ∙ ap (λ y. with_key (kept h) y) is

pub top_is : (h : BinaryHeap ℕ Global) (x : ℕ) → 0 < heap_len h → x ≡ get_or (heap_items h) 0 x → IsUpperBound nat_cmp x (heap_items h) → worst_of (kept h) ≡ Some (unpacked x)
top_is h x pos e up =
    let some : 0 < length (heap_items h) = omega (arith, heap_long h) in
    sorted.top_is_last key_cmp key_order (unpacked x) (seen (heap_items h)) (omega (arith, length-map (heap_items h) unpacked)) (ap unpacked e ∙ sym (get_or-map unpacked (heap_items h) 0 x (unpacked x) some)) (upper x (heap_items h) up)

pub none_kept : (h : BinaryHeap ℕ Global) → heap_len h ≤ 0 → None ≡ worst_of (kept h)
none_kept h none = no_worst (kept h) (omega (arith, kept_long h))
  where
    no_worst : (keys : List Key) → length keys ≡ 0 → None ≡ worst_of keys
    no_worst [] e = refl
    no_worst (k ∷ ks) e = absurd (omega arith)

-- what is seen of the top
pub peeked : (h : BinaryHeap ℕ Global) (r : Option (Bor ℕ)) → IsHeap nat_cmp (heap_items h) → (IsSome r ↔ (0 < heap_len h))
    → IfSome r (λ x. x.now ≡ get_or (heap_items h) 0 x.now) → IfSome r (λ x. IsHeap nat_cmp (heap_items h) → IsUpperBound nat_cmp x.now (heap_items h))
    → worst_of (kept h) ≡ option_map unpacked (option_copied r)
peeked h None heap some at greatest =
    elim (cases_lt 0 (heap_len h)) [
      | inl pos ↦ absurd (both_ways false refl (some.1 pos))
      | inr under ↦ sym (none_kept h under)
    ]
peeked h (Some x) heap some at greatest = top_is h x.now (some.0 refl) at (greatest heap)

-- the greatest gave way to another number
pub replaced : (h k : BinaryHeap ℕ Global) (x : ℕ) (key : Key) → unpacked x ≡ key → IsHeap nat_cmp (heap_items h) → TopIsReplaced (heap_items h) (heap_items k) x
    → kept k ≡ with_key (take (length (kept h) - 1) (kept h)) key
replaced h k x key is heap r =
    let front : sorted_keys (seen r.rest) ≡ take (length (kept h) - 1) (kept h) =
    sorted.without_top key_cmp key_order (unpacked r.top) (seen (heap_items h)) (seen r.rest) (IsPermutation-map unpacked (heap_items h) (r.top ∷ r.rest) r.was) (upper r.top (heap_items h) (r.greatest heap)) in
    sym (sorted.sort_permuted key_cmp key_order (seen (x ∷ r.rest)) (seen (heap_items k)) (IsPermutation-map unpacked (x ∷ r.rest) (heap_items k) r.is))
    ∙ (λ t. with_key (front t) (is t))

pub sorted_out : (h : BinaryHeap ℕ Global) (xs : List ℕ) → IsPermutation (heap_items h) xs → IsSortedBy (λ x y. is_lt (nat_cmp x y)) xs → seen xs ≡ kept h
sorted_out h xs same up =
    sym (sorted.sort_is key_cmp key_order (seen (heap_items h)) (seen xs) (sorted.ascends_from_sort key_cmp key_order (seen xs) (sorted-map xs up)) (IsPermutation-map unpacked (heap_items h) xs same))

-- an offer to a full one
pub offered_full : (h : BinaryHeap ℕ Global) (least : Least) (key : Key) (r b : Bool) → (v : Least) → v ≡ least → v.keys ≡ kept h → length least.keys ≡ least.most
    → r ≡ option_map_or (λ worst. key_lt key worst) (worst_of least.keys) false → r ≡ b
    → take least.most (with_key least.keys key) ≡ cond b (with_key (take (length least.keys - 1) least.keys) key) least.keys
offered_full h least key r b v is seen_as full e f =
    let up : Ascends key_cmp least.keys = subst (Ascends key_cmp) (sym seen_as ∙ ap (λ (l : Least). l.keys) is) (sorted.ascends_sorted key_cmp key_order (seen (heap_items h))) in
    sorted.offer_full key_cmp key_order least.keys key least.most full up
    ∙ ap (λ c. cond c (with_key (take (length least.keys - 1) least.keys) key) least.keys) (below_as key (worst_of least.keys) ∙ sym e ∙ f)
  where
    below_as : (key : Key) (o : Option Key) → option_map_or (λ z. is_gt (key_cmp z key)) o false ≡ option_map_or (λ worst. key_lt key worst) o false
    below_as key None = refl
    below_as key (Some z) = gt_is z key

pub beyond_full : (h : BinaryHeap ℕ Global) (key worst : Key) (most spare : ℕ) → most ≤ heap_len h → worst_of (kept h) ≡ Some worst
    → is_beyond (record { most = most; keys = kept h; spare = spare }) key ≡ key_lt worst key
beyond_full h key worst most spare full is = λ t. le-leb most (length (kept h)) (omega (arith, kept_long h)) t && option_map_or (λ last. key_lt last key) (is t) false

pub beyond_room : (h : BinaryHeap ℕ Global) (key : Key) (n most spare : ℕ) → n ≡ heap_len h → n < most
    → nat_le most n ≡ is_beyond (record { most = most; keys = kept h; spare = spare }) key
beyond_room h key n most spare is room =
    lt-leb most n room
    ∙ sym (ap (λ b. b && option_map_or (λ last. key_lt last key) (worst_of (kept h)) false) (lt-leb most (length (kept h)) (omega (arith, kept_long h))))
