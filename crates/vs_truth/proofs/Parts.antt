-- Pieces of the members put together: the first few of the pieces' first few are those of all.
use Rattle.std.proofs.Common.{◌≡◌, ℕ, zero, suc, ◌+◌, ◌*◌, ◌/◌, ◌-◌, ◌<◌, ◌≤◌, Bool, List, [], ◌∷◌, ◌++◌, length, get_or, take, drop, map, min, refl, sym, ap, ◌∙◌, subst, arith, inl, inr, append-nil, append_assoc, take_all, take-append-drop}
use Rattle.std.specs.Prelude.{Vec, slice_range, IfOk}
use Rattle.std.specs.declared.result.Result.{Result}
use Rattle.std.specs.declared.alloc.Global.{Global}
use Rattle.std.specs.declared.alloc.AllocError.{AllocError}
use Rattle.std.specs.List.{AllZip, range_with_len, flat_map}
use Rattle.std.proofs.lemmas.List.{take_more, drop-drop, drop_all, length-drop, length-take-le, map-append}
use Rattle.std.proofs.lemmas.Bool.{cases_lt}
use Rattle.vs_defs.specs.Vector.{Vector}
use Rattle.vs_defs.specs.Store.{Member}
use Rattle.vs_rank.specs.Tests.{Attribute}
use Rattle.vs_truth.specs.Nears.{Near, near_of, near_cmp, near_at, nears_of, nears_between, nears_of_piece, placed_from, firsts}
use Rattle.vs_truth.specs.declared.candidate.Candidate.{Candidate}
use Rattle.vs_truth.proofs.Order.{near_order}
use Rattle.vs_truth.proofs.Scanned.{placed-append}
use Rattle.vs_truth.proofs.Merged.{merged}

-- ---- what is said at each number of a range

pub zip_at : {B : Type 0} (R : ℕ → B → Type 0) (s n : ℕ) (ys : List B) → AllZip R (range_with_len s n) ys → (k : ℕ) (d : B) → k < length ys → R (s + k) (get_or ys k d)
zip_at R s n [] h k d lt = absurd (omega arith)
zip_at R s zero (y ∷ ys) h k d lt = absurd h
zip_at R s (suc n) (y ∷ ys) h zero d lt = subst (λ m. R m y) (same s) h.0
  where
    same : (s : ℕ) → s ≡ s + 0
    same s = omega arith
zip_at R s (suc n) (y ∷ ys) h (suc k) d lt = subst (λ m. R m (get_or ys k d)) (next s k) (zip_at R (s + 1) n ys h.1 k d (omega arith))
  where
    next : (s k : ℕ) → (s + 1) + k ≡ s + suc k
    next s k = omega arith

pub zip_long : {B : Type 0} (R : ℕ → B → Type 0) (s n : ℕ) (ys : List B) → AllZip R (range_with_len s n) ys → length ys ≡ n
zip_long R s zero [] h = refl
zip_long R s zero (y ∷ ys) h = absurd h
zip_long R s (suc n) [] h = absurd h
zip_long R s (suc n) (y ∷ ys) h = ap suc (zip_long R (s + 1) n ys h.1)

-- ---- lists put together

flat_more : (f : ℕ → List Near) (is : List ℕ) (i : ℕ) → flat_map f (is ++ i ∷ []) ≡ flat_map f is ++ f i
flat_more f [] i = append-nil (f i)
flat_more f (j ∷ js) i = ap (λ l. f j ++ l) (flat_more f js i) ∙ sym (append_assoc (f j) (flat_map f js) (f i))

range_at : (s n k : ℕ) → k < n → get_or (range_with_len s n) k 0 ≡ s + k
range_at s zero k h = absurd (omega arith)
range_at s (suc n) zero h = omega arith
range_at s (suc n) (suc k) h = range_at (s + 1) n k (omega arith) ∙ omega arith

range_long : (s n : ℕ) → length (range_with_len s n) ≡ n
range_long s zero = refl
range_long s (suc n) = ap suc (range_long (s + 1) n)

-- one piece more
pub together_more : (f : ℕ → List Near) (n k : ℕ) (nears found : List Near) → k < n → nears ≡ flat_map f (take k (range_with_len 0 n)) → found ≡ f k → nears ++ found ≡ flat_map f (take (k + 1) (range_with_len 0 n))
together_more f n k nears found h before is =
    let range : List ℕ = range_with_len 0 n in
    let inside : k < length range = omega (arith, range_long 0 n) in
    let here : get_or range k 0 ≡ k = range_at 0 n k h ∙ omega arith in
    (λ t. before t ++ is t) ∙ sym (flat_more f (take k range) k) ∙ ap (λ i. flat_map f (take k range ++ i ∷ [])) (sym here) ∙ ap (flat_map f) (sym (take_more range k 0 inside))

pub together_all : (f : ℕ → List Near) (n k : ℕ) → n ≤ k → flat_map f (take k (range_with_len 0 n)) ≡ flat_map f (range_with_len 0 n)
together_all f n k h = ap (flat_map f) (take_all k (range_with_len 0 n) (omega (arith, range_long 0 n)))

-- ---- pieces of the members

abbrev nears_at : (Attribute → Bool) → Vector → ℕ → List Member → List Near
nears_at p q a xs = map (near_at q) (placed_from p a xs)

nears-append : (p : Attribute → Bool) (q : Vector) (a : ℕ) (xs ys : List Member) → nears_at p q a (xs ++ ys) ≡ nears_at p q a xs ++ nears_at p q (a + length xs) ys
nears-append p q a xs ys = ap (map (near_at q)) (placed-append p a xs ys) ∙ map-append (near_at q) (placed_from p a xs) (placed_from p (a + length xs) ys)

split : (p : Attribute → Bool) (q : Vector) (a : ℕ) (rest : List Member) → nears_at p q a (take 4096 rest) ++ nears_at p q (a + 4096) (drop 4096 rest) ≡ nears_at p q a rest
split p q a rest =
    elim (cases_lt (length rest) 4096) [
      | inl short ↦
          (λ t. nears_at p q a (take_all 4096 rest (omega arith) t) ++ nears_at p q (a + 4096) (drop_all 4096 rest (omega arith) t)) ∙ append-nil (nears_at p q a rest)
      | inr long ↦
          let place : a + length (take 4096 rest) ≡ a + 4096 = omega (arith, length-take-le 4096 rest long) in
          ap (λ n. nears_at p q a (take 4096 rest) ++ nears_at p q n (drop 4096 rest)) (sym place) ∙ sym (nears-append p q a (take 4096 rest) (drop 4096 rest))
          ∙ ap (nears_at p q a) (take-append-drop 4096 rest)
    ]

-- the pieces from one on are the members from its place on
pieces_from : (p : Attribute → Bool) (q : Vector) (xs : List Member) (k m : ℕ) → length xs < (k + m) * 4096 → flat_map (nears_of_piece p q xs) (range_with_len k m) ≡ nears_at p q (k * 4096) (drop (k * 4096) xs)
pieces_from p q xs k zero h = sym (ap (nears_at p q (k * 4096)) (drop_all (k * 4096) xs (omega arith)))
pieces_from p q xs k (suc m) h =
    let a = k * 4096 in
    let next : (k + 1) * 4096 ≡ a + 4096 = omega arith in
    let rest : List Member = drop a xs in
    let after : drop ((k + 1) * 4096) xs ≡ drop 4096 rest = ap (λ n. drop n xs) next ∙ sym (drop-drop 4096 a xs) in
    ap (λ l. nears_of_piece p q xs k ++ l) (pieces_from p q xs (k + 1) m (omega arith))
    ∙ (λ t. nears_at p q a (take 4096 rest) ++ nears_at p q (next t) (after t))
    ∙ split p q a rest

few_each : (c : ℕ) (g : ℕ → List Near) (is : List ℕ) → flat_map (λ i. firsts c (g i)) is ≡ flat_map (λ l. l) (map (firsts c) (map g is))
few_each c g [] = refl
few_each c g (i ∷ is) = ap (λ l. firsts c (g i) ++ l) (few_each c g is)

all_each : (g : ℕ → List Near) (is : List ℕ) → flat_map (λ l. l) (map g is) ≡ flat_map g is
all_each g [] = refl
all_each g (i ∷ is) = ap (λ l. g i ++ l) (all_each g is)

-- the first few of the pieces' first few
pub firsts_of_all : (p : Attribute → Bool) (q : Vector) (c : ℕ) (xs : List Member) → firsts c (flat_map (λ i. firsts c (nears_of_piece p q xs i)) (range_with_len 0 (length xs / 4096 + 1))) ≡ firsts c (nears_of p q xs)
firsts_of_all p q c xs =
    let range : List ℕ = range_with_len 0 (length xs / 4096 + 1) in
    ap (firsts c) (few_each c (nears_of_piece p q xs) range) ∙ merged near_cmp near_order c (map (nears_of_piece p q xs) range)
    ∙ ap (firsts c) (all_each (nears_of_piece p q xs) range ∙ pieces_from p q xs 0 (length xs / 4096 + 1) (omega arith))

-- what a thread gives of a piece
abbrev pub IsFirsts : (Attribute → Bool) → Vector → List Member → ℕ → ℕ → Result (Vec Candidate Global) AllocError → Type 0
IsFirsts p q xs most piece r = IfOk r (λ found. map near_of found.items ≡ firsts most (nears_of_piece p q xs piece))

-- a piece by its places
pub piece_is : (p : Attribute → Bool) (q : Vector) (xs : List Member) (i a : ℕ) → a ≡ i * 4096 → a ≤ length xs → nears_between p q xs a (a + min 4096 (length xs - a)) ≡ nears_of_piece p q xs i
piece_is p q xs i a is low =
    let part : slice_range xs a (a + min 4096 (length xs - a)) ≡ take 4096 (drop a xs) =
    elim (cases_lt (length xs - a) 4096) [
      | inl under ↦ take_all (a + min 4096 (length xs - a) - a) (drop a xs) (omega (arith, length-drop a xs)) ∙ sym (take_all 4096 (drop a xs) (omega (arith, length-drop a xs)))
      | inr over ↦
          let size : a + min 4096 (length xs - a) - a ≡ 4096 = omega arith in
          ap (λ k. take k (drop a xs)) size
    ] in
    ap (nears_at p q a) part ∙ ap (λ n. nears_at p q n (take 4096 (drop n xs))) is
