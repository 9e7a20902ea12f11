-- The places of ids.
--     place_there            the place of an id that is taken
--     with_last, without     the places after a member comes or goes
--     swap_default, removed_entries      what the removal at a place leaves
use Rattle.std.proofs.Common.{◌≡◌, ◌≢◌, ℕ, zero, suc, ◌<◌, ◌+◌, ◌-◌, Bool, true, false, not, cond, ◌||◌, List, [], ◌∷◌, ◌++◌, length, take, map, refl, sym, ap, ◌∙◌, subst, arith, inl, inr, get_or, set, length-take-le}
use Rattle.std.specs.Prelude.{Some, None, IsSomeAnd, nat_eq, nat_lt, position, slice_get, swap_remove}
use Rattle.std.specs.declared.option.Option.{Option}
use Rattle.std.specs.Map.{keys_of}
use Rattle.std.specs.List.{list_any, position_or_len}
use Rattle.std.proofs.lemmas.Bool.{both_ways, eqb-true, eq-eqb, cases_eq, le-ltb, lt-ltb}
use Rattle.std.proofs.lemmas.List.{length-map, get_or_default, get_or-map, get_or_append_left, get_or_push, get_or-take, get_or-set_same, get_or-set_other, length-set, length_push, take-map, map-set}
use Rattle.std.proofs.lemmas.List.Folds.{list_any_at}
use Rattle.std.proofs.lemmas.List.Sums.{position_or_len_is}
use Rattle.std.proofs.lemmas.Option.{same_Some}
use Rattle.vs_defs.specs.Bytes.{Bytes, same_name}
use Rattle.vs_order.specs.Entries.{Entries, ids_of}
use Rattle.vs_order.specs.Listed.{ArePlaces}

pub first_at : (id d : ℕ) (ids : List ℕ) → list_any (nat_eq id) ids ≡ true → (position_or_len (nat_eq id) ids < length ids) × (get_or ids (position_or_len (nat_eq id) ids) d ≡ id)
first_at id d [] h = absurd (both_ways false refl h)
first_at id d (x ∷ xs) h = by (nat_eq id x) refl (first_at id d xs) h where
  by : (b : Bool) → nat_eq id x ≡ b → (list_any (nat_eq id) xs ≡ true → (position_or_len (nat_eq id) xs < length xs) × (get_or xs (position_or_len (nat_eq id) xs) d ≡ id))
      → (b || list_any (nat_eq id) xs) ≡ true
      → (cond (not b) (1 + position_or_len (nat_eq id) xs) 0 < length (x ∷ xs)) × (get_or (x ∷ xs) (cond (not b) (1 + position_or_len (nat_eq id) xs) 0) d ≡ id)
  by true e later h = (omega arith, sym (eqb-true id x e))
  by false e later h =
      let l = later h in
      let next : suc (position_or_len (nat_eq id) xs) ≡ 1 + position_or_len (nat_eq id) xs = omega arith in
      (omega (arith, l.0), subst (λ k. get_or (x ∷ xs) k d ≡ id) next l.1)

pub place_there : (ids : List ℕ) (places : ℕ → Option ℕ) (id : ℕ) → ArePlaces ids places → list_any (nat_eq id) ids ≡ true
    → (position_or_len (nat_eq id) ids < length ids) × (get_or ids (position_or_len (nat_eq id) ids) id ≡ id) × (places id ≡ Some (position_or_len (nat_eq id) ids))
place_there ids places id are h =
    let f = first_at id id ids h in
    (f.0, f.1, ap places (sym f.1) ∙ are (position_or_len (nat_eq id) ids) id f.0)

-- two members have two ids
apart : (ids : List ℕ) (places : ℕ → Option ℕ) → ArePlaces ids places → (j k d : ℕ) → j < length ids → k < length ids → j ≢ k → get_or ids j d ≢ get_or ids k d
apart ids places are j k d lj lk ne e = ne (same_Some j k (sym (are j d lj) ∙ ap places e ∙ are k d lk))

-- the same places but for one id
abbrev pub IsPlacedAt : (ℕ → Option ℕ) → (ℕ → Option ℕ) → ℕ → ℕ → Type 0
IsPlacedAt places new id place = (new id ≡ Some place) × ((q : ℕ) → q ≢ id → new q ≡ places q)

kept : (ids : List ℕ) (places new : ℕ → Option ℕ) (id place : ℕ) → ArePlaces ids places → IsPlacedAt places new id place → (k d : ℕ) → k < length ids → get_or ids k d ≢ id → new (get_or ids k d) ≡ Some k
kept ids places new id place are p k d lt ne = p.1 (get_or ids k d) ne ∙ are k d lt

pub with_last : (ids : List ℕ) (places new : ℕ → Option ℕ) (id place : ℕ) → place ≡ length ids → ArePlaces ids places → list_any (nat_eq id) ids ≡ false → IsPlacedAt places new id place → ArePlaces (ids ++ id ∷ []) new
with_last ids places new id place last are free p k d lt =
    elim (cases_eq k (length ids)) [
      | inl e ↦ ap new (get_or_push ids id d k (sym e)) ∙ p.0 ∙ ap Some (last ∙ sym e)
      | inr ne ↦
          let low : k < length ids = omega (arith, lt, ne, length_push ids id) in
          ap new (get_or_append_left ids (id ∷ []) d k low)
          ∙ kept ids places new id place are p k d low (λ e. both_ways (list_any (nat_eq id) ids) free (list_any_at (nat_eq id) ids k d low (eq-eqb id (get_or ids k d) (sym e))))
    ]

pub without : (ids : List ℕ) (places new : ℕ → Option ℕ) (place d : ℕ) → place < length ids → ArePlaces ids places → IsPlacedAt places new (get_or ids (length ids - 1) d) place → ArePlaces (swap_remove ids place d) new
without ids places new place d low are p k e lt =
    let n : ℕ = length ids - 1 in
    let y : ℕ = get_or ids n d in
    let long : length (swap_remove ids place d) ≡ n = length-take-le n (set ids place y) (omega (arith, length-set ids place y)) in
    let under : k < n = omega (arith, lt, long) in
    let here : get_or (swap_remove ids place d) k e ≡ get_or (set ids place y) k e = get_or-take n (set ids place y) k e under in
    elim (cases_eq k place) [
      | inl is ↦ ap new (here ∙ ap (λ q. get_or (set ids place y) q e) is ∙ get_or-set_same ids place y e low) ∙ p.0 ∙ ap Some (sym is)
      | inr ne ↦
          let old : get_or (set ids place y) k e ≡ get_or ids k e = get_or-set_other ids place k y e ne in
          ap new (here ∙ old)
          ∙ kept ids places new y place are p k e (omega (arith, under)) (λ same. apart ids places are k n e (omega (arith, under)) (omega (arith, low)) (λ q. omega (arith, q, under)) (same ∙ get_or_default ids n d e (omega (arith, low))))
    ]

-- what is read of an empty list alone doesn't matter
pub swap_default : {X : Type 0} (xs : List X) (i : ℕ) (d e : X) → 0 < length xs → swap_remove xs i d ≡ swap_remove xs i e
swap_default xs i d e h = ap (λ z. take (length xs - 1) (set xs i z)) (get_or_default xs (length xs - 1) d e (omega (arith, h)))

pub swap_map : {X Y : Type 0} (f : X → Y) (xs : List X) (i : ℕ) (d : X) (e : Y) → 0 < length xs → map f (swap_remove xs i d) ≡ swap_remove (map f xs) i e
swap_map f xs i d e h =
    let n : ℕ = length xs - 1 in
    sym (take-map f n (set xs i (get_or xs n d))) ∙ ap (take n) (map-set f xs i (get_or xs n d) ∙ ap (set (map f xs) i) (sym (get_or-map f xs n d e (omega (arith, h)))))
    ∙ ap (λ m. take (m - 1) (set (map f xs) i (get_or (map f xs) n e))) (sym (length-map xs f))
    ∙ ap (λ m. take (length (map f xs) - 1) (set (map f xs) i (get_or (map f xs) (m - 1) e))) (sym (length-map xs f))

pub entry_there : {X : Type 0} (f : X → ℕ) (xs : List X) (k id d : ℕ) → k < length xs → get_or (map f xs) k d ≡ id → IsSomeAnd (slice_get xs k) (λ x. id ≡ f x)
entry_there f [] k id d lt is = absurd (omega (arith, lt))
entry_there f (x ∷ xs) zero id d lt is = sym is
entry_there f (x ∷ xs) (suc k) id d lt is = entry_there f xs k id d (omega (arith, lt)) is

pub entry_at : (es : Entries) (k id : ℕ) → k < length (ids_of es) → get_or (ids_of es) k id ≡ id → IsSomeAnd (slice_get es k) (λ e. id ≡ e.1)
entry_at es k id lt is = entry_there (λ (e : Bytes × ℕ). e.1) es k id id (omega (arith, lt, length-map es (λ (e : Bytes × ℕ). e.1))) is

-- the first place of a name: none before it has the name
pub found_first : (name : Bytes) (names : List Bytes) (place : ℕ) → place < length names → ((k : ℕ) → k < place → same_name name (get_or names k []) ≡ false) → same_name name (get_or names place []) ≡ true
    → position (same_name name) names ≡ Some place
found_first name names place low before is =
    let first : position_or_len (same_name name) names ≡ place = position_or_len_is (same_name name) names place [] (omega (arith, low)) before (λ lt. is) in
    (λ t. cond (nat_lt (first t) (length names)) (Some (first t)) None) ∙ ap (λ b. cond b (Some place) None) (lt-ltb place (length names) low)

pub found_none : (name : Bytes) (names : List Bytes) (place : ℕ) → place ≡ length names → ((k : ℕ) → k < place → same_name name (get_or names k []) ≡ false) → position (same_name name) names ≡ None
found_none name names place all before =
    let first : position_or_len (same_name name) names ≡ place = position_or_len_is (same_name name) names place [] (omega (arith, all)) before (λ lt. absurd (omega (arith, lt, all))) in
    (λ t. cond (nat_lt (first t) (length names)) (Some (first t)) None) ∙ ap (λ b. cond b (Some place) None) (le-ltb place (length names) (omega (arith, all)))

pub name_here : (es : Entries) (k : ℕ) (n : Bytes) → IsSomeAnd (slice_get es k) (λ (e : Bytes × ℕ). n ≡ e.0) → get_or (keys_of es) k [] ≡ n
name_here [] k n h = absurd h
name_here (e ∷ es) zero n h = sym h
name_here (e ∷ es) (suc k) n h = name_here es k n h

pub id_here : (es : Entries) (k id d : ℕ) → IsSomeAnd (slice_get es k) (λ (e : Bytes × ℕ). id ≡ e.1) → get_or (ids_of es) k d ≡ id
id_here [] k id d h = absurd h
id_here (e ∷ es) zero id d h = sym h
id_here (e ∷ es) (suc k) id d h = id_here es k id d h
