-- The member of a name by its place, where names stand once.
--     is_same, others        who stands at the place has the name, and nobody else
--     removed_at             its removal puts the last member at its place
--     has_place              a name that has a place is a member's
use Rattle.std.proofs.Common.{◌≡◌, ℕ, zero, suc, ◌-◌, ◌<◌, ◌≤◌, true, false, cond, List, [], ◌∷◌, Some, None, length, get_or, take, set, map, refl, sym, ap, ◌∙◌, arith, inl, inr, ltb}
use Rattle.std.specs.Prelude.{slice_get, is_some, position}
use Rattle.std.specs.List.{swap_remove, position_or_len}
use Rattle.std.proofs.Math.Seq.{take-set-lt}
use Rattle.std.proofs.lemmas.Bool.{cond-true, cond-false, cases_order, cases_eq, cases_Bool, false_from_ne_true, ltb-true, ltb-false}
use Rattle.std.proofs.lemmas.List.{get_or-take, length-take-le, take-set-le}
use Rattle.std.proofs.lemmas.Option.{none-some, same_Some, slice_get_past, slice_get_within, get_or_from_slice_get, slice_get-get_or}
use Rattle.std.proofs.lemmas.List.Folds.{find_at}
use Rattle.std.proofs.lemmas.Slice.Eq.{bytes_eq-Decides}
use Rattle.vs_defs.specs.Bytes.{Bytes, last_in}
use Rattle.vs_defs.specs.Store.{Member, is_of_name, is_member, no_member, without_member, put_last_at, HasNamesOnce}

pub is_same : (name : Bytes) (x : Member) → x.name ≡ name → is_of_name name x ≡ true
is_same name x e = (bytes_eq-Decides name x.name).1 (sym e)

pub is_other : (name : Bytes) (x : Member) → (x.name ≡ name → ⊥) → is_of_name name x ≡ false
is_other name x ne = false_from_ne_true (is_of_name name x) (λ t. ne (sym ((bytes_eq-Decides name x.name).0 t)))

apart : (ms : List Member) → HasNamesOnce ms → (j k : ℕ) (d : Member) → (j ≡ k → ⊥) → j < length ms → k < length ms → (get_or ms j d).name ≡ (get_or ms k d).name → ⊥
apart ms once j k d ne hj hk e = elim (cases_order j k) [
  | inl same ↦ ne same
  | inr r ↦ elim r [ inl lt ↦ once j k d lt hk e | inr gt ↦ once k j d gt hj (sym e) ]
]

-- none but the member at the place has the name
abbrev pub AreOthers : Bytes → ℕ → List Member → Type 0
AreOthers name i ms = (k : ℕ) (d : Member) → (k ≡ i → ⊥) → k < length ms → is_of_name name (get_or ms k d) ≡ false

pub others : (ms : List Member) → HasNamesOnce ms → (name : Bytes) (i : ℕ) (x : Member) → slice_get ms i ≡ Some x → x.name ≡ name → AreOthers name i ms
others ms once name i x g e = λ k d ne lt.
    is_other name (get_or ms k d) (λ t. apart ms once k i d ne lt (slice_get_within ms i x g) (t ∙ sym e ∙ sym (ap (λ (y : Member). y.name) (get_or_from_slice_get ms i x d g))))

others_tail : (name : Bytes) (i : ℕ) (y : Member) (ys : List Member) → AreOthers name (suc i) (y ∷ ys) → AreOthers name i ys
others_tail name i y ys o = λ k d ne lt. o (suc k) d (λ e. ne (omega arith)) (omega arith)

others_first : (name : Bytes) (i : ℕ) (y : Member) (ys : List Member) → AreOthers name (suc i) (y ∷ ys) → is_of_name name y ≡ false
others_first name i y ys o = o 0 y (λ e. omega arith) (omega arith)

abbrev pub changed_by : Bytes → (Member → Member) → Member → Member
changed_by name f z = cond (is_of_name name z) (f z) z

all_others : (name : Bytes) (f : Member → Member) (ms : List Member) → ((k : ℕ) (d : Member) → k < length ms → is_of_name name (get_or ms k d) ≡ false) → map (changed_by name f) ms ≡ ms
all_others name f [] o = refl
all_others name f (z ∷ zs) o =
    let first : changed_by name f z ≡ z = cond-false (is_of_name name z) (f z) z (o 0 z (omega arith)) in
    let rest : map (changed_by name f) zs ≡ zs = all_others name f zs (λ k d lt. o (suc k) d (omega arith)) in
    λ t. first t ∷ rest t

pub mapped_at : (name : Bytes) (f : Member → Member) (ms : List Member) (i : ℕ) (y : Member) → slice_get ms i ≡ Some y → is_of_name name y ≡ true → AreOthers name i ms
    → map (changed_by name f) ms ≡ set ms i (f y)
mapped_at name f [] i y g t o = absurd (none-some y g)
mapped_at name f (z ∷ zs) zero y g t o =
    let same : z ≡ y = same_Some z y g in
    let first : changed_by name f z ≡ f y = cond-true (is_of_name name z) (f z) z (ap (is_of_name name) same ∙ t) ∙ ap f same in
    let rest : map (changed_by name f) zs ≡ zs = all_others name f zs (λ k d lt. o (suc k) d (λ e. omega arith) (omega arith)) in
    λ t. first t ∷ rest t
mapped_at name f (z ∷ zs) (suc i) y g t o =
    let first : changed_by name f z ≡ z = cond-false (is_of_name name z) (f z) z (others_first name i z zs o) in
    let rest : map (changed_by name f) zs ≡ set zs i (f y) = mapped_at name f zs i y g t (others_tail name i z zs o) in
    λ t. first t ∷ rest t

last_at : (ms : List Member) (d : Member) → 0 < length ms → last_in ms ≡ Some (get_or ms (length ms - 1) d)
last_at [] d h = absurd (omega arith)
last_at (x ∷ []) d h = refl
last_at (x ∷ y ∷ ys) d h =
    let next : suc (length (y ∷ ys) - 1) ≡ length (x ∷ y ∷ ys) - 1 = omega arith in
    last_at (y ∷ ys) d (omega arith) ∙ ap (λ k. Some (get_or (x ∷ y ∷ ys) k d)) next

taken_get : (n : ℕ) (ms : List Member) (i : ℕ) (x : Member) → slice_get ms i ≡ Some x → i < n → n ≤ length ms → slice_get (take n ms) i ≡ Some x
taken_get n ms i x g lt le =
    let within : i < length (take n ms) = omega (arith, length-take-le n ms le) in
    slice_get-get_or (take n ms) i x within ∙ ap (λ (y : Member). Some y) (get_or-take n ms i x lt ∙ get_or_from_slice_get ms i x x g)

taken_others : (name : Bytes) (n : ℕ) (ms : List Member) (i : ℕ) → n ≤ length ms → AreOthers name i ms → AreOthers name i (take n ms)
taken_others name n ms i le o = λ k d ne lt.
    let under : k < n = omega (arith, length-take-le n ms le) in
    ap (is_of_name name) (get_or-take n ms k d under) ∙ o k d ne (omega arith)

pub removed_at : (name : Bytes) (ms : List Member) (i : ℕ) (x d : Member) → slice_get ms i ≡ Some x → is_of_name name x ≡ true → AreOthers name i ms → without_member name ms ≡ swap_remove ms i d
removed_at name ms i x d g t o =
    let n : ℕ = length ms - 1 in
    let z : Member = get_or ms n d in
    let within : i < length ms = slice_get_within ms i x g in
    let last : last_in ms ≡ Some z = last_at ms d (omega arith) in
    ap (λ l. put_last_at name l (take n ms)) last
    ∙ elim (cases_eq i n) [
      | inl e ↦
          let is : is_of_name name z ≡ true = ap (λ k. is_of_name name (get_or ms k d)) (sym e) ∙ ap (is_of_name name) (get_or_from_slice_get ms i x d g) ∙ t in
          cond-true (is_of_name name z) (take n ms) (map (λ y. cond (is_of_name name y) z y) (take n ms)) is ∙ sym (take-set-le n ms i z (omega arith))
      | inr ne ↦
          let is : is_of_name name z ≡ false = o n d (λ e. ne (sym e)) (omega arith) in
          cond-false (is_of_name name z) (take n ms) (map (λ y. cond (is_of_name name y) z y) (take n ms)) is
          ∙ mapped_at name (λ _. z) (take n ms) i x (taken_get n ms i x g (omega arith) (omega arith)) t (taken_others name n ms i (omega arith) o)
          ∙ sym (take-set-lt n ms i z (omega arith))
    ]

pub has_place : (name : Bytes) (ms : List Member) → is_some (position (is_of_name name) ms) ≡ is_member name ms
has_place name ms =
    let n : ℕ = position_or_len (is_of_name name) ms in
    elim (cases_Bool (ltb n (length ms))) [
      | inl t ↦ ap is_some (cond-true (ltb n (length ms)) (Some n) None t) ∙ sym (ap is_some (find_at (is_of_name name) ms ∙ slice_get-get_or ms n no_member (ltb-true n (length ms) t)))
      | inr f ↦ ap is_some (cond-false (ltb n (length ms)) (Some n) None f) ∙ sym (ap is_some (find_at (is_of_name name) ms ∙ slice_get_past ms n (ltb-false n (length ms) f)))
    ]
