-- How many members have an attribute.
--     count_push          one more at the end
--     count_replaced      another in the place of the one of its name
--     count_has           one that has an attribute is counted
--     count_one           another at one id alone
--     same_members        where none of the ids has another
use Rattle.std.proofs.Common.{◌≡◌, ◌≢◌, ℕ, ◌+◌, ◌≤◌, Bool, true, false, cond, ◌||◌, List, [], ◌∷◌, ◌++◌, map, refl, sym, ap, ◌∙◌, subst, arith, is_some}
use Rattle.std.specs.Prelude.{Option, Some, None, nat_eq}
use Rattle.std.specs.List.{list_any, IsDistinct, AllByRecursion}
use Rattle.std.proofs.lemmas.Bool.{both_ways, eqb-true, eq-eqb}
use Rattle.std.proofs.lemmas.List.Sums.{sum_by-cons, sum_by_push}
use Rattle.vs_defs.specs.Bytes.{Bytes}
use Rattle.vs_defs.specs.Store.{Member, member_of, is_of_name, with_replaced}
use Rattle.vs_set.specs.Kept.{attribute_count, one_if}

abbrev pub has_attr : Member → ℕ
has_attr y = one_if (is_some y.attr)

pub count_first : (y : Member) (ms : List Member) → attribute_count (y ∷ ms) ≡ attribute_count ms + one_if (is_some y.attr)
count_first y ms = omega (arith, sum_by-cons has_attr y ms)

pub count_push : (ms : List Member) (y : Member) → attribute_count (ms ++ y ∷ []) ≡ attribute_count ms + one_if (is_some y.attr)
count_push ms y = sum_by_push has_attr ms y

none_some : {X : Type 0} (x : X) → None ≡ Some x → ⊥
none_some x h = both_ways false refl (ap is_some h)

pub count_replaced : (y old : Member) (ms : List Member) → member_of y.name ms ≡ Some old → attribute_count (with_replaced y ms) + one_if (is_some old.attr) ≡ attribute_count ms + one_if (is_some y.attr)
count_replaced y old [] h = absurd (none_some old h)
count_replaced y old (z ∷ zs) h = by (is_of_name y.name z) h (count_replaced y old zs) where
  by : (b : Bool) → cond b (Some z) (member_of y.name zs) ≡ Some old
      → (member_of y.name zs ≡ Some old → attribute_count (with_replaced y zs) + one_if (is_some old.attr) ≡ attribute_count zs + one_if (is_some y.attr))
      → attribute_count (cond b (y ∷ zs) (z ∷ with_replaced y zs)) + one_if (is_some old.attr) ≡ attribute_count (z ∷ zs) + one_if (is_some y.attr)
  by true e rec =
      omega (arith, count_first y zs, count_first z zs, ap (λ (o : Option Member). one_if (has_attr o)) e) where
        has_attr : Option Member → Bool
        has_attr None = false
        has_attr (Some x) = is_some x.attr
  by false e rec = omega (arith, count_first z (with_replaced y zs), count_first z zs, rec e)

pub count_has : (name : Bytes) (old : Member) (ms : List Member) → member_of name ms ≡ Some old → one_if (is_some old.attr) ≤ attribute_count ms
count_has name old ms h =
    let gone : Member = record { name = name; bits = old.bits; attr = None; level = old.level } in
    omega (arith, count_replaced gone old ms h)

-- ---- members by ids

module _ (f g : ℕ → Member) (id : ℕ) (others : (q : ℕ) → q ≢ id → g q ≡ f q) where
  apart : (q : ℕ) → nat_eq id q ≡ false → q ≢ id
  apart q other is = both_ways (nat_eq id q) other (eq-eqb id q (sym is))

  pub same_members : (xs : List ℕ) → AllByRecursion (λ y. nat_eq id y ≡ false) xs → map g xs ≡ map f xs
  same_members [] all = refl
  same_members (x ∷ xs) all =
      let first = others x (apart x all.0) in
      let rest = same_members xs all.1 in
      λ i. first i ∷ rest i

  pub count_one : (xs : List ℕ) → IsDistinct nat_eq xs → list_any (nat_eq id) xs ≡ true → attribute_count (map g xs) + has_attr (f id) ≡ attribute_count (map f xs) + has_attr (g id)
  unfolding IsDistinct
  count_one [] once h = absurd (both_ways false refl h)
  count_one (x ∷ xs) once h = by (nat_eq id x) refl (count_one xs once.1) where
    by : (b : Bool) → nat_eq id x ≡ b → (list_any (nat_eq id) xs ≡ true → attribute_count (map g xs) + has_attr (f id) ≡ attribute_count (map f xs) + has_attr (g id))
        → attribute_count (map g (x ∷ xs)) + has_attr (f id) ≡ attribute_count (map f (x ∷ xs)) + has_attr (g id)
    by true e rec =
        let is : id ≡ x = eqb-true id x e in
        let rest : attribute_count (map g xs) ≡ attribute_count (map f xs) = ap attribute_count (same_members xs (subst (λ q. AllByRecursion (λ y. nat_eq q y ≡ false) xs) (sym is) once.0)) in
        omega (arith, count_first (g x) (map g xs), count_first (f x) (map f xs), rest, ap (λ q. has_attr (f q)) is, ap (λ q. has_attr (g q)) is)
    by false e rec =
        let later : list_any (nat_eq id) xs ≡ true = sym (ap (λ b. b || list_any (nat_eq id) xs) e) ∙ h in
        omega (arith, count_first (g x) (map g xs), count_first (f x) (map f xs), rec later, ap has_attr (others x (apart x e)))
