-- Beginnings of one list, and facts of a list's elements by their places.
use Rattle.std.proofs.Common.{◌≡◌, ◌≢◌, ◌⊎◌, ℕ, zero, suc, ◌≤◌, List, [], ◌∷◌, ◌++◌, length, set, refl, ap, sym, ◌∙◌, subst, inl, inr, ⊎_elim, arith, append_assoc, append-nil, length-append}
use mathlib.Core.List.{IsPrefix}
use mathlib.Core.Option.{some, some-injective, some-ne-none}
use lib.ListN.{get_elem?}
use Rattle.atomic_table.proofs.Lists.{at_set}

pub prefix_self : {A : Type 0} (xs : List A) → IsPrefix xs xs
prefix_self xs = ([], append-nil xs)

pub prefix_trans : {A : Type 0} (xs ys zs : List A) → IsPrefix xs ys → IsPrefix ys zs → IsPrefix xs zs
prefix_trans xs ys zs p q = (p.0 ++ q.0, sym (append_assoc xs p.0 q.0) ∙ (ap (λ w. w ++ q.0) p.1 ∙ q.1))

pub prefix_push : {A : Type 0} (xs : List A) (x : A) → IsPrefix xs (xs ++ x ∷ [])
prefix_push xs x = (x ∷ [], refl)

pub prefix_length : {A : Type 0} (xs ys : List A) → IsPrefix xs ys → length xs ≤ length ys
prefix_length xs ys p = omega (arith, sym (ap length p.1) ∙ length-append xs p.0)

-- a fact of each element, by its place: after one is set, and after one is put last
pub each_set : {A : Type 0} (P : ℕ → A → Type 0) (l : List A) (i : ℕ) (a : A) → ((j : ℕ) (b : A) → j ≢ i → get_elem? l j ≡ some b → P j b) → P i a → (j : ℕ) (b : A) → get_elem? (set l i a) j ≡ some b → P j b
each_set P l i a others mine j b e = ⊎_elim (λ (t : (j ≡ i) × (a ≡ b)). subst (λ (x : ℕ). P x b) (sym t.0) (subst (P i) t.1 mine)) (λ (t : (j ≢ i) × (get_elem? l j ≡ some b)). others j b t.0 t.1) (at_set l i j a b e)

at_push : {A : Type 0} (l : List A) (a b : A) (j : ℕ) → get_elem? (l ++ a ∷ []) j ≡ some b → (get_elem? l j ≡ some b) ⊎ ((j ≡ length l) × (a ≡ b))
at_push [] a b zero e = inr (refl, some-injective a b e)
at_push [] a b (suc j) e = absurd (some-ne-none b (sym e))
at_push (x ∷ xs) a b zero e = inl e
at_push (x ∷ xs) a b (suc j) e = ⊎_elim (λ t. inl t) (λ t. inr (ap suc t.0, t.1)) (at_push xs a b j e)

pub each_push : {A : Type 0} (P : ℕ → A → Type 0) (l : List A) (a : A) → ((j : ℕ) (b : A) → get_elem? l j ≡ some b → P j b) → P (length l) a → (j : ℕ) (b : A) → get_elem? (l ++ a ∷ []) j ≡ some b → P j b
each_push P l a others mine j b e = ⊎_elim (λ t. others j b t) (λ (t : (j ≡ length l) × (a ≡ b)). subst (λ (x : ℕ). P x b) (sym t.0) (subst (P (length l)) t.1 mine)) (at_push l a b j e)
