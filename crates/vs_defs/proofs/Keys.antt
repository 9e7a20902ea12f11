-- What is found at a key of a list of sets: after sets were left out, after one was put there, and without their links.
use Rattle.std.proofs.Common.{◌≡◌, Bool, true, false, cond, List, [], ◌∷◌, map, refl, sym, ap, ◌∙◌, inl, inr}
use Rattle.std.specs.Prelude.{Option, Some, None, not, option_map, ◌⊎◌}
use Rattle.std.proofs.lemmas.Bool.{both_ways, cases_Bool, false_from_ne_true}
use Rattle.std.proofs.lemmas.Option.{none-some}
use Rattle.std.proofs.lemmas.Slice.Eq.{bytes_eq-Decides}
use Rattle.vs_defs.specs.Bytes.{Bytes, same_name}
use Rattle.vs_defs.specs.Store.{Set, lookup_set, without_keys, with_option}

pub same_is : (j k : Bytes) → same_name j k ≡ true → j ≡ k
same_is j k t = (bytes_eq-Decides j k).0 t

same_self : (j k : Bytes) → j ≡ k → same_name j k ≡ true
same_self j k e = (bytes_eq-Decides j k).1 e

-- the order of two names doesn't matter where they differ
other_order : (j k : Bytes) → same_name j k ≡ false → same_name k j ≡ false
other_order j k f = false_from_ne_true (same_name k j) (λ t. both_ways (same_name j k) f (same_self j k (sym (same_is k j t))))

module _ {X : Type 0} (is_listed : Bytes → Bool) (k : Bytes) where
  kept_by : (e : Bytes × X) (r rest : List (Bytes × X)) (b c : Bool) → is_listed e.0 ≡ b → same_name k e.0 ≡ c → is_listed k ≡ false → lookup_set k r ≡ lookup_set k rest
      → lookup_set k (cond (not b) (e ∷ r) r) ≡ cond c (Some e.1) (lookup_set k rest)
  kept_by e r rest true true t u unlisted same = absurd (both_ways (is_listed k) unlisted (ap is_listed (same_is k e.0 u) ∙ t))
  kept_by e r rest true false t u unlisted same = same
  kept_by e r rest false c t u unlisted same = ap (λ d. cond d (Some e.1) (lookup_set k r)) u ∙ ap (cond c (Some e.1)) same

  -- a key that isn't listed has its set still
  pub kept_set : (xs : List (Bytes × X)) → is_listed k ≡ false → lookup_set k (without_keys is_listed xs) ≡ lookup_set k xs
  kept_set [] unlisted = refl
  kept_set (e ∷ es) unlisted = kept_by e (without_keys is_listed es) es (is_listed e.0) (same_name k e.0) refl refl unlisted (kept_set es unlisted)

  gone_by : (e : Bytes × X) (r : List (Bytes × X)) (b c : Bool) → is_listed e.0 ≡ b → same_name k e.0 ≡ c → is_listed k ≡ true → lookup_set k r ≡ None → lookup_set k (cond (not b) (e ∷ r) r) ≡ None
  gone_by e r true c t u is_in none = none
  gone_by e r false true t u is_in none = absurd (both_ways (is_listed k) (ap is_listed (same_is k e.0 u) ∙ t) is_in)
  gone_by e r false false t u is_in none = ap (λ d. cond d (Some e.1) (lookup_set k r)) u ∙ none

  -- a key that is listed has none
  pub gone_set : (xs : List (Bytes × X)) → is_listed k ≡ true → lookup_set k (without_keys is_listed xs) ≡ None
  gone_set [] is_in = refl
  gone_set (e ∷ es) is_in = gone_by e (without_keys is_listed es) (is_listed e.0) (same_name k e.0) refl refl is_in (gone_set es is_in)

-- what is found after one key's set was put, replaced or left out
pub found_with : {X : Type 0} (key k : Bytes) (x : Option X) (xs : List (Bytes × X)) (y : X) → lookup_set k (with_option key x xs) ≡ Some y
    → ((k ≡ key) × (x ≡ Some y)) ⊎ (lookup_set k xs ≡ Some y)
found_with key k None xs y e = elim (cases_Bool (same_name key k)) [
  | inl t ↦ absurd (none-some y (sym (gone_set (same_name key) k xs t) ∙ e))
  | inr f ↦ inr (sym (kept_set (same_name key) k xs f) ∙ e)
]
found_with key k (Some x) xs y e = elim (cases_Bool (same_name k key)) [
  | inl t ↦ inl (same_is k key t, sym (ap (λ b. cond b (Some x) (lookup_set k (without_keys (same_name key) xs))) t) ∙ e)
  | inr f ↦
      inr (sym (kept_set (same_name key) k xs (other_order k key f)) ∙ sym (ap (λ b. cond b (Some x) (lookup_set k (without_keys (same_name key) xs))) f) ∙ e)
]

contents_by : (b : Bool) (x : Set) (o : Option Set) → cond b (Some x.contents) (option_map (λ y. y.contents) o) ≡ option_map (λ y. y.contents) (cond b (Some x) o)
contents_by true x o = refl
contents_by false x o = refl

-- without its links, a key's set is found where it was with them
pub plain_at : (k : Bytes) (xs : List (Bytes × Set)) → lookup_set k (map (λ e. (e.0, e.1.contents)) xs) ≡ option_map (λ y. y.contents) (lookup_set k xs)
plain_at k [] = refl
plain_at k (e ∷ es) = ap (cond (same_name k e.0) (Some e.1.contents)) (plain_at k es) ∙ contents_by (same_name k e.0) e.1 (lookup_set k es)
