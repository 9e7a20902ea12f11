-- The walk over former neighbours, as the definitions have it, against a walk over the orphans alone. Of the former neighbours, those that
-- kept a link are passed over, whatever was joined before.
--     next_orphan        up to the next orphan
--     no_orphan          there is none any more
use Rattle.std.proofs.Common.{◌≡◌, ℕ, zero, suc, ◌<◌, Bool, true, false, ◌&&◌, List, [], ◌∷◌, refl, sym, ap, ◌∙◌, subst, arith}
use Rattle.std.specs.Prelude.{Option, nat_lt, filter, MatchBool}
use Rattle.std.proofs.lemmas.Bool.{both_ways, ltb-true, cond-true, cond-false}
use Rattle.vs_defs.specs.Bytes.{Bytes}
use Rattle.vs_defs.specs.Store.{Set}
use Rattle.vs_defs.specs.Links.{Links, another_stands}
use Rattle.vs_defs.specs.Insertion.{SameLinks}
use Rattle.vs_defs.specs.Removal.{Rejoins, Relinks, all_but}
use Rattle.vs_insert.specs.Walking as spec

same_head : {X : Type 0} (x y : X) (xs ys : List X) → x ∷ xs ≡ y ∷ ys → x ≡ y
same_head x y xs ys e = ap (head_or x) e where
  head_or : {X : Type 0} → X → List X → X
  head_or d [] = d
  head_or d (z ∷ zs) = z

same_tail : {X : Type 0} (x y : X) (xs ys : List X) → x ∷ xs ≡ y ∷ ys → xs ≡ ys
same_tail x y xs ys e = ap tail_of e where
  tail_of : {X : Type 0} → List X → List X
  tail_of [] = []
  tail_of (z ∷ zs) = zs

nil_cons : {X : Type 0} (x : X) (xs : List X) → [] ≡ x ∷ xs → ⊥
nil_cons x xs e = both_ways true (ap is_nil e) refl where
  is_nil : {X : Type 0} → List X → Bool
  is_nil [] = true
  is_nil (z ∷ zs) = false

module _ (old : Set) (x : Bytes) (entry : Option Bytes) (left : Links) where
  abbrev degree : Links → ℕ × Bytes → ℕ
  degree = spec.degree old x entry left

  abbrev is_orphan : ℕ × Bytes → Bool
  is_orphan = spec.is_orphan old x entry left

  abbrev Keeps : Links → Type 0
  Keeps = spec.Keeps old x entry left

  abbrev alone_at : Links → ℕ × Bytes → Bool
  alone_at = spec.alone_at old x entry left

  linked_by : (n : ℕ) (other b : Bool) → nat_lt n 1 ≡ b → 0 < n → (b && other) ≡ false
  linked_by n other true e h = absurd (omega (arith, h, ltb-true n 1 e))
  linked_by n other false e h = refl

  not_alone : (links : Links) (c : ℕ × Bytes) → 0 < degree links c → alone_at links c ≡ false
  not_alone links c h = linked_by (degree links c) (another_stands (all_but x old.contents.members) c.0 c.1) (nat_lt (degree links c) 1) refl h

  -- one that isn't alone at its turn is passed over
  pub pass_over : (links : Links) (c : ℕ × Bytes) (cs : List (ℕ × Bytes)) (new : Links) → alone_at links c ≡ false → Relinks old x entry links cs new → Relinks old x entry links (c ∷ cs) new
  pass_over links c cs new e r =
      subst (λ b. MatchBool b ((mid : Links) × Rejoins old x entry links c.0 c.1 mid × Relinks old x entry mid cs new) (Relinks old x entry links cs new)) (sym e) r

  -- one that is alone is joined
  pub join_one : (links mid : Links) (c : ℕ × Bytes) (cs : List (ℕ × Bytes)) (new : Links) → alone_at links c ≡ true → Rejoins old x entry links c.0 c.1 mid → Relinks old x entry mid cs new
      → Relinks old x entry links (c ∷ cs) new
  join_one links mid c cs new e j r =
      subst (λ b. MatchBool b ((mid : Links) × Rejoins old x entry links c.0 c.1 mid × Relinks old x entry mid cs new) (Relinks old x entry links cs new)) (sym e) (mid, j, r)

  some_degree : (c : ℕ × Bytes) → is_orphan c ≡ false → 0 < degree left c
  some_degree c h = by (degree left c) h where
    by : (n : ℕ) → nat_lt n 1 ≡ false → 0 < n
    by zero h = absurd (both_ways true h refl)
    by (suc n) h = omega arith

  -- what is left of the former neighbours behind the next orphan
  abbrev pub Behind : Links → List (ℕ × Bytes) → ℕ × Bytes → List (ℕ × Bytes) → Type 0
  Behind links rest o os = (cs : List (ℕ × Bytes)) × (filter is_orphan cs ≡ os) × ((new : Links) → Relinks old x entry links (o ∷ cs) new → Relinks old x entry links rest new)

  pub next_orphan : (links : Links) → Keeps links → (rest : List (ℕ × Bytes)) (o : ℕ × Bytes) (os : List (ℕ × Bytes)) → filter is_orphan rest ≡ o ∷ os → Behind links rest o os
  next_orphan links keeps [] o os h = absurd (nil_cons o os h)
  next_orphan links keeps (c ∷ cs) o os h = by (is_orphan c) refl (next_orphan links keeps cs o os) where
    by : (b : Bool) → is_orphan c ≡ b → (filter is_orphan cs ≡ o ∷ os → Behind links cs o os) → Behind links (c ∷ cs) o os
    by true e rec =
        let same : c ∷ filter is_orphan cs ≡ o ∷ os = sym (cond-true (is_orphan c) (c ∷ filter is_orphan cs) (filter is_orphan cs) e) ∙ h in
        (cs, same_tail c o (filter is_orphan cs) os same, λ new r. subst (λ k. Relinks old x entry links (k ∷ cs) new) (sym (same_head c o (filter is_orphan cs) os same)) r)
    by false e rec =
        let later = rec (sym (cond-false (is_orphan c) (c ∷ filter is_orphan cs) (filter is_orphan cs) e) ∙ h) in
        (later.0, later.1, λ new r. pass_over links c cs new (not_alone links c (keeps c (some_degree c e))) (later.2 new r))

  pub no_orphan : (links new : Links) → Keeps links → SameLinks new links → (rest : List (ℕ × Bytes)) → filter is_orphan rest ≡ [] → Relinks old x entry links rest new
  no_orphan links new keeps same [] h = same
  no_orphan links new keeps same (c ∷ cs) h = by (is_orphan c) refl (no_orphan links new keeps same cs) where
    by : (b : Bool) → is_orphan c ≡ b → (filter is_orphan cs ≡ [] → Relinks old x entry links cs new) → Relinks old x entry links (c ∷ cs) new
    by true e rec = absurd (nil_cons c (filter is_orphan cs) (sym h ∙ cond-true (is_orphan c) (c ∷ filter is_orphan cs) (filter is_orphan cs) e))
    by false e rec =
        pass_over links c cs new (not_alone links c (keeps c (some_degree c e)))
        (rec (sym (cond-false (is_orphan c) (c ∷ filter is_orphan cs) (filter is_orphan cs) e) ∙ h))
