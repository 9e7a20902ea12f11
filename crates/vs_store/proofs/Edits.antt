-- Lists of sets by their keys, each key once: what is found in them after a set was written at a place, put last, or taken out by its place,
-- and that the keys still stand once.
use Rattle.std.proofs.Common.{◌≡◌, ℕ, ◌<◌, Bool, true, false, cond, List, [], ◌∷◌, ◌++◌, length, map, get_or, refl, sym, ap, ◌∙◌, subst, arith, zero, suc, inl, inr}
use Rattle.std.specs.Prelude.{◌≢◌, Option, Some, None, slice_get, slice_set, All}
use Rattle.std.proofs.lemmas.Bool.{cases_Bool, both_ways, false_from_ne_true}
use Rattle.std.proofs.lemmas.List.Elements.{All-set, All-map}
use Rattle.std.proofs.lemmas.List.Kept.{AllPairs-cons}
use Rattle.std.proofs.lemmas.List.Quantifiers.{all_pairs_push}
use Rattle.std.proofs.lemmas.Option.{get_or_from_slice_get, slice_get_within, same_Some, none-some}
use Rattle.std.proofs.lemmas.Slice.Eq.{bytes_eq-Decides}
use Rattle.vs_defs.specs.Bytes.{Bytes, same_name}
use Rattle.vs_defs.specs.Store.{lookup_set, with_set, without_keys, AnswerAlike, HasKeysOnce}
use Rattle.vs_defs.proofs.Keys.{same_is, kept_set}

-- ---- keys

pub same_self : (j k : Bytes) → j ≡ k → same_name j k ≡ true
same_self j k e = (bytes_eq-Decides j k).1 e

pub differs : (j k : Bytes) → j ≢ k → same_name j k ≡ false
differs j k n = false_from_ne_true (same_name j k) (λ t. n (same_is j k t))

pub apart : (j k : Bytes) → same_name j k ≡ false → j ≢ k
apart j k f e = both_ways (same_name j k) f (same_self j k e)

-- the order of two keys doesn't matter where they differ
pub other_order : (j k : Bytes) → same_name j k ≡ false → same_name k j ≡ false
other_order j k f = differs k j (λ e. apart j k f (sym e))

-- what holds of each entry holds of the one at a place
pub at-place : {A : Type 0} (P : A → Type 0) (xs : List A) (p : ℕ) (e : A) → All P xs → slice_get xs p ≡ Some e → P e
at-place P xs p e all is = subst P (get_or_from_slice_get xs p e e is) (all p e (slice_get_within xs p e is))

module _ {X : Type 0} where
  pub once-head : (e : Bytes × X) (es : List (Bytes × X)) → HasKeysOnce (e ∷ es) → All (λ f. e.0 ≢ f.0) es
  once-head e es once = λ j d h. once 0 (suc j) d (omega arith) (omega arith)

  pub once-tail : (e : Bytes × X) (es : List (Bytes × X)) → HasKeysOnce (e ∷ es) → HasKeysOnce es
  once-tail e es once = λ i j d a b. once (suc i) (suc j) d (omega arith) (omega arith)

  -- ---- a set in the place of one of its key

  pub keys-set : (xs : List (Bytes × X)) (p : ℕ) (key : Bytes) (x y : X) → slice_get xs p ≡ Some (key, x) → HasKeysOnce xs → HasKeysOnce (slice_set xs p (key, y))
  keys-set [] p key x y is once = absurd (none-some (key, x) is)
  keys-set (e ∷ es) zero key x y is once =
      let same : e.0 ≡ key = ap (λ f. f.0) (same_Some e (key, x) is) in
      AllPairs-cons (λ e f. e.0 ≢ f.0) (key, y) es (subst (λ k. All (λ f. k ≢ f.0) es) same (once-head e es once)) (once-tail e es once)
  keys-set (e ∷ es) (suc p) key x y is once =
      let rest = once-head e es once in
      AllPairs-cons (λ e f. e.0 ≢ f.0) e (slice_set es p (key, y)) (All-set (λ f. e.0 ≢ f.0) es p (key, y) (at-place (λ f. e.0 ≢ f.0) es p (key, x) rest is) rest)
      (keys-set es p key x y is (once-tail e es once))

  pub found-set : (xs : List (Bytes × X)) (p : ℕ) (key : Bytes) (x y : X) → slice_get xs p ≡ Some (key, x) → HasKeysOnce xs → lookup_set key (slice_set xs p (key, y)) ≡ Some y
  found-set [] p key x y is once = absurd (none-some (key, x) is)
  found-set (e ∷ es) zero key x y is once = ap (λ b. cond b (Some y) (lookup_set key es)) (same_self key key refl)
  found-set (e ∷ es) (suc p) key x y is once =
      let other : e.0 ≢ key = at-place (λ f. e.0 ≢ f.0) es p (key, x) (once-head e es once) is in
      ap (λ b. cond b (Some e.1) (lookup_set key (slice_set es p (key, y)))) (differs key e.0 (λ t. other (sym t)))
      ∙ found-set es p key x y is (once-tail e es once)

  pub others-set : (xs : List (Bytes × X)) (p : ℕ) (key : Bytes) (x y : X) (k : Bytes) → slice_get xs p ≡ Some (key, x) → same_name k key ≡ false
      → lookup_set k (slice_set xs p (key, y)) ≡ lookup_set k xs
  others-set [] p key x y k is other = absurd (none-some (key, x) is)
  others-set (e ∷ es) zero key x y k is other =
      let same : e.0 ≡ key = ap (λ f. f.0) (same_Some e (key, x) is) in
      ap (λ b. cond b (Some y) (lookup_set k es)) other ∙ sym (ap (λ b. cond b (Some e.1) (lookup_set k es)) (ap (same_name k) same ∙ other))
  others-set (e ∷ es) (suc p) key x y k is other = ap (λ r. cond (same_name k e.0) (Some e.1) r) (others-set es p key x y k is other)

  -- ---- what answers at each key as an edit of the definitions

  pub alike : (xs ys : List (Bytes × X)) (key : Bytes) (y : X) → lookup_set key ys ≡ Some y → ((k : Bytes) → same_name k key ≡ false → lookup_set k ys ≡ lookup_set k xs)
      → AnswerAlike ys (with_set key y xs)
  alike xs ys key y found others = λ k.
      let rest : Option X = lookup_set k (without_keys (same_name key) xs) in
      elim (cases_Bool (same_name k key)) [
        | inl t ↦ ap (λ j. lookup_set j ys) (same_is k key t) ∙ found ∙ sym (ap (λ b. cond b (Some y) rest) t)
        | inr f ↦ others k f ∙ sym (kept_set (same_name key) k xs (other_order k key f)) ∙ sym (ap (λ b. cond b (Some y) rest) f)
      ]

  pub alike-set : (xs : List (Bytes × X)) (p : ℕ) (key : Bytes) (x y : X) → slice_get xs p ≡ Some (key, x) → HasKeysOnce xs → AnswerAlike (slice_set xs p (key, y)) (with_set key y xs)
  alike-set xs p key x y is once = alike xs (slice_set xs p (key, y)) key y (found-set xs p key x y is once) (λ k other. others-set xs p key x y k is other)

  -- ---- a set of a new key, put last

  head_absent : (key : Bytes) (e : Bytes × X) (rest : Option X) (b : Bool) → same_name key e.0 ≡ b → cond b (Some e.1) rest ≡ None → (b ≡ false) × (rest ≡ None)
  head_absent key e rest true t none = absurd (none-some e.1 (sym none))
  head_absent key e rest false t none = (refl, none)

  pub found-push : (xs : List (Bytes × X)) (key : Bytes) (y : X) → lookup_set key xs ≡ None → lookup_set key (xs ++ (key, y) ∷ []) ≡ Some y
  found-push [] key y none = ap (λ b. cond b (Some y) None) (same_self key key refl)
  found-push (e ∷ es) key y none =
      let head = head_absent key e (lookup_set key es) (same_name key e.0) refl none in
      ap (λ b. cond b (Some e.1) (lookup_set key (es ++ (key, y) ∷ []))) head.0 ∙ found-push es key y head.1

  pub others-push : (xs : List (Bytes × X)) (key : Bytes) (y : X) (k : Bytes) → same_name k key ≡ false → lookup_set k (xs ++ (key, y) ∷ []) ≡ lookup_set k xs
  others-push [] key y k other = ap (λ b. cond b (Some y) None) other
  others-push (e ∷ es) key y k other = ap (λ r. cond (same_name k e.0) (Some e.1) r) (others-push es key y k other)

  pub alike-push : (xs : List (Bytes × X)) (key : Bytes) (y : X) → lookup_set key xs ≡ None → AnswerAlike (xs ++ (key, y) ∷ []) (with_set key y xs)
  alike-push xs key y none = alike xs (xs ++ (key, y) ∷ []) key y (found-push xs key y none) (λ k other. others-push xs key y k other)

  absent-apart : (xs : List (Bytes × X)) (key : Bytes) → lookup_set key xs ≡ None → (k : ℕ) (d : Bytes × X) → k < length xs → (get_or xs k d).0 ≢ key
  absent-apart [] key none k d h = absurd (omega arith)
  absent-apart (e ∷ es) key none zero d h =
      let head = head_absent key e (lookup_set key es) (same_name key e.0) refl none in
      λ t. apart key e.0 head.0 (sym t)
  absent-apart (e ∷ es) key none (suc k) d h =
      let head = head_absent key e (lookup_set key es) (same_name key e.0) refl none in
      absent-apart es key head.1 k d (omega arith)

  pub keys-push : (xs : List (Bytes × X)) (key : Bytes) (y : X) → lookup_set key xs ≡ None → HasKeysOnce xs → HasKeysOnce (xs ++ (key, y) ∷ [])
  keys-push xs key y none once = all_pairs_push (λ e f. e.0 ≢ f.0) xs (key, y) once (absent-apart xs key none)

-- ---- other things at the same keys

pub once-map : {X Y : Type 0} (f : X → Y) (xs : List (Bytes × X)) → HasKeysOnce xs → HasKeysOnce (map (λ e. (e.0, f e.1)) xs)
once-map f [] once = λ i j d a b. absurd (omega arith)
once-map f (e ∷ es) once =
    AllPairs-cons (λ e f. e.0 ≢ f.0) (e.0, f e.1) (map (λ g. (g.0, f g.1)) es)
    (All-map (λ g. e.0 ≢ g.0) (λ g. (g.0, f g.1)) es (once-head e es once))
    (once-map f es (once-tail e es once))
