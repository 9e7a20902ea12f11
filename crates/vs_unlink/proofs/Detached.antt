-- A table without one member.
use Rattle.std.proofs.Common.{◌≡◌, ◌≢◌, ℕ, ◌<◌, ◌≤◌, Bool, true, false, not, cond, eqb, ◌&&◌, ◌||◌, List, [], ◌∷◌, length, refl, sym, ap, ◌∙◌, subst, arith}
use Rattle.std.proofs.Math.Path.{fun_ext}
use Rattle.std.specs.Prelude.{nat_eq, fold}
use Rattle.std.specs.List.{list_any, IsDistinct}
use Rattle.std.proofs.lemmas.Bool.{eqb-true, eq-eqb, ne_eqb, both_ways, and_parts, or_parts, cond-false}
use Rattle.std.proofs.Math.Bool.{and-false}
use Rattle.vs_graph.specs.Table.{Table, is_in, put, without, leave}
use Rattle.vs_graph.specs.GoodTable.{IsGoodTable}
use Rattle.vs_graph.proofs.Lists.{has_without, without_le, without_lt, distinct_without}
use Rattle.vs_graph.proofs.Goods.{distinct_none}
use Rattle.vs_unlink.specs.Pairs.{detached}

twice_by : (x y : ℕ) (rest : List ℕ) (b : Bool) → not (eqb y x) ≡ b → without x rest ≡ rest → without x (cond b (y ∷ rest) rest) ≡ cond b (y ∷ rest) rest
twice_by x y rest false e h = h
twice_by x y rest true e h = ap (λ b. cond b (y ∷ without x rest) (without x rest)) e ∙ ap (λ l. y ∷ l) h

pub twice : (x : ℕ) (l : List ℕ) → without x (without x l) ≡ without x l
twice x [] = refl
twice x (y ∷ ys) = twice_by x y (without x ys) (not (eqb y x)) refl (twice x ys)

absent_by : (x y : ℕ) (rest ys : List ℕ) (b : Bool) → eqb y x ≡ b → (eqb x y || list_any (nat_eq x) ys) ≡ false → rest ≡ ys → cond (not b) (y ∷ rest) rest ≡ y ∷ ys
absent_by x y rest ys true e h k = absurd (both_ways (eqb x y) (or_parts (eqb x y) (list_any (nat_eq x) ys) h).0 (eq-eqb x y (sym (eqb-true y x e))))
absent_by x y rest ys false e h k = ap (λ l. y ∷ l) k

pub absent : (x : ℕ) (l : List ℕ) → list_any (nat_eq x) l ≡ false → without x l ≡ l
absent x [] h = refl
absent x (y ∷ ys) h = absent_by x y (without x ys) ys (eqb y x) refl h (absent x ys (or_parts (eqb x y) (list_any (nat_eq x) ys) h).1)

left_by : (t : Table) (x y id : ℕ) (c b : Bool) → eqb id y ≡ c → cond b (without x (cond c (without x (t y)) (t id))) (cond c (without x (t y)) (t id)) ≡ cond (c || b) (without x (t id)) (t id)
left_by t x y id true true e = twice x (t y) ∙ ap (λ k. without x (t k)) (sym (eqb-true id y e))
left_by t x y id true false e = ap (λ k. without x (t k)) (sym (eqb-true id y e))
left_by t x y id false b e = refl

-- where each of a list no longer links to x
left_is : (x : ℕ) (ys : List ℕ) (t : Table) (id : ℕ) → fold (λ u y. leave u y x) t ys id ≡ cond (list_any (nat_eq id) ys) (without x (t id)) (t id)
left_is x [] t id = refl
left_is x (y ∷ ys) t id = left_is x ys (leave t y x) id ∙ left_by t x y id (eqb id y) (list_any (nat_eq id) ys) refl

none_left : (t : Table) (x id : ℕ) (b : Bool) → is_in t id x ≡ b → cond b (without x (t id)) (t id) ≡ without x (t id)
none_left t x id true e = refl
none_left t x id false e = sym (absent x (t id) e)

pub detached_is : (layers : ℕ → ℕ) (layer most : ℕ) (t : Table) (x : ℕ) → IsGoodTable layers layer most t → put (fold (λ u y. leave u y x) t (t x)) x [] ≡ detached t x
detached_is layers layer most t x good =
    fun_ext (λ id. ap (cond (eqb id x) [])
    (left_is x (t x) t id ∙ none_left t x id (list_any (nat_eq id) (t x)) (sym (good.back x id))))

in_by : (t : Table) (x a b : ℕ) (c : Bool) → eqb a x ≡ c → list_any (nat_eq b) (cond c [] (without x (t a))) ≡ (is_in t a b && (not c && not (eqb b x)))
in_by t x a b true e = sym (and-false (is_in t a b))
in_by t x a b false e = has_without x b (t a)

pub is_in_detached : (t : Table) (x a b : ℕ) → is_in (detached t x) a b ≡ (is_in t a b && (not (eqb a x) && not (eqb b x)))
is_in_detached t x a b = in_by t x a b (eqb a x) refl

keeps_by : (P : List ℕ → Type 0) (l : List ℕ) (b : Bool) → P [] → P l → P (cond b [] l)
keeps_by P l true h k = h
keeps_by P l false h k = k

pub detached_good : (layers : ℕ → ℕ) (layer most : ℕ) (t : Table) (x : ℕ) → IsGoodTable layers layer most t → IsGoodTable layers layer most (detached t x)
detached_good layers layer most t x good = record {
  once = λ a. keeps_by (IsDistinct nat_eq) (without x (t a)) (eqb a x) distinct_none (distinct_without x (t a) (good.once a));
  few = λ a. keeps_by (λ l. length l ≤ most) (without x (t a)) (eqb a x) (omega arith) (omega (arith, without_le x (t a), good.few a));
  apart = λ a. is_in_detached t x a a ∙ ap (λ q. q && (not (eqb a x) && not (eqb a x))) (good.apart a);
  stand = λ a b h. good.stand a b (and_parts (is_in t a b) (not (eqb a x) && not (eqb b x)) (sym (is_in_detached t x a b) ∙ h)).0;
  back = λ a b. is_in_detached t x a b ∙ ap (λ q. q && (not (eqb a x) && not (eqb b x))) (good.back a b) ∙ ap (λ q. is_in t b a && q) (both (not (eqb a x)) (not (eqb b x))) ∙ sym (is_in_detached t x b a);
} where
  both : (p q : Bool) → (p && q) ≡ (q && p)
  both true true = refl
  both true false = refl
  both false true = refl
  both false false = refl

-- a former neighbour has room
pub room_after : (layers : ℕ → ℕ) (layer most : ℕ) (t : Table) (x y : ℕ) → IsGoodTable layers layer most t → is_in t x y ≡ true → length (detached t x y) < most
room_after layers layer most t x y good h =
    let ne : y ≢ x = λ e. both_ways (is_in t x x) (good.apart x) (subst (λ k. is_in t x k ≡ true) e h) in
    omega (arith, ap length (cond-false (eqb y x) [] (without x (t y)) (ne_eqb y x ne)), without_lt x (t y) (sym (good.back x y) ∙ h), good.few y)
