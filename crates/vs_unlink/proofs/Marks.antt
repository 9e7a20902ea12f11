-- Marks of those that are in a taken pair.
use Rattle.std.proofs.Common.{◌≡◌, ◌≢◌, ℕ, ◌<◌, Bool, true, false, ◌||◌, ltb, List, [], ◌∷◌, ◌++◌, length, get_or, refl, sym, ap, ◌∙◌, arith, inl, inr}
use Rattle.std.proofs.Math.ListN.{set}
use Rattle.std.specs.Prelude.{nat_eq}
use Rattle.std.specs.List.{list_any, IsDistinct}
use Rattle.std.proofs.lemmas.Bool.{cases_eq, eq-eqb, ne_eqb, or_from, ltb-true, ltb-false}
use Rattle.std.proofs.lemmas.List.{get_or-set_same, get_or-set_other, length-set}
use Rattle.std.proofs.lemmas.List.Folds.{list_any-append}
use Rattle.std.proofs.Math.Bool.{or-true}
use Rattle.vs_graph.proofs.Lists.{or_false}
use Rattle.vs_unlink.specs.declared.Pair.{Pair}
use Rattle.vs_unlink.specs.declared.pairs.Candidate.{Candidate}
use Rattle.vs_unlink.specs.Candidates.{pair_at, IsWithin}
use Rattle.vs_unlink.specs.Pairs.{has, share}
use Rattle.vs_unlink.proofs.Ranked.{apart_at}

-- the mark at each place says whether its id is in a pair
pub record AreMarks (ranked : List ℕ) (marks : List Bool) (added : List Pair) : Type 0 where
  pub long : length marks ≡ length ranked
  pub each : (k : ℕ) → k < length ranked → get_or marks k false ≡ list_any (λ q. has q (get_or ranked k 0)) added

exchange : (a b c d : Bool) → ((a || b) || (c || d)) ≡ ((a || c) || (b || d))
exchange true b c d = refl
exchange false true true d = refl
exchange false true false d = refl
exchange false false c d = refl

pub shares_by : (added : List Pair) (p : Pair) → list_any (λ q. share q p) added ≡ (list_any (λ q. has q p.one) added || list_any (λ q. has q p.other) added)
shares_by [] p = refl
shares_by (q ∷ qs) p = ap (λ b. share q p || b) (shares_by qs p) ∙ exchange (has q p.one) (has q p.other) (list_any (λ q. has q p.one) qs) (list_any (λ q. has q p.other) qs)

has_one : (p : Pair) → has p p.one ≡ true
has_one p = ap (λ b. b || nat_eq p.one p.other) (eq-eqb p.one p.one refl)

has_other : (p : Pair) → has p p.other ≡ true
has_other p = ap (λ b. nat_eq p.other p.one || b) (eq-eqb p.other p.other refl) ∙ or-true (nat_eq p.other p.one)

module _ (ranked : List ℕ) (once : IsDistinct nat_eq ranked) (marks : List Bool) (added : List Pair) (a b : ℕ) (la : a < length ranked) (lb : b < length ranked) (m : AreMarks ranked marks added) where
  abbrev pair : Pair
  pair = record { one = get_or ranked a 0; other = get_or ranked b 0 }

  abbrev marked : List Bool
  marked = set (set marks a true) b true

  other_id : (i j : ℕ) → i ≢ j → i < length ranked → j < length ranked → get_or ranked i 0 ≢ get_or ranked j 0
  other_id i j ne li lj e = by_test (ltb i j) refl where
    by_test : (test : Bool) → ltb i j ≡ test → ⊥
    by_test true h = apart_at ranked once i j (ltb-true i j h) lj e
    by_test false h = let low : j < i = omega (arith, ltb-false i j h) in apart_at ranked once j i low li (sym e)

  now_has : (k : ℕ) → list_any (λ q. has q (get_or ranked k 0)) (added ++ pair ∷ []) ≡ (list_any (λ q. has q (get_or ranked k 0)) added || has pair (get_or ranked k 0))
  now_has k = list_any-append (λ q. has q (get_or ranked k 0)) added (pair ∷ []) ∙ ap (λ c. list_any (λ q. has q (get_or ranked k 0)) added || c) (or_false (has pair (get_or ranked k 0)))

  -- a place of the pair is marked
  marked_as : (k : ℕ) → get_or marked k false ≡ true → has pair (get_or ranked k 0) ≡ true → get_or marked k false ≡ list_any (λ q. has q (get_or ranked k 0)) (added ++ pair ∷ [])
  marked_as k one two = one ∙ sym (now_has k ∙ ap (λ c. list_any (λ q. has q (get_or ranked k 0)) added || c) two ∙ or-true (list_any (λ q. has q (get_or ranked k 0)) added))

  each_now : (k : ℕ) → k < length ranked → get_or marked k false ≡ list_any (λ q. has q (get_or ranked k 0)) (added ++ pair ∷ [])
  each_now k lk = elim (cases_eq k b) [
    | inl is ↦
        marked_as k (ap (λ j. get_or marked j false) is ∙ get_or-set_same (set marks a true) b true false (omega (arith, length-set marks a true, m.long)))
        (ap (λ j. has pair (get_or ranked j 0)) is ∙ has_other pair)
    | inr ne ↦ elim (cases_eq k a) [
      | inl is ↦
          marked_as k (get_or-set_other (set marks a true) b k true false ne ∙ ap (λ j. get_or (set marks a true) j false) is ∙ get_or-set_same marks a true false (omega (arith, m.long)))
          (ap (λ j. has pair (get_or ranked j 0)) is ∙ has_one pair)
      | inr ne' ↦
          get_or-set_other (set marks a true) b k true false ne ∙ get_or-set_other marks a k true false ne' ∙ m.each k lk
          ∙ sym (now_has k ∙ ap (λ c. list_any (λ q. has q (get_or ranked k 0)) added || c) (or_from (nat_eq (get_or ranked k 0) (get_or ranked a 0)) (nat_eq (get_or ranked k 0) (get_or ranked b 0)) (ne_eqb (get_or ranked k 0) (get_or ranked a 0) (other_id k a ne' lk la)) (ne_eqb (get_or ranked k 0) (get_or ranked b 0) (other_id k b ne lk lb)))
          ∙ or_false (list_any (λ q. has q (get_or ranked k 0)) added))
    ]
  ]

  -- the marks of one more pair
  pub marks_more : AreMarks ranked marked (added ++ pair ∷ [])
  marks_more = record { long = length-set (set marks a true) b true ∙ length-set marks a true ∙ m.long; each = each_now }

-- whether a candidate's members are marked is whether it shares one with a taken pair
pub marked_shares : (ranked : List ℕ) (marks : List Bool) (added : List Pair) (c : Candidate) → AreMarks ranked marks added → IsWithin ranked c
    → (get_or marks c.one false || get_or marks c.other false) ≡ list_any (λ q. share q (pair_at ranked c)) added
marked_shares ranked marks added c m within = (λ i. m.each c.one within.one i || m.each c.other within.other i) ∙ sym (shares_by added (pair_at ranked c))
