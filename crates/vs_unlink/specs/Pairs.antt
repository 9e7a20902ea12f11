-- How the former neighbours of a member are paired at a layer after it is taken out.
use Rattle.std.specs.Prelude.{◌≡◌, ℕ, ◌==◌, Bool, true, false, ◌||◌, cond, List, [], ◌∷◌, ◌++◌, fold, nat_eq, All, AllPairs, Contains, Any, ◌⊎◌}
use Rattle.std.specs.List.{list_any}
use Rattle.std.specs.Ordering.{nat_cmp, ordering_then}
use Rattle.std.specs.Cmp.Lexicographic.{slice_cmp}
use Rattle.std.specs.declared.cmp.Ordering.{Ordering}
use Rattle.std.specs.declared.cmp.Ordering.TheVariants.{Less}
use Rattle.vs_graph.specs.Bodies.{Bodies, name_at, gap}
use Rattle.vs_graph.specs.Table.{Table, is_in, without, joined}
use Rattle.vs_unlink.specs.declared.Pair.{Pair}

-- x has no link, and nobody links to it
abbrev pub detached : Table → ℕ → Table
detached t x id = cond (id == x) [] (without x (t id))

-- by distance, then the lesser name, then the greater
abbrev pub pair_cmp : Bodies → Pair → Pair → Ordering
pair_cmp bodies p r =
    ordering_then (nat_cmp (gap bodies p.one p.other) (gap bodies r.one r.other))
    (ordering_then (slice_cmp nat_cmp (name_at bodies p.one) (name_at bodies r.one)) (slice_cmp nat_cmp (name_at bodies p.other) (name_at bodies r.other)))

abbrev pub has : Pair → ℕ → Bool
has p id = (id == p.one) || (id == p.other)

abbrev pub share : Pair → Pair → Bool
share p r = has p r.one || has p r.other

-- an unlinked pair of the former neighbours, the lesser name first
pub record IsOpen (bodies : Bodies) (t : Table) (former : List ℕ) (p : Pair) : Type 0 where
  pub one : list_any (nat_eq p.one) former ≡ true
  pub other : list_any (nat_eq p.other) former ≡ true
  pub order : slice_cmp nat_cmp (name_at bodies p.one) (name_at bodies p.other) ≡ Less
  pub unlinked : is_in t p.one p.other ≡ false

-- The added pairs are a matching of open pairs. An open pair that isn't added has a member in an added one that stands before it.
pub record IsPairing (bodies : Bodies) (t : Table) (former : List ℕ) (added : List Pair) : Type 0 where
  pub are_open : All (IsOpen bodies t former) added
  pub matching : AllPairs (λ p r. share p r ≡ false) added
  pub rest : (r : Pair) → IsOpen bodies t former r → Contains added r ⊎ Any (λ p. (share p r ≡ true) × (pair_cmp bodies p r ≡ Less)) added

-- the pairs joined
abbrev pub paired : Table → List Pair → Table
paired t added = fold (λ u p. joined u p.one p.other) t added

-- ---- which pairs are taken, one after the other

-- a pair is taken where no taken one shares a member with it
abbrev pub take_pair : List Pair → Pair → List Pair
take_pair added p = cond (list_any (λ q. share q p) added) added (added ++ p ∷ [])

abbrev pub matched : List Pair → List Pair
matched pairs = fold take_pair [] pairs

-- names of former neighbours differ
abbrev pub Differ : Bodies → List ℕ → Type 0
Differ bodies former = (a b : ℕ) → list_any (nat_eq a) former ≡ true → list_any (nat_eq b) former ≡ true → name_at bodies a ≡ name_at bodies b → a ≡ b
