-- One more pair of former neighbours is looked at.
use Rattle.std.proofs.Common.{◌≡◌, ℕ, ◌+◌, true, List, [], ◌∷◌, ◌++◌, get_or, map, refl, sym, ap, ◌∙◌, subst, arith, inl, inr}
use Rattle.std.specs.Prelude.{Contains}
use Rattle.std.proofs.lemmas.Bool.{cases_eq, both_ways}
use Rattle.std.proofs.lemmas.List.{map-append}
use Rattle.std.proofs.lemmas.List.Elements.{Contains-append_left, Contains-append_right}
use Rattle.std.specs.declared.option.Option.{Option}
use Rattle.vs_graph.specs.declared.node.Node.{Node}
use Rattle.vs_unlink.specs.declared.Pair.{Pair}
use Rattle.vs_unlink.specs.declared.pairs.Candidate.{Candidate}
use Rattle.vs_unlink.specs.Candidates.{pair_at, has_link, HasPlacedOf, HasPlacedBelow}

module _ (places : ℕ → Option Node) (layer : ℕ) (ranked : List ℕ) (found : List Candidate) (c : Candidate) where
  abbrev pairs : List Pair
  pairs = map (pair_at ranked) found

  more : map (pair_at ranked) (found ++ c ∷ []) ≡ pairs ++ pair_at ranked c ∷ []
  more = map-append (pair_at ranked) found (c ∷ [])

  still : (p : Pair) → Contains pairs p → Contains (map (pair_at ranked) (found ++ c ∷ [])) p
  still p h = subst (λ l. Contains l p) (sym more) (Contains-append_left pairs (pair_at ranked c ∷ []) p h)

  pub below_still : (one : ℕ) → HasPlacedBelow places layer ranked one pairs → HasPlacedBelow places layer ranked one (map (pair_at ranked) (found ++ c ∷ []))
  below_still one h a low b less within unlinked = still (record { one = get_or ranked a 0; other = get_or ranked b 0 }) (h a low b less within unlinked)

  newest : Contains (map (pair_at ranked) (found ++ c ∷ [])) (pair_at ranked c)
  newest = subst (λ l. Contains l (pair_at ranked c)) (sym more) (Contains-append_right pairs (pair_at ranked c ∷ []) (pair_at ranked c) (0, omega arith, refl))

  -- with the candidate of the two places
  pub here_more : HasPlacedOf places layer ranked c.one c.other pairs → HasPlacedOf places layer ranked c.one (c.other + 1) (map (pair_at ranked) (found ++ c ∷ []))
  here_more h b less within unlinked = elim (cases_eq b c.other) [
    | inl is ↦ subst (λ k. Contains (map (pair_at ranked) (found ++ c ∷ [])) (record { one = get_or ranked c.one 0; other = get_or ranked k 0 })) (sym is) newest
    | inr ne ↦ still (record { one = get_or ranked c.one 0; other = get_or ranked b 0 }) (h b less (omega arith) unlinked)
  ]

-- two that are linked are no pair
pub here_linked : (places : ℕ → Option Node) (layer : ℕ) (ranked : List ℕ) (one other : ℕ) (pairs : List Pair) → has_link places layer ranked one other ≡ true → HasPlacedOf places layer ranked one other pairs → HasPlacedOf places layer ranked one (other + 1) pairs
here_linked places layer ranked one other pairs linked h b less within unlinked = elim (cases_eq b other) [
  | inl is ↦ absurd (both_ways (has_link places layer ranked one b) unlinked (ap (has_link places layer ranked one) is ∙ linked))
  | inr ne ↦ h b less (omega arith) unlinked
]
