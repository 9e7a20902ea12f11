-- Who had a link at a layer has one left, or is listed.
use Rattle.std.proofs.Common.{◌≡◌, ◌≢◌, ℕ, ◌+◌, ◌<◌, ◌≤◌, Bool, true, false, eqb, ltb, List, [], ◌∷◌, ◌++◌, ◌⊎◌, length, refl, sym, ap, ◌∙◌, subst, arith, inl, inr}
use Rattle.std.specs.Prelude.{Contains, filter}
use Rattle.std.specs.declared.option.Option.{Option}
use Rattle.std.proofs.lemmas.Bool.{cases_eq, eq-eqb, ne_eqb, cond-false, ltb-true, ltb-false}
use Rattle.std.proofs.lemmas.List.Elements.{Contains-append_left, Contains-append_right}
use Rattle.std.proofs.lemmas.List.Sorted.{Contains-permutation}
use Rattle.vs_graph.specs.declared.node.Node.{Node}
use Rattle.vs_graph.specs.Bodies.{Bodies}
use Rattle.vs_graph.specs.Good.{body_at, layers_at, links_at, AreLinksGood}
use Rattle.vs_graph.specs.GoodTable.{KeepsLinked}
use Rattle.vs_graph.specs.Table.{Table, is_in, without, joined}
use Rattle.vs_graph.proofs.Goods.{table_from}
use Rattle.vs_graph.proofs.Sorts.{In, in_map, in_filter, in_from_test}
use Rattle.vs_graph.proofs.Tables.{joined_linked}
use Rattle.vs_unlink.specs.declared.Orphan.{Orphan}
use Rattle.vs_unlink.specs.declared.Pair.{Pair}
use Rattle.vs_unlink.specs.Orphans.{AreAlone, at_layer, Lists, none, next, KeepsLinkedBut}
use Rattle.vs_unlink.specs.Pairs.{detached, paired}
use Rattle.vs_unlink.specs.Unlinked.{IsTakenOut}
use Rattle.vs_unlink.proofs.Pairing.{contains_in, in_contains}
use Rattle.vs_unlink.proofs.Detached.{absent}

abbrev orphan_at : ℕ → ℕ → Orphan
orphan_at layer y = record { layer = layer; id = y }

-- a former neighbour without a link is listed at its layer
listed_here : (bodies : Bodies) (t : Table) (former ids : List ℕ) (layer y : ℕ) → AreAlone bodies t former ids → In y former → length (t y) ≡ 0 → Contains (at_layer layer ids) (orphan_at layer y)
listed_here bodies t former ids layer y h inside alone =
    let found = filter (λ z. eqb (length (t z)) 0) former in
    let there : Contains ids y = Contains-permutation found ids y h.same (in_contains y found (in_filter (λ z. eqb (length (t z)) 0) y former (eq-eqb (length (t y)) 0 alone) inside)) in
    in_contains (orphan_at layer y) (at_layer layer ids) (in_map (orphan_at layer) y ids (contains_in y ids there))

listed : (bodies : Bodies) (tables : ℕ → Table) (former : ℕ → List ℕ) (count n layer y : ℕ) (all : List Orphan) → n ≤ layer → layer < count → In y (former layer) → length (tables layer y) ≡ 0
    → Lists bodies tables former count n all → Contains all (orphan_at layer y)
listed bodies tables former count n layer y all low high inside alone none = absurd (omega arith)
listed bodies tables former count n layer y all low high inside alone (next k os ids above h) = elim (cases_eq layer k) [
  | inl is ↦
      subst (λ j. Contains (os ++ at_layer k ids) (orphan_at j y)) (sym is)
      (Contains-append_right os (at_layer k ids) (orphan_at k y) (listed_here bodies (tables k) (former k) ids k y h (subst (λ j. In y (former j)) is inside) (ap (λ j. length (tables j y)) (sym is) ∙ alone)))
  | inr ne ↦ Contains-append_left os (at_layer k ids) (orphan_at layer y) (listed bodies tables former count (k + 1) layer y os (omega arith) high inside alone above)
]

paired_linked : (ps : List Pair) (u : Table) → KeepsLinked u (paired u ps)
paired_linked [] u a h = h
paired_linked (p ∷ ps) u a h = paired_linked ps (joined u p.one p.other) a (joined_linked u p.one p.other a h)

some_or_none : (n : ℕ) → (0 < n) ⊎ (n ≡ 0)
some_or_none n = elim (cases_eq n 0) [ inl e ↦ inr e | inr ne ↦ inl (omega arith) ]

module _ (at new : ℕ → Option Node) (x m dim : ℕ) (all : List Orphan) (good : AreLinksGood at m dim) (out : IsTakenOut at new x (layers_at at x))
    (lists : Lists (body_at new) (links_at new) (λ l. links_at at l x) (layers_at at x) 0 all) where
  -- one that was no neighbour of x keeps its links
  stays : (layer y : ℕ) → y ≢ x → layer < layers_at at x → is_in (links_at at layer) x y ≡ false → 0 < length (links_at at layer y) → 0 < length (links_at new layer y)
  stays layer y ne high apart had =
      let t = links_at at layer in
      let same : detached t x y ≡ t y = cond-false (eqb y x) [] (without x (t y)) (ne_eqb y x ne) ∙ absent x (t y) (sym ((table_from at m dim layer good).back x y) ∙ apart) in
      subst (λ l. 0 < length l) (sym (out.below layer y high ne)) (paired_linked (out.added layer) (detached t x) y (subst (λ l. 0 < length l) (sym same) had))

  at_own_layer : (layer y : ℕ) (linked : Bool) → is_in (links_at at layer) x y ≡ linked → y ≢ x → layer < layers_at at x → 0 < length (links_at at layer y) → (0 < length (links_at new layer y)) ⊎ Contains all (orphan_at layer y)
  at_own_layer layer y false e ne high had = inl (stays layer y ne high e had)
  at_own_layer layer y true e ne high had = elim (some_or_none (length (links_at new layer y))) [
    | inl some ↦ inl some
    | inr alone ↦ inr (listed (body_at new) (links_at new) (λ l. links_at at l x) (layers_at at x) 0 layer y all (omega arith) high (in_from_test y (links_at at layer x) e) alone lists)
  ]

  by_layer : (layer y : ℕ) (own : Bool) → ltb layer (layers_at at x) ≡ own → y ≢ x → 0 < length (links_at at layer y) → (0 < length (links_at new layer y)) ⊎ Contains all (orphan_at layer y)
  by_layer layer y true e ne had = at_own_layer layer y (is_in (links_at at layer) x y) refl ne (ltb-true layer (layers_at at x) e) had
  by_layer layer y false e ne had = inl (subst (λ l. 0 < length l) (sym (out.above layer y (ltb-false layer (layers_at at x) e) ne)) had)

  pub kept_but : KeepsLinkedBut at new x all
  kept_but layer y ne had = by_layer layer y (ltb layer (layers_at at x)) refl ne had
