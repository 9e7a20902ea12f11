-- A graph of one member has no link.
use Rattle.std.proofs.Common.{◌≡◌, ◌≢◌, ℕ, ◌≤◌, false, ◌||◌, List, [], ◌∷◌, ◌++◌, map, refl, sym, ap, ◌∙◌, subst, arith}
use Rattle.std.specs.Prelude.{None, Some, is_some, IsSomeAnd, Contains, flat_map}
use Rattle.std.specs.List.{range_with_len}
use Rattle.std.specs.declared.option.Option.{Option}
use Rattle.std.proofs.lemmas.Bool.{both_ways, ne_eqb}
use Rattle.vs_graph.specs.declared.node.Node.{Node}
use Rattle.vs_graph.specs.Good.{layers_at, links_at, AreLinksGood}
use Rattle.vs_graph.specs.Standing.{AreIds, name_of, links_from, link_list}

flat_none : {X Y : Type 0} (f : X → List Y) (xs : List X) → ((x : X) → f x ≡ []) → flat_map f xs ≡ []
flat_none f [] h = refl
flat_none f (x ∷ xs) h = ap (λ l. l ++ flat_map f xs) (h x) ∙ flat_none f xs h

no_item : {X : Type 0} (xs : List X) → ((x : X) → Contains xs x → ⊥) → xs ≡ []
no_item [] h = refl
no_item (x ∷ xs) h = absurd (h x (0, omega arith, refl))

stands_dead : (o : Option Node) (layer : ℕ) → is_some o ≡ false → IsSomeAnd o (λ node. layer ≤ node.level) → ⊥
stands_dead None layer e h = h
stands_dead (Some node) layer e h = both_ways (is_some (Some node)) e refl

module _ (at : ℕ → Option Node) (m dim id : ℕ) (good : AreLinksGood at m dim) (are : AreIds at (id ∷ [])) where
  none_else : (q : ℕ) → q ≢ id → is_some (at q) ≡ false
  none_else q ne = sym (are.live q) ∙ ap (λ b. b || false) (ne_eqb q id ne)

  none_linked : (layer b : ℕ) → Contains (links_at at layer id) b → ⊥
  none_linked layer b h =
      stands_dead (at b) layer (none_else b (λ e. good.apart layer id (subst (λ k. Contains (links_at at layer id) k) e h))) (good.stand layer id b h)

  pub single_links : link_list at (id ∷ []) ≡ []
  single_links =
      ap (λ l. l ++ [])
      (flat_none (links_from at id) (range_with_len 0 (layers_at at id)) (λ layer. ap (map (λ other. record { layer = layer; «from» = name_of at id; to = name_of at other })) (no_item (links_at at layer id) (none_linked layer))))
