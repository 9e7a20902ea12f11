-- The orphans that are listed by ids are the definitions', by names.
use Rattle.std.proofs.Common.{◌≡◌, ◌≢◌, ℕ, ◌+◌, ◌≤◌, Bool, true, false, List, [], ◌∷◌, ◌++◌, length, map, append-nil, refl, sym, ap, ◌∙◌, subst, arith}
use Rattle.std.specs.Prelude.{Some, None, IsSome, IfSome, nat_eq, nat_lt, filter, flat_map, option_map, unwrap_or}
use Rattle.std.specs.List.{list_any}
use Rattle.std.specs.List.Sorted.{IsPermutation, IsSorted}
use Rattle.std.specs.Option.{option_map_or}
use Rattle.std.specs.declared.option.Option.{Option}
use Rattle.std.proofs.lemmas.Bool.{both_ways, eqb-true, eq-eqb, ltb-true, lt-ltb}
use Rattle.std.proofs.lemmas.List.{map-append}
use Rattle.std.proofs.lemmas.List.Concat.{flat_map-append}
use Rattle.std.proofs.lemmas.List.Elements.{filter-append}
use Rattle.std.proofs.lemmas.List.Sorted.{IsPermutation-map, IsPermutation-sym, IsPermutation-trans, Contains-permutation}
use Rattle.std.specs.Cmp.Derive.{one_truth}
use Rattle.vs_defs.specs.Bytes.{Bytes, name_cmp, sort_by}
use Rattle.vs_defs.specs.Store.{Member, no_member}
use Rattle.vs_defs.specs.Links.{neighbours}
use Rattle.vs_defs.specs.Beam.{layers_down, level_at}
use Rattle.vs_defs.specs.Removal as rules
use Rattle.vs_graph.specs.declared.node.Node.{Node}
use Rattle.vs_graph.specs.Good.{body_at, layers_at, links_at, IsGoodNode, AreLinksGood}
use Rattle.vs_graph.specs.Table.{is_in, without}
use Rattle.vs_graph.specs.Named.{is_live}
use Rattle.vs_graph.specs.Standing.{AreIds, member_of_node, member_at, members_of, name_of, named_links, set_of}
use Rattle.vs_graph.proofs.Goods.{table_from}
use Rattle.vs_graph.proofs.Sorts.{In, in_filter, from_filter, filter_of_map, filter_same, in_from_test, test_from_in, map_same_in}
use Rattle.vs_graph.proofs.Standing.{degree, member_there}
use Rattle.vs_graph.proofs.Lists.{distinct_filter}
use Rattle.vs_defs.proofs.LayerLaws.{no_layers}
use Rattle.vs_rank.proofs.Sorted.{sort_is, ascends_from_sort}
use Rattle.vs_unlink.specs.declared.Orphan.{Orphan}
use Rattle.vs_unlink.specs.Orphans.{AreAlone, at_layer, Lists, none, next, named_orphan}
use Rattle.vs_unlink.specs.Unlinked.{IsTakenOut}
use Rattle.vs_unlink.proofs.Pairing.{contains_in, in_contains}
use Rattle.vs_unlink.proofs.Bynames.{former_are, live_former, other_former, are_left, still, name_new}
use Rattle.vs_unlink.proofs.Leavings.{members_left}
use Rattle.vs_unlink.proofs.Reordered.{same_ids, name_order, filter_sorted, names_sorted, layers_more}

none_at : (n : ℕ) → nat_lt n 1 ≡ nat_eq n 0
none_at n = one_truth (nat_lt n 1) (nat_eq n 0) (λ h. eq-eqb n 0 (omega (arith, ltb-true n 1 h))) (λ h. lt-ltb n 1 (omega (arith, eqb-true n 0 h)))

layers_by : (m dim : ℕ) (o : Option Node) → IsSome o → IfSome o (IsGoodNode m dim)
    → option_map_or (λ node. length node.links) o 0 ≡ (option_map_or (member_of_node dim) o no_member).level + 1
layers_by m dim None some good = absurd (both_ways false refl some)
layers_by m dim (Some node) some good = good.layers

named_at_layer : (at : ℕ → Option Node) (layer : ℕ) (ids : List ℕ) → map (λ (y : Bytes). (layer, y)) (map (name_of at) ids) ≡ map (named_orphan at) (at_layer layer ids)
named_at_layer at layer [] = refl
named_at_layer at layer (y ∷ ys) = ap (λ l. (layer, name_of at y) ∷ l) (named_at_layer at layer ys)

module _ (at new : ℕ → Option Node) (x m dim : ℕ) (ids : List ℕ) (good : AreLinksGood at m dim) (are : AreIds at ids) (live : IsSome (at x)) (out : IsTakenOut at new x (layers_at at x)) where
  -- ---- who is alone at a layer

  abbrev is_unlinked : ℕ → Bytes → Bool
  is_unlinked layer y = nat_lt (length (neighbours (rules.all_but (name_of at x) (members_of at dim ids)) (named_links new (without x ids)) layer y)) 1

  abbrev is_alone : ℕ → ℕ → Bool
  is_alone layer y = nat_eq (length (links_at new layer y)) 0

  abbrev former : ℕ → List ℕ
  former layer = filter (is_in (links_at at layer) x) ids

  alone_named : (layer y : ℕ) → is_live ids y ≡ true → y ≢ x → is_unlinked layer (name_of at y) ≡ is_alone layer y
  alone_named layer y live_y ne =
      ap (λ ms. nat_lt (length (neighbours ms (named_links new (without x ids)) layer (name_of at y))) 1) (sym (members_left at new x m dim ids good are live out.rest))
      ∙ ap (λ n. nat_lt (length (neighbours (members_of new dim (without x ids)) (named_links new (without x ids)) layer n)) 1) (sym (name_new at new x m dim ids good are live out y ne))
      ∙ ap (λ k. nat_lt k 1) (degree new m dim (without x ids) (out.good m dim good) (are_left at new x m dim ids good are live out) layer y (still at new x m dim ids good are live out y live_y ne))
      ∙ none_at (length (links_at new layer y))

  linked_live : (layer y : ℕ) → is_in (links_at at layer) x y ≡ true → is_live ids y ≡ true
  linked_live = live_former at new x m dim ids good are live out

  linked_other : (layer y : ℕ) → is_in (links_at at layer) x y ≡ true → y ≢ x
  linked_other = other_former at new x m dim ids good are live out

  alone_in : (layer y : ℕ) → list_any (nat_eq y) (filter (is_alone layer) (former layer)) ≡ true → list_any (nat_eq y) (filter (is_alone layer) (links_at at layer x)) ≡ true
  alone_in layer y h =
      let a = from_filter (is_alone layer) y (former layer) (in_from_test y (filter (is_alone layer) (former layer)) h) in
      let linked = (from_filter (is_in (links_at at layer) x) y ids a.0).1 in
      test_from_in y (filter (is_alone layer) (links_at at layer x)) (in_filter (is_alone layer) y (links_at at layer x) a.1 (in_from_test y (links_at at layer x) linked))

  alone_from : (layer y : ℕ) → list_any (nat_eq y) (filter (is_alone layer) (links_at at layer x)) ≡ true → list_any (nat_eq y) (filter (is_alone layer) (former layer)) ≡ true
  alone_from layer y h =
      let a = from_filter (is_alone layer) y (links_at at layer x) (in_from_test y (filter (is_alone layer) (links_at at layer x)) h) in
      let linked = test_from_in y (links_at at layer x) a.0 in
      test_from_in y (filter (is_alone layer) (former layer))
      (in_filter (is_alone layer) y (former layer) a.1 (in_filter (is_in (links_at at layer) x) y ids linked (in_from_test y ids (linked_live layer y linked))))

  same_alone : (layer : ℕ) → IsPermutation (filter (is_alone layer) (former layer)) (filter (is_alone layer) (links_at at layer x))
  same_alone layer =
      same_ids (filter (is_alone layer) (former layer)) (filter (is_alone layer) (links_at at layer x))
      (distinct_filter (is_alone layer) (former layer) (distinct_filter (is_in (links_at at layer) x) ids are.once))
      (distinct_filter (is_alone layer) (links_at at layer x) ((table_from at m dim layer good).once x)) (λ y. one_truth _ _ (alone_in layer y) (alone_from layer y))

  -- ---- the orphans of a layer

  abbrev named_former : ℕ → List Bytes
  named_former layer = neighbours (members_of at dim ids) (named_links at ids) layer (name_of at x)

  module _ (layer : ℕ) (alone : List ℕ) (h : AreAlone (body_at new) (links_at new layer) (links_at at layer x) alone) where
    other_alone : (y : ℕ) → In y alone → y ≢ x
    other_alone y inside =
        let found = filter (is_alone layer) (links_at at layer x) in
        let there = contains_in y found (Contains-permutation alone found y (IsPermutation-sym found alone h.same) (in_contains y alone inside)) in
        linked_other layer y (test_from_in y (links_at at layer x) (from_filter (is_alone layer) y (links_at at layer x) there).0)

    same_names : map (name_of new) alone ≡ map (name_of at) alone
    same_names = map_same_in (name_of new) (name_of at) alone (λ y inside. name_new at new x m dim ids good are live out y (other_alone y inside))

    unlinked_are : filter (is_unlinked layer) (named_former layer) ≡ map (name_of at) (filter (is_alone layer) (former layer))
    unlinked_are =
        ap (filter (is_unlinked layer)) (former_are at new x m dim ids good are live out layer) ∙ filter_of_map (name_of at) (is_unlinked layer) (former layer)
        ∙ ap (map (name_of at)) (filter_same (λ y. is_unlinked layer (name_of at y)) (is_alone layer) (former layer)
        (λ y inside. let linked = (from_filter (is_in (links_at at layer) x) y ids inside).1 in alone_named layer y (linked_live layer y linked) (linked_other layer y linked)))

    names_are : filter (is_unlinked layer) (sort_by name_cmp (named_former layer)) ≡ map (name_of at) alone
    names_are =
        let found = filter (is_alone layer) (former layer) in
        filter_sorted name_cmp name_order (is_unlinked layer) (named_former layer) ∙ ap (sort_by name_cmp) unlinked_are
        ∙ sort_is name_cmp name_order (map (name_of at) found) (map (name_of at) alone)
        (ascends_from_sort name_cmp name_order (map (name_of at) alone) (subst (IsSorted name_cmp) same_names (names_sorted (name_of new) alone h.sorted)))
        (IsPermutation-map (name_of at) found alone (IsPermutation-trans found (filter (is_alone layer) (links_at at layer x)) alone (same_alone layer) h.same))

    pub layer_named : filter (λ (c : ℕ × Bytes). is_unlinked c.0 c.1) (map (λ (y : Bytes). (layer, y)) (sort_by name_cmp (named_former layer))) ≡ map (named_orphan at) (at_layer layer alone)
    layer_named =
        filter_of_map (λ (y : Bytes). (layer, y)) (λ (c : ℕ × Bytes). is_unlinked c.0 c.1) (sort_by name_cmp (named_former layer))
        ∙ ap (map (λ (y : Bytes). (layer, y))) names_are ∙ named_at_layer at layer alone

  -- ---- all

  abbrev former_at : ℕ → List (ℕ × Bytes)
  former_at layer = map (λ (y : Bytes). (layer, y)) (sort_by name_cmp (named_former layer))

  abbrev unlinked_down : ℕ → ℕ → List (ℕ × Bytes)
  unlinked_down high low = filter (λ (c : ℕ × Bytes). is_unlinked c.0 c.1) (flat_map former_at (layers_down high low))

  unlinked_more : (high n : ℕ) → n ≤ high → unlinked_down high n ≡ unlinked_down high (n + 1) ++ filter (λ (c : ℕ × Bytes). is_unlinked c.0 c.1) (former_at n)
  unlinked_more high n h =
      let p : ℕ × Bytes → Bool = λ c. is_unlinked c.0 c.1 in
      ap (λ ls. filter p (flat_map former_at ls)) (layers_more high n h) ∙ ap (filter p) (flat_map-append former_at (layers_down high (n + 1)) (n ∷ []))
      ∙ ap (λ l. filter p (flat_map former_at (layers_down high (n + 1)) ++ l)) (append-nil (former_at n)) ∙ filter-append p (flat_map former_at (layers_down high (n + 1))) (former_at n)

  listed : (high count n : ℕ) (all : List Orphan) → count ≡ high + 1 → Lists (body_at new) (links_at new) (λ l. links_at at l x) count n all → (n ≤ count) × (map (named_orphan at) all ≡ unlinked_down high n)
  listed high count n all e none = (omega arith, ap (λ ls. filter (λ (c : ℕ × Bytes). is_unlinked c.0 c.1) (flat_map former_at ls)) (sym (no_layers high count (omega (arith, e)))))
  listed high count n all e (next k os alone above h) =
      let r = listed high count (k + 1) os e above in (
        omega (arith, r.0),
        map-append (named_orphan at) os (at_layer k alone) ∙ ap (λ l. l ++ map (named_orphan at) (at_layer k alone)) r.1
            ∙ ap (λ l. unlinked_down high (k + 1) ++ l) (sym (layer_named k alone h)) ∙ sym (unlinked_more high k (omega (arith, r.0, e))),
      )

  level_named : (cut : ℕ) (entry : Option ℕ) → level_at (set_of at entry m dim cut ids) (name_of at x) ≡ (member_at at dim x).level
  level_named cut entry = ap (λ o. unwrap_or (option_map (λ (y : Member). y.level) o) 0) (member_there at m dim ids good are x (are.live x ∙ live))

  pub orphans_named : (cut : ℕ) (entry : Option ℕ) (all : List Orphan) → Lists (body_at new) (links_at new) (λ l. links_at at l x) (layers_at at x) 0 all
      → map (named_orphan at) all ≡ rules.orphans (set_of at entry m dim cut ids) (name_of at x) (named_links new (without x ids))
  orphans_named cut entry all h =
      (listed (member_at at dim x).level (layers_at at x) 0 all (layers_by m dim (at x) live (good.nodes x)) h).1 ∙ ap (λ high. unlinked_down high 0) (sym (level_named cut entry))
