-- Chosen members under other ids: by their names they may be linked to all the same.
use Rattle.std.proofs.Common.{◌≡◌, ◌≢◌, ℕ, suc, ◌<◌, ◌≤◌, false, true, List, [], ◌∷◌, length, get_or, sym, ap, ◌∙◌, subst, arith}
use Rattle.std.specs.Prelude.{nat_eq, IsSome, IsTrue, All, AllPairs}
use Rattle.std.specs.List.{IsDistinct}
use Rattle.std.specs.declared.option.Option.{Option}
use Rattle.std.proofs.lemmas.Bool.{ltb-true, ne_eqb}
use Rattle.std.proofs.lemmas.List.{length-map, get_or-map}
use Rattle.std.proofs.lemmas.List.Elements.{recursion_from_All}
use Rattle.std.proofs.lemmas.Map.Keys.{IsDistinct-cons}
use Rattle.vs_defs.specs.Bytes.{Bytes}
use Rattle.vs_defs.specs.Links.{stands_at}
use Rattle.vs_graph.specs.declared.node.Node.{Node}
use Rattle.vs_graph.specs.Good.{layers_at, AreLinksGood}
use Rattle.vs_graph.specs.Standing.{AreIds, members_of, name_of}
use Rattle.vs_graph.proofs.Goods.{distinct_none, level_from}
use Rattle.vs_graph.proofs.Standing.{are_members}
use Rattle.vs_insert.specs.declared.draft.Chosen.{Chosen}
use Rattle.vs_insert.specs.Drafts.{ids_of, names_of, AreChoices}

-- each is live, under its name
abbrev pub AreFoundByName : (ℕ → Option Node) → List Chosen → Type 0
AreFoundByName at list = All (λ (c : Chosen). IsSome (at c.id) × (name_of at c.id ≡ c.body.name)) list

module _ (at : ℕ → Option Node) where
  ids_apart : (list : List Chosen) → AreFoundByName at list → AllPairs (λ (a b : Bytes). a ≢ b) (names_of list) → IsDistinct nat_eq (ids_of list)
  ids_apart [] found once = distinct_none
  ids_apart (c ∷ cs) found once =
      IsDistinct-cons nat_eq c.id (ids_of cs)
      (recursion_from_All (λ y. nat_eq c.id y ≡ false) (ids_of cs)
      (λ k d h.
      let inside : k < length cs = subst (λ n. k < n) (length-map cs (λ (x : Chosen). x.id)) h in
      let same : get_or (ids_of cs) k d ≡ (get_or cs k c).id = get_or-map (λ (x : Chosen). x.id) cs k c d inside in
      ne_eqb c.id (get_or (ids_of cs) k d)
      (λ e. once 0 (suc k) [] (omega arith) (omega (arith, inside, length-map cs (λ (x : Chosen). x.body.name)))
      (sym (found 0 c (omega arith)).1 ∙ ap (name_of at) (e ∙ same) ∙ (found (suc k) c (omega (arith, inside))).1 ∙ sym (get_or-map (λ (x : Chosen). x.body.name) cs k c [] inside)))))
      (ids_apart cs (λ k d h. found (suc k) d (omega (arith, h))) (λ i j d less short. once (suc i) (suc j) d (omega (arith, less)) (omega (arith, short))))

  pub renamed_choices : (m dim layer : ℕ) (ids : List ℕ) (list : List Chosen) → AreLinksGood at m dim → AreIds at ids → AreFoundByName at list → AllPairs (λ (a b : Bytes). a ≢ b) (names_of list) → length list ≤ m
      → All (λ (name : Bytes). IsTrue (stands_at (members_of at dim ids) layer name)) (names_of list) → AreChoices at m layer list
  renamed_choices m dim layer ids list good are found once few stand = record {
    stand = λ k d h.
        let c = get_or list k d in
        let named : get_or (names_of list) k [] ≡ c.body.name = get_or-map (λ (x : Chosen). x.body.name) list k d [] h in
        let here : stands_at (members_of at dim ids) layer (name_of at c.id) ≡ true =
        ap (stands_at (members_of at dim ids) layer) ((found k d h).1 ∙ sym named) ∙ stand k [] (subst (λ n. k < n) (sym (length-map list (λ (x : Chosen). x.body.name))) h) in
        level_from m dim layer (at c.id) (good.nodes c.id)
        (ltb-true layer (layers_at at c.id) (sym ((are_members at m dim ids good are).stands layer c.id (are.live c.id ∙ (found k d h).0)) ∙ here));
    names = λ k d h. (found k d h).1;
    once = ids_apart list found once;
    few = few;
  }
