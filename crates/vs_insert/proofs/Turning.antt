-- What is known where one layer more is to be joined.
use Rattle.std.proofs.Common.{◌≡◌, ◌≢◌, ℕ, zero, suc, ◌<◌, ◌≤◌, List, [], ◌∷◌, length, map, get_or, refl, sym, ap, ◌∙◌, subst, arith, inl, inr}
use Rattle.std.specs.Prelude.{Some, None, IsSomeAnd, All, option_map}
use Rattle.std.specs.declared.option.Option.{Option}
use Rattle.std.proofs.lemmas.List.{length-map}
use Rattle.std.proofs.lemmas.List.Elements.{All-map}
use Rattle.vs_defs.specs.Insertion.{SameLinks}
use Rattle.vs_defs.specs.Linking as rules
use Rattle.vs_graph.specs.declared.node.Node.{Node}
use Rattle.vs_graph.specs.Good.{layers_at, links_at, StandsAt, AreLinksGood}
use Rattle.vs_graph.specs.Standing.{members_of, name_of, named_links}
use Rattle.vs_graph.proofs.Goods.{layers_from, level_from}
use Rattle.vs_link.specs.Linked.{AreChosen, IsFallback}
use Rattle.vs_insert.specs.declared.draft.Chosen.{Chosen}
use Rattle.vs_insert.specs.Drafts.{ids_of, chosen_at, AreChoices}
use Rattle.vs_insert.specs.Joined.{IsSharedBelow, IsJoinedFrom}
use Rattle.vs_insert.proofs.Bare.{names_same, stands_on, stood}
use Rattle.vs_insert.proofs.Stepping.{FallsBack}

pub are_chosen : (at : ℕ → Option Node) (m dim layer x : ℕ) (list : List Chosen) (ids : List ℕ) → ids ≡ ids_of list → AreLinksGood at m dim → AreChoices at m layer list → All (λ (c : Chosen). c.id ≢ x) list → AreChosen (layers_at at) layer m x ids
are_chosen at m dim layer x list ids same good are others =
    subst (λ l. AreChosen (layers_at at) layer m x l) (sym same) (record {
      stand = All-map (λ y. (layer < layers_at at y) × (y ≢ x)) (λ (c : Chosen). c.id) list (λ k d h. (layers_from m dim layer (at (get_or list k d).id) (good.nodes (get_or list k d).id) (are.stand k d h), others k d h));
      once = are.once;
      few = subst (λ n. n ≤ m) (sym (length-map list (λ (c : Chosen). c.id))) are.few;
    })

pub chosen_index : (xs : List (List Chosen)) (n : ℕ) (d : List Chosen) → n < length xs → chosen_at xs n ≡ get_or xs n d
chosen_index [] n d h = absurd (omega (arith, h))
chosen_index (x ∷ xs) zero d h = refl
chosen_index (x ∷ xs) (suc n) d h = chosen_index xs n d (omega (arith, h))

pub named_by_ids : (at new : ℕ → Option Node) (m dim x layer : ℕ) (ids chosen : List ℕ) (list : List Chosen) (fallback : Option ℕ) → chosen ≡ ids_of list
    → SameLinks (named_links new ids) (rules.linked m (members_of at dim ids) (named_links at ids) (name_of at x) layer (map (name_of at) chosen) (option_map (name_of at) fallback))
    → SameLinks (named_links new ids) (rules.linked m (members_of at dim ids) (named_links at ids) (name_of at x) layer (map (name_of at) (ids_of list)) (option_map (name_of at) fallback))
named_by_ids at new m dim x layer ids chosen list fallback same h =
    subst (λ l. SameLinks (named_links new ids) (rules.linked m (members_of at dim ids) (named_links at ids) (name_of at x) layer (map (name_of at) l) (option_map (name_of at) fallback))) same h

module _ (at now : ℕ → Option Node) (m x : ℕ) (entry : Option ℕ) (chosen : List (List Chosen)) (n : ℕ) (j : IsJoinedFrom at now m x entry chosen (suc n)) where
  pub free_now : ((l : ℕ) → links_at at l x ≡ []) → links_at now n x ≡ []
  free_now free = ap (λ t. t x) (j.below n (omega arith)) ∙ free n

  pub choices_now : (list : List Chosen) → AreChoices at m n list → AreChoices now m n list
  choices_now list are = record {
    stand = λ k d h. stands_on at now j.rest n (get_or list k d).id (are.stand k d h);
    names = λ k d h. ap (λ names. names (get_or list k d).id) (names_same at now j.rest) ∙ are.names k d h;
    once = are.once;
    few = are.few;
  }

  some_entry : (e : Option ℕ) (dim : ℕ) → AreLinksGood now m dim → IsSomeAnd e (λ id. StandsAt at n id × (id ≢ x)) → IsFallback (layers_at now) n x e
  some_entry None dim good h = absurd h
  some_entry (Some e) dim good h = (layers_from m dim n (now e) (good.nodes e) (stands_on at now j.rest n e h.0), h.1)

  module _ (count shared dim : ℕ) (is : IsSharedBelow at x entry count shared) (within : n < count) (good : AreLinksGood now m dim) where
    pub entry_may : n < shared → IsFallback (layers_at now) n x entry
    entry_may h = some_entry entry dim good (is.within n h)

    pub nobody_may : shared ≤ n → IsFallback (layers_at now) n x None
    nobody_may h = λ y ne stands. is.beyond n y h within ne (stood at now j.rest n y (level_from m dim n (now y) (good.nodes y) stands))

    pub falls_entry : FallsBack at x entry entry n
    falls_entry = inl refl

    pub falls_none : (fallback : Option ℕ) → shared ≤ n → FallsBack at x entry fallback n
    falls_none fallback h = inr (λ y ne stands. is.beyond n y h within ne stands)
