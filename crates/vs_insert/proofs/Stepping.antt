-- A new member is joined at one layer more.
use Rattle.std.proofs.Common.{◌≡◌, ◌≢◌, ◌⊎◌, ℕ, zero, suc, ◌<◌, ◌≤◌, Bool, true, false, not, ◌&&◌, ◌||◌, List, [], ◌∷◌, ◌++◌, length, map, take, refl, sym, ap, ◌∙◌, subst, arith, inl, inr}
use Rattle.std.specs.Prelude.{Some, None, IsSome, IsSomeAnd, nat_le, nat_lt, fold, option_map, reverse, slice_get, unwrap_or, All}
use Rattle.std.specs.List.{list_any}
use Rattle.std.specs.Option.{option_map_or}
use Rattle.std.specs.declared.option.Option.{Option}
use Rattle.std.proofs.Math.Path.{fun_ext}
use Rattle.std.proofs.lemmas.Bool.{cases_eq, cond-false, leb-true, both_ways}
use Rattle.std.proofs.lemmas.List.{reverse-append}
use Rattle.std.proofs.lemmas.Slice.Eq.{bytes_eq-Decides}
use Rattle.std.proofs.Math.Bool.{and-false}
use Rattle.vs_defs.specs.Bytes.{Bytes, same_name}
use Rattle.vs_defs.specs.Store.{Member, no_member}
use Rattle.vs_defs.specs.Links.{Links, neighbours, another_stands}
use Rattle.vs_defs.specs.Linking as rules
use Rattle.vs_defs.specs.Insertion.{SameLinks, linked_along}
use Rattle.vs_graph.specs.declared.node.Node.{Node}
use Rattle.vs_graph.specs.Good.{links_at, StandsAt, AreLinksGood}
use Rattle.vs_graph.specs.GoodTable.{KeepsLinked}
use Rattle.vs_graph.specs.Standing.{AreIds, member_of_node, member_at, members_of, name_of, named_links}
use Rattle.vs_graph.proofs.Goods.{links_elsewhere}
use Rattle.vs_graph.proofs.Sorts.{In, test_from_in}
use Rattle.vs_graph.proofs.Standing.{member_name}
use Rattle.vs_insert.specs.declared.draft.Chosen.{Chosen}
use Rattle.vs_insert.specs.Drafts.{ids_of, names_of, chosen_at, names_down}
use Rattle.vs_insert.specs.Joined.{layers_below, IsLayerJoined, IsJoinedFrom}
use Rattle.vs_unlink.proofs.Layers.{bare_kept}
use Rattle.vs_insert.proofs.Bare.{names_same, members_same, ids_on, stands_on}

-- ---- lists from the highest layer down

take_next : (xs : List (List Chosen)) (n : ℕ) → n < length xs → take (suc n) xs ≡ take n xs ++ unwrap_or (slice_get xs n) [] ∷ []
take_next [] n h = absurd (omega arith)
take_next (x ∷ xs) zero h = refl
take_next (x ∷ xs) (suc n) h = ap (λ l. x ∷ l) (take_next xs n (omega arith))

pub names_next : (xs : List (List Chosen)) (n : ℕ) → n < length xs → names_down (take (suc n) xs) ≡ names_of (chosen_at xs n) ∷ names_down (take n xs)
names_next xs n h = ap (λ l. map names_of (reverse l)) (take_next xs n h) ∙ ap (map names_of) (reverse-append (take n xs) (chosen_at xs n ∷ []))

-- ---- names of those that were chosen

pub names_chosen : (at : ℕ → Option Node) (list : List Chosen) → All (λ (c : Chosen). name_of at c.id ≡ c.body.name) list → map (name_of at) (ids_of list) ≡ names_of list
names_chosen at [] h = refl
names_chosen at (c ∷ cs) h = ap (λ n. n ∷ map (name_of at) (ids_of cs)) (h 0 c (omega arith)) ∙ ap (λ l. c.body.name ∷ l) (names_chosen at cs (λ i d less. h (suc i) d (omega arith)))

-- ---- where nobody else stands, the fallback is not looked at

none_any : (p : Member → Bool) (f : ℕ → Member) (xs : List ℕ) → ((x : ℕ) → In x xs → p (f x) ≡ false) → list_any p (map f xs) ≡ false
none_any p f [] h = refl
none_any p f (x ∷ xs) h = ap (λ b. b || list_any p (map f xs)) (h x (inl refl)) ∙ none_any p f xs (λ y k. h y (inr k))

too_low : (layer : ℕ) (dim : ℕ) (o : Option Node) → IsSome o → (IsSomeAnd o (λ node. layer ≤ node.level) → ⊥) → (b : Bool) → nat_le layer (option_map_or (member_of_node dim) o no_member).level ≡ b → b ≡ false
too_low layer dim None some h b e = absurd (both_ways false refl some)
too_low layer dim (Some node) some h false e = refl
too_low layer dim (Some node) some h true e = absurd (h (leb-true layer node.level e))

pub nobody_else : (at : ℕ → Option Node) (dim x layer : ℕ) (ids : List ℕ) → AreIds at ids → ((y : ℕ) → y ≢ x → StandsAt at layer y → ⊥) → another_stands (members_of at dim ids) layer (name_of at x) ≡ false
nobody_else at dim x layer ids are none =
    none_any (λ (y : Member). nat_le layer y.level && not (same_name (name_of at x) y.name)) (member_at at dim) ids
    (λ q inside. elim (cases_eq q x) [
      | inl is ↦
          ap (λ n. nat_le layer (member_at at dim q).level && not (same_name n (member_at at dim q).name)) (ap (name_of at) (sym is) ∙ sym (member_name at 0 dim q))
          ∙ ap (λ b. nat_le layer (member_at at dim q).level && not b) ((bytes_eq-Decides (member_at at dim q).name (member_at at dim q).name).1 refl) ∙ and-false (nat_le layer (member_at at dim q).level)
      | inr ne ↦
          ap (λ b. b && not (same_name (name_of at x) (member_at at dim q).name))
          (too_low layer dim (at q) (sym (are.live q) ∙ test_from_in q ids inside) (none q ne) (nat_le layer (member_at at dim q).level) refl)
    ])

pub fallback_same : (m : ℕ) (members : List Member) (links : Links) (x : Bytes) (layer : ℕ) (chosen : List Bytes) (one other : Option Bytes) → another_stands members layer x ≡ false
    → rules.linked m members links x layer chosen one ≡ rules.linked m members links x layer chosen other
fallback_same m members links x layer chosen one other none =
    let offered = fold (rules.accepted m members x layer) links chosen in
    let alone : rules.is_alone m members offered layer x ≡ false =
    ap (λ b. nat_lt (length (neighbours members offered layer x)) 1 && b) none ∙ and-false (nat_lt (length (neighbours members offered layer x)) 1) in
    cond-false (rules.is_alone m members offered layer x) (rules.forced m members offered layer x (rules.forced_target m members chosen one)) offered alone
    ∙ sym (cond-false (rules.is_alone m members offered layer x) (rules.forced m members offered layer x (rules.forced_target m members chosen other)) offered alone)

-- ---- one layer more

pub links_ext : (one other : Links) → SameLinks one other → one ≡ other
links_ext one other same = fun_ext (λ layer. fun_ext (λ a. fun_ext (λ b. same layer a b)))

-- the fallback is the entry, or else nobody but x stands at the layer
abbrev pub FallsBack : (ℕ → Option Node) → ℕ → Option ℕ → Option ℕ → ℕ → Type 0
FallsBack at x entry fallback layer = (fallback ≡ entry) ⊎ ((y : ℕ) → y ≢ x → StandsAt at layer y → ⊥)

module _ (at now new : ℕ → Option Node) (m x : ℕ) (entry fallback : Option ℕ) (chosen : List (List Chosen)) (n : ℕ) (within : n < length chosen)
    (j : IsJoinedFrom at now m x entry chosen (suc n)) (step : IsLayerJoined now new m x n (chosen_at chosen n) fallback) (falls : FallsBack at x entry fallback n)
    (named : All (λ (c : Chosen). name_of at c.id ≡ c.body.name) (chosen_at chosen n)) where
  elsewhere : (l : ℕ) → l ≢ n → links_at new l ≡ links_at now l
  elsewhere l ne = fun_ext (λ id. links_elsewhere now new n l step.table step.relinks ne id)

  kept_at : (l : ℕ) → KeepsLinked (links_at at l) (links_at new l)
  kept_at l a h =
      elim (cases_eq l n) [
        | inl is ↦ subst (λ k. 0 < length (links_at new k a)) (sym is) (step.kept a (subst (λ k. 0 < length (links_at now k a)) is (j.kept l a h)))
        | inr ne ↦ subst (λ t. 0 < length (t a)) (sym (elsewhere l ne)) (j.kept l a h)
      ]

  own_at : (l y : ℕ) → n ≤ l → l < length chosen → y ≢ x → StandsAt at l y → 0 < length (links_at new l x)
  own_at l y low high ne h =
      elim (cases_eq l n) [
        | inl is ↦ subst (λ k. 0 < length (links_at new k x)) (sym is) (step.own y ne (subst (λ k. StandsAt now k y) is (stands_on at now j.rest l y h)))
        | inr other ↦ subst (λ t. 0 < length (t x)) (sym (elsewhere l other)) (j.own l y (omega (arith, low, other)) high ne h)
      ]

  one_layer : (dim : ℕ) (ids : List ℕ) → AreLinksGood at m dim → AreIds at ids
      → rules.linked m (members_of at dim ids) (named_links now ids) (name_of at x) n (names_of (chosen_at chosen n)) (option_map (name_of at) entry) ≡ named_links new ids
  one_layer dim ids good are =
      let made = links_ext _ _ (step.named dim ids (j.good dim good) (ids_on at now j.rest ids are)) in
      let names = names_same at now j.rest in
      let by_fallback : named_links new ids ≡ rules.linked m (members_of at dim ids) (named_links now ids) (name_of at x) n (names_of (chosen_at chosen n)) (option_map (name_of at) fallback) =
      made ∙ ap (λ (f : ℕ → Bytes). rules.linked m (members_of now dim ids) (named_links now ids) (f x) n (map f (ids_of (chosen_at chosen n))) (option_map f fallback)) names
      ∙ ap (λ ms. rules.linked m ms (named_links now ids) (name_of at x) n (map (name_of at) (ids_of (chosen_at chosen n))) (option_map (name_of at) fallback)) (members_same at now j.rest dim ids)
      ∙ ap (λ c. rules.linked m (members_of at dim ids) (named_links now ids) (name_of at x) n c (option_map (name_of at) fallback)) (names_chosen at (chosen_at chosen n) named) in
      let to_entry : rules.linked m (members_of at dim ids) (named_links now ids) (name_of at x) n (names_of (chosen_at chosen n)) (option_map (name_of at) fallback)
      ≡ rules.linked m (members_of at dim ids) (named_links now ids) (name_of at x) n (names_of (chosen_at chosen n)) (option_map (name_of at) entry) =
      elim falls [
        | inl e ↦ ap (λ f. rules.linked m (members_of at dim ids) (named_links now ids) (name_of at x) n (names_of (chosen_at chosen n)) (option_map (name_of at) f)) e
        | inr none ↦ fallback_same m (members_of at dim ids) (named_links now ids) (name_of at x) n (names_of (chosen_at chosen n)) (option_map (name_of at) fallback) (option_map (name_of at) entry) (nobody_else at dim x n ids are none)
      ] in
      sym (by_fallback ∙ to_entry)

  pub joined_more : IsJoinedFrom at new m x entry chosen n
  joined_more = record {
    rest = λ id. bare_kept now new n step.table step.relinks id ∙ j.rest id;
    below = λ l h. elsewhere l (λ e. absurd (omega (arith, e, h))) ∙ j.below l (omega (arith, h));
    good = λ dim g. step.good dim (j.good dim g);
    kept = kept_at;
    own = own_at;
    named = λ dim ids good are.
        j.named dim ids good are
        ∙ ap (λ cs. linked_along m (members_of at dim ids) (named_links now ids) (name_of at x) (option_map (name_of at) entry) (layers_below (suc n)) cs) (names_next chosen n within)
        ∙ ap (λ links. linked_along m (members_of at dim ids) links (name_of at x) (option_map (name_of at) entry) (layers_below n) (names_down (take n chosen))) (one_layer dim ids good are);
  }
