-- Chosen members with the ids that their names have now.
--     all_done            a list each of whose items was changed in place
--     same_names          the names are as they were
--     are_drafted         they may be linked to
--     down_same           the names of all layers are as they were
use Rattle.std.proofs.Common.{◌≡◌, ◌≢◌, ℕ, ◌<◌, ◌≤◌, ◌+◌, ◌-◌, true, false, List, [], ◌∷◌, length, map, reverse, refl, sym, ap, ◌∙◌, subst, arith, get_or, is_some, inl, inr, ltb}
use Rattle.std.specs.Prelude.{All, AllPairs, Some, None, IsSome, IsTrue, unwrap_or}
use Rattle.std.specs.declared.option.Option.{Option}
use Rattle.std.proofs.lemmas.Bool.{both_ways, cases_Bool, ltb-true, ltb-false}
use Rattle.std.proofs.lemmas.List.{length-map, get_or-map, ext_get_or, length-reverse, get_or-reverse}
use Rattle.std.proofs.lemmas.Option.{slice_get_past, slice_get-get_or}
use Rattle.vs_defs.specs.Links.{stands_at, reaches}
use Rattle.vs_defs.specs.Store.{Member, member_of}
use Rattle.vs_graph.specs.declared.node.Node.{Node}
use Rattle.vs_graph.specs.Good.{AreLinksGood}
use Rattle.vs_graph.specs.Standing.{member_at, members_of, name_of}
use Rattle.vs_insert.specs.declared.draft.Chosen.{Chosen}
use Rattle.vs_insert.specs.Added.{AreDrafted}
use Rattle.vs_insert.specs.Chosen.{AreLayerNames, AreChosenNames}
use Rattle.vs_insert.specs.Drafts.{AreChoices, chosen_at, names_of, names_down}
use Rattle.vs_insert.proofs.Choices.{no_choices}
use Rattle.vs_insert.proofs.Renamed.{renamed_choices}
use Rattle.vs_order.specs.Entries.{Entries, ids_of, id_of}
use Rattle.vs_set.specs.Kept.{set_by, AreNamed}
use Rattle.vs_set.specs.Retaken.{with_id, retaken}
use Rattle.vs_laws.proofs.Options.{is_some_of_map}
use Rattle.vs_set.proofs.Members.{found, live_at, named_at}

pub all_done : {X : Type 0} (f : X → X) (d : X) (old now : List X) → length now ≡ length old → ((k : ℕ) (e : X) → k < length old → get_or now k e ≡ f (get_or old k e)) → now ≡ map f old
all_done f d old now long each =
    ext_get_or d now (map f old) (omega (arith, long, length-map old f)) (λ k h. let lt : k < length old = omega (arith, h, long) in each k d lt ∙ sym (get_or-map f old k d d lt))

abbrev pub no_chosen : Chosen
no_chosen = record { id = 0; body = record { name = []; bits = [] } }

-- ---- names

pub same_names : (entries : Entries) (list : List Chosen) → names_of (retaken entries list) ≡ names_of list
same_names entries [] = refl
same_names entries (c ∷ cs) = ap (λ l. c.body.name ∷ l) (same_names entries cs)

-- ---- a layer

stands_some : (layer : ℕ) (o : Option Member) → reaches layer o ≡ true → is_some o ≡ true
stands_some layer None h = absurd (both_ways false refl h)
stands_some layer (Some y) h = refl

some_of : (o : Option ℕ) → is_some o ≡ true → (x : ℕ) × (o ≡ Some x)
some_of None h = absurd (both_ways false refl h)
some_of (Some x) h = (x, refl)

module _ (at : ℕ → Option Node) (m dim : ℕ) (entries : Entries) (named : AreNamed at entries) where
  one_found : (layer : ℕ) (c : Chosen) → IsTrue (stands_at (members_of at dim (ids_of entries)) layer c.body.name) → IsSome (at (with_id entries c).id) × (name_of at (with_id entries c).id ≡ c.body.name)
  one_found layer c h =
      let live : is_some (id_of c.body.name entries) ≡ true
      = sym (is_some_of_map (member_at at dim) (id_of c.body.name entries)) ∙ ap is_some (found at m dim c.body.name entries named.names)
      ∙ stands_some layer (member_of c.body.name (members_of at dim (ids_of entries))) h in
      let p = some_of (id_of c.body.name entries) live in
      let is : unwrap_or (id_of c.body.name entries) c.id ≡ p.0 = ap (λ o. unwrap_or o c.id) p.1 in
      (subst (λ q. IsSome (at q)) (sym is) (live_at at c.body.name entries p.0 named.ids p.1), ap (name_of at) is ∙ named_at at c.body.name entries p.0 named.names p.1)

  choices : (layer : ℕ) (list : List Chosen) → AreLinksGood at m dim → length list ≤ m → AllPairs (λ a b. a ≢ b) (names_of list)
      → All (λ name. IsTrue (stands_at (members_of at dim (ids_of entries)) layer name)) (names_of list) → AreChoices at m layer (retaken entries list)
  choices layer list good few once stand =
      let names = same_names entries list in
      renamed_choices at m dim layer (ids_of entries) (retaken entries list) good named.ids
      (λ k d h.
      let lt : k < length list = omega (arith, h, length-map list (with_id entries)) in
      subst (λ (c : Chosen). IsSome (at c.id) × (name_of at c.id ≡ c.body.name)) (sym (get_or-map (with_id entries) list k d d lt))
      (one_found layer (get_or list k d)
      (subst (λ n. IsTrue (stands_at (members_of at dim (ids_of entries)) layer n)) (get_or-map (λ (c : Chosen). c.body.name) list k d [] lt)
      (stand k [] (omega (arith, lt, length-map list (λ (c : Chosen). c.body.name)))))))
      (subst (AllPairs (λ a b. a ≢ b)) (sym names) once)
      (omega (arith, few, length-map list (with_id entries)))
      (subst (All (λ name. IsTrue (stands_at (members_of at dim (ids_of entries)) layer name))) (sym names) stand)

  module _ (entry : Option ℕ) (cut level : ℕ) (chosen : List (List Chosen)) (good : AreLinksGood at m dim) (may : AreChosenNames (set_by at entry m dim cut entries) level (names_down chosen)) where
    long : length chosen ≡ level + 1
    long = omega (arith, may.layers, length-map (reverse chosen) names_of, length-reverse chosen)

    layer_names : (layer : ℕ) → layer < length chosen → AreLayerNames (set_by at entry m dim cut entries) layer (names_of (get_or chosen layer []))
    layer_names layer lt =
        let i : ℕ = length chosen - 1 - layer in
        let low : i < length chosen = omega (arith, lt) in
        let under : i < length (reverse chosen) = omega (arith, low, length-reverse chosen) in
        let here : get_or (names_down chosen) i [] ≡ names_of (get_or chosen layer [])
        = get_or-map names_of (reverse chosen) i [] [] under
        ∙ ap names_of (get_or-reverse chosen i [] low)
        ∙ ap (λ k. names_of (get_or chosen k [])) (omega (arith, lt)) in
        let its : level - i ≡ layer = omega (arith, lt, long) in
        subst (λ l. AreLayerNames (set_by at entry m dim cut entries) l (names_of (get_or chosen layer []))) its
        (subst (AreLayerNames (set_by at entry m dim cut entries) (level - i)) here (may.lists i [] (omega (arith, low, long, may.layers))))

    of_layer : (layer : ℕ) → AreChoices at m layer (chosen_at (map (retaken entries) chosen) layer)
    of_layer layer = elim (cases_Bool (ltb layer (length chosen))) [
      | inl t ↦
          let lt : layer < length chosen = ltb-true layer (length chosen) t in
          let is : chosen_at (map (retaken entries) chosen) layer ≡ retaken entries (get_or chosen layer [])
          = ap (λ o. unwrap_or o []) (slice_get-get_or (map (retaken entries) chosen) layer [] (omega (arith, lt, length-map chosen (retaken entries))))
          ∙ get_or-map (retaken entries) chosen layer [] [] lt in
          let h = layer_names layer lt in
          subst (AreChoices at m layer) (sym is)
          (choices layer (get_or chosen layer []) good (omega (arith, h.few, length-map (get_or chosen layer []) (λ (c : Chosen). c.body.name))) h.once h.stand)
      | inr f ↦
          let past : length (map (retaken entries) chosen) ≤ layer = omega (arith, ltb-false layer (length chosen) f, length-map chosen (retaken entries)) in
          subst (AreChoices at m layer) (sym (ap (λ o. unwrap_or o []) (slice_get_past (map (retaken entries) chosen) layer past))) (no_choices at m layer).choices
    ]

    pub are_drafted : AreDrafted at m level (map (retaken entries) chosen)
    are_drafted = record { layers = omega (arith, long, length-map chosen (retaken entries)); lists = of_layer }

-- ---- all layers

pub down_same : (entries : Entries) (chosen : List (List Chosen)) → names_down (map (retaken entries) chosen) ≡ names_down chosen
down_same entries chosen =
    let new : List (List Chosen) = map (retaken entries) chosen in
    let n : ℕ = length chosen in
    let long : length new ≡ n = length-map chosen (retaken entries) in
    ext_get_or [] (names_down new) (names_down chosen) (omega (arith, long, length-map (reverse new) names_of, length-map (reverse chosen) names_of, length-reverse new, length-reverse chosen))
    (λ i h.
    let lt : i < n = omega (arith, h, long, length-map (reverse new) names_of, length-reverse new) in
    let k : ℕ = n - 1 - i in
    get_or-map names_of (reverse new) i [] [] (omega (arith, lt, long, length-reverse new))
    ∙ ap names_of (get_or-reverse new i [] (omega (arith, lt, long)) ∙ ap (λ q. get_or new (q - 1 - i) []) long ∙ get_or-map (retaken entries) chosen k [] [] (omega (arith, lt)))
    ∙ same_names entries (get_or chosen k [])
    ∙ ap names_of (sym (get_or-reverse chosen i [] lt))
    ∙ sym (get_or-map names_of (reverse chosen) i [] [] (omega (arith, lt, length-reverse chosen))))
