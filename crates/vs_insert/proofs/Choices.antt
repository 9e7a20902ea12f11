-- The choice at each layer, and the lists of all layers, by names.
use Rattle.std.proofs.Common.{◌≡◌, ℕ, zero, suc, ◌+◌, ◌-◌, ◌<◌, ◌≤◌, List, [], ◌∷◌, ◌++◌, length, map, get_or, add-one, min, refl, sym, ap, ◌∙◌, subst, arith, inl, inr}
use Rattle.std.specs.Prelude.{Some, None, IsSome, IsSomeAnd, nat_eq, option_map, unwrap_or, slice_get, slice_index, reverse, replicate, MatchOption, All}
use Rattle.std.specs.List.{IsDistinct}
use Rattle.std.specs.Option.{option_map_or}
use Rattle.std.specs.declared.option.Option.{Option}
use Rattle.std.proofs.Math.Nat.{min-eq_left, min-eq_right, min-le_left}
use Rattle.std.proofs.lemmas.Bool.{cases_lt}
use Rattle.std.proofs.lemmas.Option.{none-some, same_Some}
use Rattle.std.proofs.lemmas.List.{length-map, length-append, append-nil, map-append, append_assoc, reverse-append, reverse-reverse, length-reverse, length-replicate, replicate-append-replicate}
use Rattle.vs_bits.proofs.Distances.{words_ham-same}
use Rattle.vs_defs.specs.Bytes.{Bytes, first_in}
use Rattle.vs_defs.specs.Vector.{Vector, ham}
use Rattle.vs_defs.specs.Words.{FitsDimension, bits_of_words, words_ham}
use Rattle.vs_defs.specs.Store.{Member, Set}
use Rattle.vs_defs.specs.Links.{bits_at}
use Rattle.vs_defs.specs.Linking as rules
use Rattle.vs_defs.specs.Beam as beams
use Rattle.vs_defs.specs.Beam.{layers_down}
use Rattle.vs_defs.specs.Insertion.{ChoosesFrom, IsChosenBelow, IsChosen, pass_all}
use Rattle.vs_graph.specs.declared.node.Node.{Node}
use Rattle.vs_graph.specs.Good.{body_at, StandsAt, AreLinksGood, IsEntry, IsGood}
use Rattle.vs_graph.specs.Bodies.{Bodies, words_at}
use Rattle.vs_graph.specs.Standing.{AreIds, members_of, name_of, set_of}
use Rattle.vs_graph.proofs.Goods.{distinct_none}
use Rattle.vs_graph.proofs.Standing.{bits_there, member_there}
use Rattle.vs_graph.proofs.NodeLaws.{words_same, fits_node, some_node}
use Rattle.vs_defs.proofs.LayerLaws.{no_layers}
use Rattle.vs_rank.specs.declared.Key.{Key}
use Rattle.vs_link.specs.Selected.{selected}
use Rattle.vs_link.proofs.Chosen.{chosen_all, chosen_few, chosen_once}
use Rattle.vs_beam.specs.Beam.{key_at, ranked, IsBeam, IsDescent}
use Rattle.vs_beam.specs.Named.{keys_named, stops_named}
use Rattle.vs_beam.proofs.Descents.{stands_below}
use Rattle.vs_beam.proofs.Sets.{beam_is, named_descent}
use Rattle.vs_beam.proofs.Visits.{some_and}
use Rattle.vs_insert.specs.declared.draft.Chosen.{Chosen}
use Rattle.vs_insert.specs.Drafts.{ids_of, names_of, chosen_at, names_down, AreChoices, AreOwnChoices, HaveBodies}
use Rattle.vs_insert.specs.Joined.{layers_below}
use Rattle.vs_insert.specs.Added.{AreDrafted, AreOwnDrafted}
use Rattle.vs_insert.specs.Choosing.{everyone, IsLayerChosen, AreChosenFrom, drafted_by}
use Rattle.vs_insert.proofs.Found.{found_stand, found_keys, found_once}
use Rattle.vs_insert.proofs.Stepping.{names_chosen}
use Rattle.vs_insert.proofs.Named.{layers_are, level_of_member}

-- ---- at one layer

from_ids : (P : ℕ → Type 0) (list : List Chosen) → All P (ids_of list) → All (λ (c : Chosen). P c.id) list
from_ids P [] h k d less = absurd (omega arith)
from_ids P (c ∷ cs) h zero d less = h 0 0 (omega arith)
from_ids P (c ∷ cs) h (suc k) d less = from_ids P cs (λ i e short. h (suc i) e (omega (arith, short))) k d (omega (arith, less))

name_there : (bodies : Bodies) (c : Chosen) → bodies c.id ≡ Some c.body → option_map_or (λ body. body.name) (bodies c.id) [] ≡ c.body.name
name_there bodies c e = ap (λ o. option_map_or (λ body. body.name) o []) e

pub choices_are : (at : ℕ → Option Node) (m layer start ef : ℕ) (query tried expanded : List ℕ) (found : List Key) (bodies : Bodies) (list : List Chosen) (ids : List ℕ) → IsBeam at layer start query ef 0 everyone tried expanded found
    → ids ≡ selected bodies m found → ids_of list ≡ ids → HaveBodies at list → AreOwnChoices at m layer list
choices_are at m layer start ef query tried expanded found bodies list ids beam made same with_bodies =
    let is : ids_of list ≡ selected bodies m found = same ∙ made in
    let choices : AreChoices at m layer list = record {
      stand = from_ids (StandsAt at layer) list (subst (λ l. All (StandsAt at layer) l) (sym is) (chosen_all (StandsAt at layer) bodies m [] found (found_stand at layer start ef query tried expanded found beam)));
      names = λ k d h. name_there (body_at at) (get_or list k d) (with_bodies k d h);
      once = subst (IsDistinct nat_eq) (sym is) (chosen_once bodies m [] found (found_once at layer start ef query tried expanded found beam));
      few = subst (λ n. n ≤ m) (ap length (sym is) ∙ length-map list (λ (c : Chosen). c.id)) (omega (arith, chosen_few bodies m [] found (omega arith)));
    } in
    record { choices = choices; bodies = with_bodies }

first_named : (at : ℕ → Option Node) (found : List Key) (next : ℕ) → option_map (λ (key : Key). key.id) (slice_get found 0) ≡ Some next → first_in (keys_named at found) ≡ Some (name_of at next)
first_named at [] next h = absurd (none-some next h)
first_named at (key ∷ keys) next h = ap (λ n. Some (name_of at n)) (same_Some key.id next h)

module _ (at : ℕ → Option Node) (entry : Option ℕ) (m dim : ℕ) (good : IsGood at entry m dim) (query : List ℕ) (fits : FitsDimension dim query) where
  -- a key's distance is that of the names
  pub dist_named : (layer : ℕ) (ids : List ℕ) → AreIds at ids → (key : Key) → StandsAt at layer key.id → key ≡ key_at at query key.id → key.dist ≡ ham (bits_of_words dim query) (bits_at (members_of at dim ids) (name_of at key.id))
  dist_named layer ids are key stands is =
      ap (λ (k : Key). k.dist) is ∙ ap (words_ham query) (words_same (at key.id))
      ∙ words_ham-same dim query (words_at (body_at at) key.id) fits (fits_node layer m dim (at key.id) stands (good.links.nodes key.id))
      ∙ ap (ham (bits_of_words dim query)) (sym (bits_there at m dim ids good.links are key.id (are.live key.id ∙ some_node layer (at key.id) stands)))

  module _ (layer from ef : ℕ) (list : List Chosen) (next : ℕ) (made : IsLayerChosen at m layer from ef query list next) where
    pub dists_named : (ids : List ℕ) → AreIds at ids → All (λ (key : Key). key.dist ≡ ham (bits_of_words dim query) (bits_at (members_of at dim ids) (name_of at key.id))) made.found
    dists_named ids are k d less =
        dist_named layer ids are (get_or made.found k d) (found_stand at layer from ef query made.tried made.expanded made.found made.beam k d less) (found_keys at layer from ef query made.tried made.expanded made.found made.beam k d less)

    -- one layer more
    pub chooses_more : (cut : ℕ) (ids : List ℕ) → AreIds at ids → (cs : List (List Bytes)) → ChoosesFrom (set_of at entry m dim cut ids) (bits_of_words dim query) ef (name_of at next) (layers_below layer) cs
        → ChoosesFrom (set_of at entry m dim cut ids) (bits_of_words dim query) ef (name_of at from) (layer ∷ layers_below layer) (names_of list ∷ cs)
    chooses_more cut ids are cs rest = (
      keys_named at (ranked at query made.tried),
      keys_named at made.found,
      beam_is at entry m dim cut ids query everyone pass_all good are fits (λ name x e. refl) layer from ef 0 made.tried made.expanded made.found made.beam,
      sym (names_chosen at list made.choices.choices.names) ∙ made.named dim ids (bits_of_words dim query) good.links are (dists_named ids are),
      subst (λ o. MatchOption o ⊥ (λ n. ChoosesFrom (set_of at entry m dim cut ids) (bits_of_words dim query) ef n (layers_below layer) cs)) (sym (first_named at made.found next made.nearest)) rest,
    )

-- ---- lists of all layers

reverse_push : {X : Type 0} (xs : List X) (x : X) → reverse (xs ++ x ∷ []) ≡ x ∷ reverse xs
reverse_push xs x = reverse-append xs (x ∷ [])

pub no_choices : (at : ℕ → Option Node) (m layer : ℕ) → AreOwnChoices at m layer []
no_choices at m layer =
    let choices : AreChoices at m layer [] = record {
      stand = λ k d less. absurd (omega (arith, less));
      names = λ k d less. absurd (omega (arith, less));
      once = distinct_none;
      few = omega arith;
    } in
    record { choices = choices; bodies = λ k d less. absurd (omega (arith, less)) }

pub choices_more : (at : ℕ → Option Node) (m layer : ℕ) (lists : List (List Chosen)) (list : List Chosen) → AreOwnChoices at m layer list → ((k : ℕ) → AreOwnChoices at m (suc layer + k) (chosen_at (reverse lists) k))
    → (k : ℕ) → AreOwnChoices at m (layer + k) (chosen_at (reverse (lists ++ list ∷ [])) k)
choices_more at m layer lists list one others k =
    subst (λ l. AreOwnChoices at m (layer + k) (chosen_at l k)) (sym (reverse_push lists list)) (by_place k) where
      by_place : (k : ℕ) → AreOwnChoices at m (layer + k) (chosen_at (list ∷ reverse lists) k)
      by_place zero = subst (λ l. AreOwnChoices at m l list) (omega arith) one
      by_place (suc k) = subst (λ l. AreOwnChoices at m l (chosen_at (reverse lists) k)) (omega arith) (others k)

-- ---- the draft

fill_at : (xs : List (List Chosen)) (n layer : ℕ) → chosen_at (xs ++ replicate n []) layer ≡ chosen_at xs layer
fill_at [] zero layer = refl
fill_at [] (suc n) zero = refl
fill_at [] (suc n) (suc layer) = fill_at [] n layer ∙ none layer where
  none : (layer : ℕ) → chosen_at [] layer ≡ []
  none zero = refl
  none (suc layer) = refl
fill_at (x ∷ xs) n zero = refl
fill_at (x ∷ xs) n (suc layer) = fill_at xs n layer

reverse_replicate : (n : ℕ) → reverse (replicate {A = List Chosen} n []) ≡ replicate n []
reverse_replicate zero = refl
reverse_replicate (suc n) =
    reverse-append ([] ∷ []) (replicate n []) ∙ ap (λ l. l ++ [] ∷ []) (reverse_replicate n) ∙ replicate-append-replicate n 1 [] ∙ ap (λ k. replicate k []) (add-one n)

map_replicate : (n : ℕ) → map names_of (replicate n []) ≡ replicate n []
map_replicate zero = refl
map_replicate (suc n) = ap (λ l. [] ∷ l) (map_replicate n)

-- empty lists behind those of the layers that are shared
pub filled_down : (lists : List (List Chosen)) (n : ℕ) → names_down (reverse lists ++ replicate n []) ≡ replicate n [] ++ map names_of lists
filled_down lists n =
    ap (map names_of) (reverse-append (reverse lists) (replicate n []) ∙ ap (λ l. l ++ reverse (reverse lists)) (reverse_replicate n) ∙ ap (λ l. replicate n [] ++ l) (reverse-reverse lists))
    ∙ map-append names_of (replicate n []) lists ∙ ap (λ l. l ++ map names_of lists) (map_replicate n)

module _ (at : ℕ → Option Node) (m dim level ef : ℕ) (query : List ℕ) (fits : FitsDimension dim query) (lists : List (List Chosen)) where
  pub as_drafted : (count : ℕ) → length lists ≡ count → count ≤ level + 1 → ((layer : ℕ) → AreOwnChoices at m layer (chosen_at (reverse lists) layer))
      → AreOwnDrafted at m level (reverse lists ++ replicate (level + 1 - length lists) [])
  as_drafted count long few are = record {
    layers = length-append (reverse lists) (replicate (level + 1 - length lists) []) ∙ omega (arith, length-reverse lists, length-replicate {A = List Chosen} (level + 1 - length lists) [], long, few);
    lists = λ layer. subst (AreOwnChoices at m layer) (sym (fill_at (reverse lists) (level + 1 - length lists) layer)) (are layer);
  }

  -- in an empty graph there is nobody to choose
  pub drafted_none : lists ≡ [] → AreOwnDrafted at m level (reverse lists ++ replicate (level + 1 - length lists) [])
  drafted_none none =
      as_drafted 0 (ap length none) (omega arith) (λ layer. subst (λ (l : List (List Chosen)). AreOwnChoices at m layer (chosen_at (reverse l) layer)) (sym none) (no_choices_at layer)) where
        no_choices_at : (layer : ℕ) → AreOwnChoices at m layer (chosen_at [] layer)
        no_choices_at zero = no_choices at m 0
        no_choices_at (suc layer) = no_choices at m (suc layer)

  pub chosen_none : (entry : Option ℕ) (cut : ℕ) (ids : List ℕ) → entry ≡ None → lists ≡ []
      → IsChosen (set_of at entry m dim cut ids) (bits_of_words dim query) level ef (names_down (reverse lists ++ replicate (level + 1 - length lists) []))
  chosen_none entry cut ids nobody none =
      subst (λ e. IsChosen (set_of at e m dim cut ids) (bits_of_words dim query) level ef (names_down (reverse lists ++ replicate (level + 1 - length lists) []))) (sym nobody)
      (filled_down lists (level + 1 - length lists) ∙ ap (λ n. replicate n [] ++ map names_of lists) (omega (arith, ap length none))
      ∙ ap (λ (l : List (List Chosen)). replicate (level + 1) [] ++ map names_of l) none ∙ append-nil (replicate (level + 1) []))

  module _ (e start top : ℕ) (stops : List ℕ) (good : IsGood at (Some e) m dim) (d : IsDescent at e query (level + 1) start top stops) (are : AreChosenFrom at (Some e) m dim start (min level top + 1) ef query lists) where
    abbrev here : ℕ → List ℕ → Set
    here cut ids = set_of at (Some e) m dim cut ids

    entry_some : IsSome (at e)
    entry_some = some_and (at e) _ good.top

    top_named : (cut : ℕ) (ids : List ℕ) → AreIds at ids → beams.level_at (here cut ids) (name_of at e) ≡ top
    top_named cut ids are_ids =
        ap (λ o. unwrap_or (option_map (λ (x : Member). x.level) o) 0) (member_there at m dim ids good.links are_ids e (are_ids.live e ∙ entry_some)) ∙ level_of_member dim (at e) ∙ sym d.level

    stops_are : (cut : ℕ) (ids : List ℕ) → AreIds at ids → beams.IsDescent (here cut ids) (bits_of_words dim query) (min level top + 1) (stops_named at top (level + 1) stops)
    stops_are cut ids are_ids =
        let named = named_descent at e m dim query (level + 1) start top stops good fits (omega arith) d in
        elim (cases_lt top level) [
          | inl above ↦
              let le : top ≤ level = omega (arith, above) in
              let least : min level top ≡ top = min-eq_right le in
              let no_stops : stops_named at top (level + 1) stops ≡ [] = ap (map (λ layer. name_of at (slice_index stops layer))) (no_layers top (level + 1) (omega (arith, above))) in
              let none : layers_down (beams.level_at (here cut ids) (name_of at e)) (min level top + 1) ≡ [] =
              ap (λ t. layers_down t (min level top + 1)) (top_named cut ids are_ids) ∙ no_layers top (min level top + 1) (omega (arith, least)) in
              subst (λ l. beams.IsDescent (here cut ids) (bits_of_words dim query) (min level top + 1) l) (sym no_stops)
              (subst (λ ls. beams.DescendsFrom (here cut ids) (bits_of_words dim query) (name_of at e) ls []) (sym none) tt)
          | inr below ↦
              let le : level ≤ top = omega (arith, below) in
              let least : min level top ≡ level = min-eq_left le in
              subst (λ l. beams.IsDescent (here cut ids) (bits_of_words dim query) (l + 1) (stops_named at top (level + 1) stops)) (sym least) (named.descends cut ids are_ids)
        ]

    spare_is : level + 1 - length lists ≡ level - top
    spare_is = elim (cases_lt top level) [
      | inl above ↦ (let le : top ≤ level = omega (arith, above) in let least : min level top ≡ top = min-eq_right le in omega (arith, are.long, above, least))
      | inr below ↦ (let le : level ≤ top = omega (arith, below) in let least : min level top ≡ level = min-eq_left le in omega (arith, are.long, below, least))
    ]

    pub drafted_some : AreOwnDrafted at m level (reverse lists ++ replicate (level + 1 - length lists) [])
    drafted_some = as_drafted (min level top + 1) are.long (omega (arith, min-le_left level top)) are.choices

    pub chosen_some : (cut : ℕ) (ids : List ℕ) → AreIds at ids → IsChosen (here cut ids) (bits_of_words dim query) level ef (names_down (reverse lists ++ replicate (level + 1 - length lists) []))
    chosen_some cut ids are_ids =
        let named = named_descent at e m dim query (level + 1) start top stops good fits (omega arith) d in
        subst (λ t. IsChosenBelow (here cut ids) (bits_of_words dim query) level t ef (names_down (reverse lists ++ replicate (level + 1 - length lists) []))) (sym (top_named cut ids are_ids)) (
          stops_named at top (level + 1) stops,
          map names_of lists,
          stops_are cut ids are_ids,
          subst (λ o. MatchOption o ⊥ (λ s. ChoosesFrom (here cut ids) (bits_of_words dim query) ef s (layers_down (min level top) 0) (map names_of lists))) (sym (named.starts cut ids are_ids))
              (subst (λ ls. ChoosesFrom (here cut ids) (bits_of_words dim query) ef (name_of at start) ls (map names_of lists)) (ap layers_below (add-one (min level top)) ∙ sym (layers_are (min level top))) (are.named cut ids are_ids)),
          filled_down lists (level + 1 - length lists) ∙ ap (λ n. replicate n [] ++ map names_of lists) spare_is,
        )

-- ---- the steps of the code

-- the choice of what was found, by names
abbrev pub SelectsNamed : (ℕ → Option Node) → ℕ → List Key → List ℕ → Type 0
SelectsNamed at m found chosen =
    (dim : ℕ) (ids : List ℕ) (q : Vector) → AreLinksGood at m dim → AreIds at ids → All (λ (key : Key). key.dist ≡ ham q (bits_at (members_of at dim ids) (name_of at key.id))) found
    → map (name_of at) chosen ≡ rules.selected (bits_at (members_of at dim ids)) q m (map (λ (key : Key). name_of at key.id) found)

pub selects_named : (over at : ℕ → Option Node) (k m : ℕ) (shown found : List Key) (chosen ids : List ℕ) → over ≡ at → k ≡ m → shown ≡ found → chosen ≡ ids → SelectsNamed over k shown chosen → SelectsNamed at m found ids
selects_named over at k m shown found chosen ids e f g h s =
    subst (SelectsNamed at m found) h (subst (λ l. SelectsNamed at m l chosen) g (subst (λ n. SelectsNamed at n shown chosen) f (subst (λ a. SelectsNamed a k shown chosen) e s)))

pub links_over : (over at : ℕ → Option Node) (k m dim : ℕ) → over ≡ at → k ≡ m → AreLinksGood at m dim → AreLinksGood over k dim
links_over over at k m dim e f good = subst (λ a. AreLinksGood a k dim) (sym e) (subst (λ n. AreLinksGood at n dim) (sym f) good)

pub keys_live : (over at : ℕ → Option Node) (layer : ℕ) (shown found : List Key) → over ≡ at → shown ≡ found → All (λ (key : Key). StandsAt at layer key.id) found → All (λ (key : Key). IsSome (over key.id)) shown
keys_live over at layer shown found e g stand =
    subst (λ a. All (λ (key : Key). IsSome (a key.id)) shown) (sym e) (subst (λ l. All (λ (key : Key). IsSome (at key.id)) l) (sym g) (λ k d h. some_node layer (at (get_or found k d).id) (stand k d h)))

pub chosen_live : (base at : ℕ → Option Node) (layer m : ℕ) (bodies : Bodies) (shown found : List Key) (ids : List ℕ) → base ≡ at → shown ≡ found → ids ≡ selected bodies m shown → All (λ (key : Key). StandsAt at layer key.id) found
    → All (λ id. IsSome (base id)) ids
chosen_live base at layer m bodies shown found ids e g made stand =
    subst (λ l. All (λ id. IsSome (base id)) l) (sym made) (chosen_all (λ id. IsSome (base id)) bodies m [] shown (keys_live base at layer shown found e g stand))

pub bodies_over : (base at : ℕ → Option Node) (list : List Chosen) → base ≡ at → HaveBodies base list → HaveBodies at list
bodies_over base at list e h = subst (λ a. HaveBodies a list) e h

-- the first of what was found
abbrev pub NearestIs : List Key → ℕ → Type 0
NearestIs found next = option_map (λ (key : Key). key.id) (slice_get found 0) ≡ Some next

pub nearest_stands : (at : ℕ → Option Node) (layer next : ℕ) (found : List Key) → option_map (λ (key : Key). key.id) (slice_get found 0) ≡ Some next → All (λ (key : Key). StandsAt at layer key.id) found → StandsAt at layer next
nearest_stands at layer next [] e stand = absurd (none-some next e)
nearest_stands at layer next (key ∷ keys) e stand = subst (λ k. StandsAt at layer k) (same_Some key.id next e) (stand 0 key (omega arith))

no_choices_at : (at : ℕ → Option Node) (m layer k : ℕ) → AreOwnChoices at m layer (chosen_at [] k)
no_choices_at at m layer zero = no_choices at m layer
no_choices_at at m layer (suc k) = no_choices at m layer

module _ (at : ℕ → Option Node) (entry : Option ℕ) (m dim start count ef : ℕ) (query : List ℕ) where
  -- what is known where the layers below one are still to be chosen
  pub record AreChosenDownTo (layer here : ℕ) (lists : List (List Chosen)) : Type 0 where
    pub long : length lists + layer ≡ count
    pub stands : (l : ℕ) → l < layer → StandsAt at l here
    pub choices : (k : ℕ) → AreOwnChoices at m (layer + k) (chosen_at (reverse lists) k)
    pub named : (cut : ℕ) (ids : List ℕ) → AreIds at ids → (cs : List (List Bytes)) → ChoosesFrom (set_of at entry m dim cut ids) (bits_of_words dim query) ef (name_of at here) (layers_below layer) cs
        → ChoosesFrom (set_of at entry m dim cut ids) (bits_of_words dim query) ef (name_of at start) (layers_below count) (map names_of lists ++ cs)

  pub chosen_first : (lists : List (List Chosen)) → lists ≡ [] → ((l : ℕ) → l < count → StandsAt at l start) → AreChosenDownTo count start lists
  chosen_first lists none stands =
      subst (AreChosenDownTo count start) (sym none) (record {
        long = omega arith;
        stands = stands;
        choices = λ k. no_choices_at at m (count + k) k;
        named = λ cut ids are cs h. h;
      })

  pub chosen_next : IsGood at entry m dim → FitsDimension dim query → (layer n here next : ℕ) (lists after : List (List Chosen)) (list : List Chosen) → layer ≡ suc n → after ≡ lists ++ list ∷ [] → AreChosenDownTo layer here lists
      → IsLayerChosen at m n here ef query list next → AreChosenDownTo n next after
  chosen_next good fits layer n here next lists after list is pushed old made =
      subst (AreChosenDownTo n next) (sym pushed) (record {
        long = omega (arith, length-append lists (list ∷ []), old.long, is);
        stands = λ l h. stands_below at next l n (omega (arith, h)) made.stands;
        choices = choices_more at m n lists list made.choices (subst (λ k. (i : ℕ) → AreOwnChoices at m (k + i) (chosen_at (reverse lists) i)) is old.choices);
        named = λ cut ids are cs h.
            subst (λ l. ChoosesFrom (set_of at entry m dim cut ids) (bits_of_words dim query) ef (name_of at start) (layers_below count) l) (joins cs)
            (old.named cut ids are (names_of list ∷ cs)
            (subst (λ k. ChoosesFrom (set_of at entry m dim cut ids) (bits_of_words dim query) ef (name_of at here) (layers_below k) (names_of list ∷ cs)) (sym is)
            (chooses_more at entry m dim good query fits n here ef list next made cut ids are cs h)));
      }) where
        joins : (cs : List (List Bytes)) → map names_of lists ++ names_of list ∷ cs ≡ map names_of (lists ++ list ∷ []) ++ cs
        joins cs = sym (append_assoc (map names_of lists) (names_of list ∷ []) cs) ∙ ap (λ l. l ++ cs) (sym (map-append names_of lists (list ∷ [])))

  pub chosen_last : (layer here : ℕ) (lists : List (List Chosen)) → layer ≡ 0 → AreChosenDownTo layer here lists → AreChosenFrom at entry m dim start count ef query lists
  chosen_last layer here lists is old =
      let done : AreChosenDownTo 0 here lists = subst (λ k. AreChosenDownTo k here lists) is old in
      record {
        long = omega (arith, done.long);
        choices = λ k. subst (λ l. AreOwnChoices at m l (chosen_at (reverse lists) k)) (omega arith) (done.choices k);
        named = λ cut ids are. subst (λ l. ChoosesFrom (set_of at entry m dim cut ids) (bits_of_words dim query) ef (name_of at start) (layers_below count) l) (append-nil (map names_of lists)) (done.named cut ids are [] tt);
      }

-- ---- a draft's lists

pub own_drafted : (at : ℕ → Option Node) (m level : ℕ) (chosen : List (List Chosen)) → AreOwnDrafted at m level chosen → AreDrafted at m level chosen
own_drafted at m level chosen own = record { layers = own.layers; lists = λ layer. (own.lists layer).choices }

pub own_bodies : (at : ℕ → Option Node) (m level : ℕ) (chosen : List (List Chosen)) → AreOwnDrafted at m level chosen → (layer : ℕ) → HaveBodies at (chosen_at chosen layer)
own_bodies at m level chosen own layer = (own.lists layer).bodies

-- ---- after a descent

pub entry_none : (at : ℕ → Option Node) (entry : Option ℕ) (limit : ℕ) → IsEntry at entry → ((id : ℕ) → IsSome (at id) → id < limit) → limit ≡ 0 → entry ≡ None
entry_none at None limit top low none = refl
entry_none at (Some e) limit top low none = absurd (omega (arith, none, low e (some_and (at e) _ top)))

module _ (at : ℕ → Option Node) (m dim level start top ef : ℕ) (query stops : List ℕ) (fits : FitsDimension dim query) where
  pub lists_drafted : (entry : Option ℕ) (lists : List (List Chosen)) → IsGood at entry m dim → IsSomeAnd entry (λ e. IsDescent at e query (level + 1) start top stops) → AreChosenFrom at entry m dim start (min level top + 1) ef query lists
      → AreOwnDrafted at m level (drafted_by level lists)
  lists_drafted None lists good d are = absurd d
  lists_drafted (Some e) lists good d are = drafted_some at m dim level ef query fits lists e start top stops good d are

  pub lists_chosen : (entry : Option ℕ) (lists : List (List Chosen)) → IsGood at entry m dim → IsSomeAnd entry (λ e. IsDescent at e query (level + 1) start top stops) → AreChosenFrom at entry m dim start (min level top + 1) ef query lists
      → (cut : ℕ) (ids : List ℕ) → AreIds at ids → IsChosen (set_of at entry m dim cut ids) (bits_of_words dim query) level ef (names_down (drafted_by level lists))
  lists_chosen None lists good d are = absurd d
  lists_chosen (Some e) lists good d are = chosen_some at m dim level ef query fits lists e start top stops good d are

-- the draft's lists
pub drafted_is : (level : ℕ) (lists turned all : List (List Chosen)) → turned ≡ reverse lists → all ≡ turned ++ replicate (level + 1 - length turned) [] → all ≡ drafted_by level lists
drafted_is level lists turned all e f =
    f ∙ ap (λ l. l ++ replicate (level + 1 - length l) []) e ∙ ap (λ n. reverse lists ++ replicate (level + 1 - n) []) (length-reverse lists)
