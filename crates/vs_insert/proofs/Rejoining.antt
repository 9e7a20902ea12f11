-- An orphan that is joined by ids is joined as the definitions say, by names.
use Rattle.std.proofs.Common.{◌≡◌, ◌≢◌, ℕ, ◌<◌, ◌^◌, Bool, true, not, ◌&&◌, eqb, List, [], length, map, refl, sym, ap, ◌∙◌, subst, arith, inl, inr}
use Rattle.std.specs.Prelude.{Some, None, IsSome, is_some, filter, option_map}
use Rattle.std.specs.Option.{option_map_or}
use Rattle.std.specs.declared.option.Option.{Option}
use Rattle.std.proofs.lemmas.Bool.{cases_eq, both_ways, cond-true, cond-false, eq-eqb, ne_eqb, false_from_ne_true}
use Rattle.std.proofs.lemmas.Slice.Eq.{bytes_eq-Decides}
use Rattle.vs_defs.specs.Bytes.{same_name}
use Rattle.vs_defs.specs.Links.{bits_at}
use Rattle.vs_defs.specs.Words.{FitsDimension, bits_of_words}
use Rattle.vs_defs.specs.Linking as linking
use Rattle.vs_defs.specs.Insertion.{SameLinks, pass_all}
use Rattle.vs_defs.specs.Removal as rules
use Rattle.vs_defs.specs.Beam as beams
use Rattle.vs_defs.specs.Vector.{ham}
use Rattle.vs_graph.specs.declared.node.Node.{Node}
use Rattle.vs_graph.specs.Good.{body_at, layers_at, links_at, StandsAt, AreLinksGood, IsEntry, IsGood}
use Rattle.vs_graph.specs.Bodies.{words_at}
use Rattle.vs_graph.specs.Named.{is_live}
use Rattle.vs_graph.specs.Table.{without}
use Rattle.vs_graph.specs.Standing.{AreIds, members_of, name_of, named_links, set_of}
use Rattle.vs_graph.proofs.Sorts.{In, from_filter, filter_of_map, filter_same, map_same_in, all_in}
use Rattle.vs_graph.proofs.Standing.{names_differ, bits_there}
use Rattle.vs_rank.specs.declared.Key.{Key}
use Rattle.vs_link.proofs.Bynames.{named_whole}
use Rattle.vs_link.proofs.Chosen.{behind_named}
use Rattle.vs_graph.proofs.Standing.{are_members}
use Rattle.vs_graph.proofs.NodeLaws.{some_node, fits_node}
use Rattle.vs_beam.specs.Beam.{key_at, ranked}
use Rattle.vs_beam.specs.Named.{keys_named}
use Rattle.vs_beam.proofs.Sets.{beam_is}
use Rattle.vs_beam.proofs.Visits.{some_and}
use Rattle.vs_insert.specs.Choosing.{everyone}
use Rattle.vs_unlink.specs.Unlinked.{IsWithout}
use Rattle.vs_insert.specs.Rejoined.{IsRejoined, HasAnother, others_of}
use Rattle.vs_insert.proofs.Choices.{dist_named}
use Rattle.vs_insert.proofs.Found.{found_stand, found_keys}
use Rattle.vs_insert.proofs.Heights.{highest_named}
use Rattle.vs_insert.proofs.Leavings.{ids_left, name_left, members_left}
use Rattle.vs_unlink.proofs.Remaining.{stood, stands_yet, not_x}
use Rattle.vs_unlink.proofs.Bare.{body_bare}
use Rattle.vs_insert.proofs.Orphans.{in_all, start_may, was_live}

module _ (at now new : ℕ → Option Node) (top : Option ℕ) (m dim entry layer y x cut : ℕ) (ids : List ℕ) (good : IsGood at top m dim) (are : AreIds at ids) (gone : IsWithout at now x) (left : AreLinksGood now m dim)
    (highest : IsEntry now (Some entry)) (stands : StandsAt now layer y) (free : links_at now layer y ≡ []) (another : HasAnother now layer y) (made : IsRejoined at now new m dim entry layer y) where
  live : (q : ℕ) → StandsAt at layer q → is_live ids q ≡ true
  live q h = are.live q ∙ some_node layer (at q) h

  y_stood : StandsAt at layer y
  y_stood = stood at now x gone layer y stands

  y_not_x : y ≢ x
  y_not_x = not_x at now x gone layer y stands

  same_id : (a b : ℕ) → is_live ids a ≡ true → is_live ids b ≡ true → same_name (name_of at a) (name_of at b) ≡ eqb b a
  same_id a b la lb = elim (cases_eq b a) [
    | inl is ↦ (bytes_eq-Decides (name_of at a) (name_of at b)).1 (ap (name_of at) (sym is)) ∙ sym (eq-eqb b a is)
    | inr ne ↦
        false_from_ne_true (same_name (name_of at a) (name_of at b)) (λ h. ne (sym (names_differ at m dim ids good.links are a b la lb ((bytes_eq-Decides (name_of at a) (name_of at b)).0 h))))
        ∙ sym (ne_eqb b a ne)
  ]

  live_x : is_live ids x ≡ true
  live_x = are.live x ∙ gone.was

  start_stands : (made.choice.start ≢ y) × StandsAt now layer made.choice.start
  start_stands = start_may now entry layer y made.choice.start made.choice.starts highest stands another

  name_now : (q : ℕ) → StandsAt now layer q → name_of now q ≡ name_of at q
  name_now q h = name_left at now x m dim ids good.links are gone q (not_x at now x gone layer q h)

  -- ---- what was found

  found_at : (key : Key) → In key made.choice.found → StandsAt at layer key.id
  found_at key inside = in_all (λ (k : Key). StandsAt at layer k.id) key made.choice.found (found_stand at layer made.choice.start 200 (words_at (body_at now) y) made.choice.tried made.choice.expanded made.choice.found made.choice.beam) inside

  is_left : (key : Key) → StandsAt at layer key.id → not (same_name (name_of at x) (name_of at key.id)) ≡ is_some (now key.id)
  is_left key h = ap not (same_id x key.id live_x (live key.id h)) ∙ elim (cases_eq key.id x) [
    | inl is ↦ ap not (eq-eqb key.id x is) ∙ sym (ap is_some (ap now is ∙ gone.gone))
    | inr ne ↦ ap not (ne_eqb key.id x ne) ∙ sym (some_node layer (now key.id) (stands_yet at now x gone layer key.id ne h))
  ]

  others_named : keys_named at (others_of now y made.choice.found)
      ≡ rules.others_of (set_of at top m dim cut ids) (name_of at x) (Some (name_of at entry)) (name_of at y) (keys_named at made.choice.found)
  others_named =
      ap (map (λ (key : Key). name_of at key.id))
      (sym (filter_same (λ (key : Key). not (same_name (name_of at x) (name_of at key.id)) && not (same_name (name_of at y) (name_of at key.id))) (λ (key : Key). is_some (now key.id) && not (eqb key.id y)) made.choice.found
      (λ key inside. ap (λ b. b && not (same_name (name_of at y) (name_of at key.id))) (is_left key (found_at key inside)) ∙ ap (λ b. is_some (now key.id) && not b) (same_id y key.id (live y y_stood) (live key.id (found_at key inside))))))
      ∙ sym (filter_of_map (λ (key : Key). name_of at key.id) (λ z. not (same_name (name_of at x) z) && not (same_name (name_of at y) z)) made.choice.found)

  -- ---- the query

  words_kept : words_at (body_at now) y ≡ words_at (body_at at) y
  words_kept = ap (λ o. option_map_or (λ body. body.bits) o []) (sym (body_bare (now y)) ∙ ap (option_map (λ n. n.body)) (gone.others y y_not_x) ∙ body_bare (at y))

  fits : FitsDimension dim (words_at (body_at now) y)
  fits = fits_node layer m dim (now y) stands (left.nodes y)

  bits_are : bits_at (members_of at dim ids) (name_of at y) ≡ bits_of_words dim (words_at (body_at now) y)
  bits_are = bits_there at m dim ids good.links are y (live y y_stood) ∙ ap (bits_of_words dim) (sym words_kept)

  -- ---- the choice

  abbrev passes : Key → Bool
  passes key = is_some (now key.id) && not (eqb key.id y)

  chosen_named : map (name_of at) made.chosen
      ≡ linking.selected (bits_at (members_of at dim ids)) (bits_at (members_of at dim ids) (name_of at y)) m (rules.others_of (set_of at top m dim cut ids) (name_of at x) (Some (name_of at entry)) (name_of at y) (keys_named at made.choice.found))
  chosen_named =
      ap (map (name_of at)) made.choice.are
      ∙ behind_named (body_at at) (layers_at at) ids (members_of at dim ids) (are_members at m dim ids good.links are) (bits_of_words dim (words_at (body_at now) y)) m [] (others_of now y made.choice.found) (λ z h. absurd h)
      (all_in (λ (key : Key). (is_live ids key.id ≡ true) × (key.dist ≡ ham (bits_of_words dim (words_at (body_at now) y)) (bits_at (members_of at dim ids) (name_of at key.id)))) (filter passes made.choice.found)
      (λ key inside.
      let within = (from_filter passes key made.choice.found inside).0 in (
        live key.id (found_at key within),
        dist_named at top m dim good (words_at (body_at now) y) fits layer ids are key (found_at key within)
            (in_all (λ (k : Key). k ≡ key_at at (words_at (body_at now) y) k.id) key made.choice.found
            (found_keys at layer made.choice.start 200 (words_at (body_at now) y) made.choice.tried made.choice.expanded made.choice.found made.choice.beam) within),
      )))
      ∙ ap (λ q. linking.selected (bits_at (members_of at dim ids)) q m (keys_named at (others_of now y made.choice.found))) (sym bits_are)
      ∙ ap (linking.selected (bits_at (members_of at dim ids)) (bits_at (members_of at dim ids) (name_of at y)) m) others_named

  -- ---- the start

  entry_some : IsSome (now entry)
  entry_some = some_and (now entry) _ highest

  entry_not_x : entry ≢ x
  entry_not_x is = both_ways (is_some (now entry)) (ap is_some (ap now is ∙ gone.gone)) entry_some

  entry_live : is_live ids entry ≡ true
  entry_live = are.live entry ∙ was_live at now x gone entry entry_some

  highest_other : entry ≡ y → rules.highest (rules.all_but (name_of at y) (rules.all_but (name_of at x) (members_of at dim ids))) ≡ Some (name_of at made.choice.start)
  highest_other is =
      ap (λ ms. rules.highest (rules.all_but (name_of at y) ms)) (sym (members_left at now x m dim ids good.links are gone))
      ∙ ap (λ n. rules.highest (rules.all_but n (members_of now dim (without x ids)))) (sym (name_now y stands))
      ∙ highest_named now m dim (without x ids) left (ids_left at now x m dim ids good.links are gone) y (2 ^ 20) left.small made.choice.start (made.choice.starts.at_highest is (2 ^ 20)) (some_node layer (now y) stands)
      ∙ ap (λ n. Some n) (name_now made.choice.start start_stands.1)

  starts_named : rules.beam_start (set_of at top m dim cut ids) (name_of at x) (Some (name_of at entry)) (name_of at y) ≡ Some (name_of at made.choice.start)
  starts_named =
      let others = rules.highest (rules.all_but (name_of at y) (rules.all_but (name_of at x) (members_of at dim ids))) in
      let test = same_id y entry (live y y_stood) entry_live in
      elim (cases_eq entry y) [
        | inl is ↦ cond-true (same_name (name_of at y) (name_of at entry)) others (Some (name_of at entry)) (test ∙ eq-eqb entry y is) ∙ highest_other is
        | inr ne ↦ cond-false (same_name (name_of at y) (name_of at entry)) others (Some (name_of at entry)) (test ∙ ne_eqb entry y ne) ∙ ap (λ k. Some (name_of at k)) (sym (made.choice.starts.at_entry ne))
      ]

  -- ---- the links

  has_node : (o : Option Node) → layer < option_map_or (λ n. length n.links) o 0 → is_some o ≡ true
  has_node None h = absurd (omega (arith, h))
  has_node (Some n) h = refl

  chosen_not_x : (c : ℕ) → In c made.chosen → c ≢ x
  chosen_not_x c inside is =
      let h = in_all (λ k. (layer < layers_at now k) × (k ≢ y)) c made.chosen made.choice.may.stand inside in
      both_ways (is_some (now c)) (ap is_some (ap now is ∙ gone.gone)) (has_node (now c) h.0)

  links_named : SameLinks (named_links new (without x ids))
      (rules.joined (set_of at top m dim cut ids) (name_of at x) (Some (name_of at entry)) (named_links now (without x ids)) layer (name_of at y) (keys_named at made.choice.found))
  links_named =
      let ls = named_links now (without x ids) in
      let whole = named_whole now new m dim layer y made.chosen (Some entry) left good.m_low stands free made.choice.may (λ e. absurd (omega (arith, ap length e, made.choice.some))) made.joined (without x ids) (ids_left at now x m dim ids good.links are gone) in
      let names : map (name_of now) made.chosen ≡ map (name_of at) made.chosen = map_same_in (name_of now) (name_of at) made.chosen (λ c inside. name_left at now x m dim ids good.links are gone c (chosen_not_x c inside)) in
      let ename : name_of now entry ≡ name_of at entry = name_left at now x m dim ids good.links are gone entry entry_not_x in
      subst (λ cs. SameLinks (named_links new (without x ids)) (linking.linked m (rules.all_but (name_of at x) (members_of at dim ids)) ls (name_of at y) layer cs (Some (name_of at entry)))) (names ∙ chosen_named)
      (subst (λ e. SameLinks (named_links new (without x ids)) (linking.linked m (rules.all_but (name_of at x) (members_of at dim ids)) ls (name_of at y) layer (map (name_of now) made.chosen) (Some e))) ename
      (subst (λ n. SameLinks (named_links new (without x ids)) (linking.linked m (rules.all_but (name_of at x) (members_of at dim ids)) ls n layer (map (name_of now) made.chosen) (Some (name_of now entry)))) (name_now y stands)
      (subst (λ ms. SameLinks (named_links new (without x ids)) (linking.linked m ms ls (name_of now y) layer (map (name_of now) made.chosen) (Some (name_of now entry)))) (members_left at now x m dim ids good.links are gone) whole)))

  pub rejoins_named : rules.Rejoins (set_of at top m dim cut ids) (name_of at x) (Some (name_of at entry)) (named_links now (without x ids)) layer (name_of at y) (named_links new (without x ids))
  rejoins_named = record {
    start = name_of at made.choice.start;
    starts = starts_named;
    tried = keys_named at (ranked at (words_at (body_at now) y) made.choice.tried);
    found = keys_named at made.choice.found;
    beam = subst (λ q. beams.IsBeam (set_of at top m dim cut ids) q layer (name_of at made.choice.start) 200 0 pass_all (keys_named at (ranked at (words_at (body_at now) y) made.choice.tried)) (keys_named at made.choice.found)) (sym bits_are)
        (beam_is at top m dim cut ids (words_at (body_at now) y) everyone pass_all good are fits (λ name z e. refl) layer made.choice.start 200 0 made.choice.tried made.choice.expanded made.choice.found made.choice.beam);
    links_are = links_named;
  }
