-- From ids to the set that the graph stands for.
use Rattle.std.proofs.Common.{◌≡◌, ◌≢◌, ℕ, zero, suc, ◌+◌, ◌<◌, ◌≤◌, inl, inr, Bool, true, false, ◌||◌, cond, leb, ltb, List, [], ◌∷◌, length, take, map, get_or, refl, sym, ap, ◌∙◌, subst, arith}
use Rattle.std.specs.Prelude.{Some, None, IsSome, IsSomeAnd, nat_le, option_map, slice_index, sum_by, unwrap_or, All, AllPairs, Contains}
use Rattle.std.specs.List.{list_any}
use Rattle.std.specs.Option.{option_map_or, option_or}
use Rattle.std.specs.declared.option.Option.{Option}
use Rattle.std.proofs.lemmas.Bool.{or_cases, cases_eq, le-leb, leb-false, ltb-true, ltb-false, or_right}
use Rattle.std.proofs.lemmas.List.{length-map, get_or-map, take-map}
use Rattle.std.proofs.lemmas.List.Elements.{All-map, All-weaker, Contains-get_or}
use Rattle.std.proofs.lemmas.List.Folds.{list_any_at, Any-from_list_any}
use Rattle.std.proofs.lemmas.List.Sorted.{All-permutation, IsPermutation-sym}
use Rattle.std.proofs.lemmas.List.Sums.{sum_by-cons}
use Rattle.std.proofs.lemmas.Slice.Eq.{bytes_eq-Decides}
use Rattle.vs_defs.specs.Bytes.{Bytes, same_name, last_in}
use Rattle.vs_defs.specs.Vector.{Vector, ham}
use Rattle.vs_defs.specs.Words.{FitsDimension, bits_of_words, words_ham}
use Rattle.vs_defs.specs.Store.{Member, Set, no_member}
use Rattle.vs_defs.specs.Store as store
use Rattle.vs_defs.specs.Links.{links_of, stands_at, reaches, neighbours}
use Rattle.vs_defs.specs.Beam as defs
use Rattle.vs_defs.specs.Beam.{layers_down, level_at, distance_at, descent_start}
use Rattle.vs_defs.specs.Counts as counts
use Rattle.vs_bits.proofs.Distances.{words_ham-same}
use Rattle.vs_graph.specs.declared.node.Node.{Node}
use Rattle.vs_graph.specs.declared.node.Attr.{Attr}
use Rattle.vs_graph.specs.Good.{IsLinked, StandsAt, IsGood, body_at, links_at}
use Rattle.vs_graph.specs.Bodies.{words_at}
use Rattle.vs_graph.specs.Named.{is_live}
use Rattle.vs_graph.specs.Standing.{AreIds, member_of_node, member_at, members_of, name_of, set_of}
use Rattle.vs_graph.proofs.Goods.{contains_from, test_from}
use Rattle.vs_graph.proofs.Standing.{names_differ, member_there, bits_there, are_named, names_once, degree}
use Rattle.vs_graph.proofs.NodeLaws.{words_same, fits_node}
use Rattle.vs_defs.proofs.LayerLaws.{no_layers}
use Rattle.vs_rank.specs.declared.Key.{Key}
use Rattle.vs_rank.specs.Tests.{Attribute}
use Rattle.vs_beam.specs.Beam.{ranked, IsKnown, IsBeam, IsDescent}
use Rattle.vs_beam.specs.Named.{stops_named, keys_named, PassesBy, IsNamedDescent, IsNamedBeam}
use Rattle.vs_beam.proofs.Visits.{some_and}
use Rattle.vs_beam.proofs.Stages.{Stage, IsNamedBy, Approaches, DescendsFrom, IsMet, IsNextName}
use Rattle.vs_beam.proofs.Names.{is_named, same_names}
use Rattle.vs_beam.proofs.NamedStops.{is_named_descent}
use Rattle.vs_beam.proofs.NamedOrder.{each_expanded_stands, expansion_is_named, met_of}

-- ---- one node

level_true : (o : Option Node) (layer dim : ℕ) → IsSomeAnd o (λ node. layer ≤ node.level)
    → nat_le layer (option_map_or (member_of_node dim) o no_member).level ≡ true
level_true None layer dim h = absurd h
level_true (Some node) layer dim h = le-leb layer node.level h

level_same : (o : Option Node) (dim : ℕ) → (option_map_or (member_of_node dim) o no_member).level ≡ option_map_or (λ node. node.level) o 0
level_same None dim = refl
level_same (Some node) dim = refl

text_same : (attr : Option Attr) → option_map (λ (a : Attr). a.text) attr ≡ option_map_or (λ (a : Attr). Some a.text) attr None
text_same None = refl
text_same (Some attr) = refl

attr_same : (o : Option Node) (dim : ℕ) → (option_map_or (member_of_node dim) o no_member).attr ≡ option_map_or (λ node. option_map_or (λ attr. Some attr.text) node.attr None) o None
attr_same None dim = refl
attr_same (Some node) dim = text_same node.attr

-- ---- lists

last_more : (x : Bytes) (ys : List Bytes) (z : Bytes) → last_in ys ≡ Some z → last_in (x ∷ ys) ≡ Some z
last_more x [] z h = cc
last_more x (y ∷ ys) z h = h

last_layer_by : (f : ℕ → Bytes) (b : Bool) (high low : ℕ) → leb low (suc high) ≡ b → low ≤ suc high → (low ≤ high → last_in (map f (layers_down high low)) ≡ Some (f low))
    → last_in (map f (cond b (suc high ∷ layers_down high low) [])) ≡ Some (f low)
last_layer_by f false high low e h rest = absurd (omega (arith, leb-false low (suc high) e, h))
last_layer_by f true high low e h rest =
    elim (cases_eq low (suc high)) [
      | inl is ↦ ap (λ ls. last_in (f (suc high) ∷ map f ls)) (no_layers high low (omega (arith, is))) ∙ ap (λ n. Some (f n)) (sym is)
      | inr ne ↦ last_more (f (suc high)) (map f (layers_down high low)) (f low) (rest (omega (arith, ne, h)))
    ]

last_zero_by : (f : ℕ → Bytes) (b : Bool) (low : ℕ) → leb low 0 ≡ b → low ≤ 0 → last_in (map f (cond b (0 ∷ []) [])) ≡ Some (f low)
last_zero_by f false low e h = absurd (omega (arith, leb-false low 0 e, h))
last_zero_by f true low e h = let is : 0 ≡ low = omega (arith, h) in ap (λ n. Some (f n)) is

-- the lowest layer is the last
last_layer : (f : ℕ → Bytes) (top low : ℕ) → low ≤ top → last_in (map f (layers_down top low)) ≡ Some (f low)
last_layer f zero low h = last_zero_by f (leb low 0) low refl h
last_layer f (suc high) low h = last_layer_by f (leb low (suc high)) high low refl h (last_layer f high low)

-- ---- the set

module _ (at : ℕ → Option Node) (entry : Option ℕ) (m dim cut : ℕ) (ids query : List ℕ) (passes : Attribute → Bool) (pass : Bytes → Bool)
    (good : IsGood at entry m dim) (are : AreIds at ids) (fits : FitsDimension dim query) (by : PassesBy (members_of at dim ids) passes pass) where
  abbrev set : Set
  set = set_of at entry m dim cut ids

  abbrev bits : Vector
  bits = bits_of_words dim query

  abbrev stage : ℕ → Stage
  stage layer = record { stands = stands_at (members_of at dim ids) layer; linked = links_of set.wiring layer; distance = distance_at set bits; pass = pass }

  live : (layer a : ℕ) → StandsAt at layer a → is_live ids a ≡ true
  live layer a h = are.live a ∙ some_and (at a) (λ node. layer ≤ node.level) h

  ends : (layer a b : ℕ) → IsLinked at layer a b → StandsAt at layer a × StandsAt at layer b
  ends layer a b h = (good.links.stand layer b a (good.links.back layer a b h), good.links.stand layer a b h)

  named : (layer : ℕ) → IsNamedBy at layer query passes (name_of at) (stage layer)
  named layer =
      let there = member_there at m dim ids good.links are in
      let linked = are_named at m dim ids good.links are in
      record {
        apart = λ a b sa sb e. names_differ at m dim ids good.links are a b (live layer a sa) (live layer b sb) e;
        standing = λ a sa. ap (reaches layer) (there a (live layer a sa)) ∙ level_true (at a) layer dim sa;
        link = λ a b h. let s = ends layer a b h in linked.same layer a b (live layer a s.0) (live layer b s.1) ∙ test_from (links_at at layer a) b h;
        from_link = λ a other sa h.
            let w = linked.within layer (name_of at a) other h in
            let same = linked.same layer a w.1.0 (live layer a sa) w.1.1 in
            let link : links_of set.wiring layer (name_of at a) (name_of at w.1.0) ≡ true = subst (λ n. links_of set.wiring layer (name_of at a) n ≡ true) (sym w.1.2) h in
            (w.1.0, contains_from (links_at at layer a) w.1.0 (sym same ∙ link), w.1.2);
        far = λ a sa.
            ap (ham bits) (bits_there at m dim ids good.links are a (live layer a sa))
            ∙ sym (words_ham-same dim query (words_at (body_at at) a) fits (fits_node layer m dim (at a) sa (good.links.nodes a)))
            ∙ ap (words_ham query) (sym (words_same (at a)));
        passing = λ a sa. by (name_of at a) (member_at at dim a) (there a (live layer a sa)) ∙ ap passes (attr_same (at a) dim);
      }

  -- ---- a beam

  pub beam_is : (layer start ef effort : ℕ) (tried expanded : List ℕ) (found : List Key) → IsBeam at layer start query ef effort passes tried expanded found
      → defs.IsBeam set bits layer (name_of at start) ef effort pass (keys_named at (ranked at query tried)) (keys_named at found)
  beam_is layer start ef effort tried expanded found beam =
      let n = is_named at layer start query ef effort passes (name_of at) (stage layer) tried expanded found (named layer) beam in
      record {
        distinct = n.distinct;
        stand = n.stand;
        sorted = n.sorted;
        order = n.order;
        same = n.same;
        first = n.first;
        reached = n.reached;
        best = n.best;
        limit = n.limit;
        closed = n.closed;
      }

  -- ---- the order of expansion

  met_true : (layer : ℕ) (start : Bytes) (expanded : List Bytes) (x : Bytes) → IsMet (stage layer) start expanded x → counts.is_met set bits layer start expanded x ≡ true
  met_true layer start expanded x (inl e) = ap (λ b. b || list_any (λ y. links_of set.wiring layer y x) expanded) ((bytes_eq-Decides start x).1 (sym e))
  met_true layer start expanded x (inr h) =
      or_right (same_name start x) (list_any (λ y. links_of set.wiring layer y x) expanded)
      (list_any_at (λ y. links_of set.wiring layer y x) expanded h.1.0 h.0 h.1.1 (ap (λ y. links_of set.wiring layer y x) h.1.2 ∙ h.2))

  met_from : (layer : ℕ) (start : Bytes) (expanded : List Bytes) (x : Bytes) → counts.is_met set bits layer start expanded x ≡ true → IsMet (stage layer) start expanded x
  met_from layer start expanded x h =
      elim (or_cases (same_name start x) (list_any (λ y. links_of set.wiring layer y x) expanded) h) [
        | inl e ↦ inl (sym ((bytes_eq-Decides start x).0 e))
        | inr e ↦ (let a = Any-from_list_any (λ y. links_of set.wiring layer y x) expanded e in inr (a.1, (a.0, a.2, a.3), a.4))
      ]

  names_apart : AllPairs (λ a b. a ≢ b) (store.names_of (members_of at dim ids))
  names_apart i j d before below e =
      let members = members_of at dim ids in
      let some = member_at at dim 0 in
      let j_in : j < length members = subst (λ n. j < n) (length-map members (λ (x : Member). x.name)) below in
      let i_in : i < length members = omega (arith, before, j_in) in
      names_once at m dim ids good.links are i j some before j_in (sym (get_or-map (λ (x : Member). x.name) members i some d i_in) ∙ e ∙ get_or-map (λ (x : Member). x.name) members j some d j_in)

  next_is : (layer : ℕ) (start : Bytes) (ef : ℕ) (expanded : List Bytes) (v : Bytes) → IsNextName (stage layer) start ef expanded v → counts.IsNext set bits layer start ef pass expanded v
  next_is layer start ef expanded v n = record {
    met = met_true layer start expanded v n.met;
    among_best = n.fewer (store.names_of (members_of at dim ids)) (counts.is_met set bits layer start expanded) names_apart (met_from layer start expanded);
    nearest = λ x met not. n.nearest x (met_from layer start expanded x met) not;
  }

  module _ (layer start ef effort : ℕ) (tried expanded : List ℕ) (found : List Key) (from : StandsAt at layer start) (beam : IsBeam at layer start query ef effort passes tried expanded found) where
    expanded_stand : (y : ℕ) → Contains expanded y → StandsAt at layer y
    expanded_stand = each_expanded_stands at layer start query ef effort passes tried expanded found (ends layer) from beam

    expanded_apart : AllPairs (λ a b. a ≢ b) (map (name_of at) expanded)
    expanded_apart i j d before below e =
        let j_in : j < length expanded = subst (λ n. j < n) (length-map expanded (name_of at)) below in
        let i_in : i < length expanded = omega (arith, before, j_in) in
        beam.expanded_once i j 0 before j_in
        ((named layer).apart (get_or expanded i 0) (get_or expanded j 0) (expanded_stand (get_or expanded i 0) (Contains-get_or expanded i 0 i_in)) (expanded_stand (get_or expanded j 0) (Contains-get_or expanded j 0 j_in))
        (sym (get_or-map (name_of at) expanded i 0 d i_in) ∙ e ∙ get_or-map (name_of at) expanded j 0 d j_in))

    tried_met : All (λ x. counts.is_met set bits layer (name_of at start) (map (name_of at) expanded) x ≡ true) (keys_named at (ranked at query tried))
    tried_met =
        let n = same_names at layer start query ef effort passes (name_of at) (stage layer) tried expanded found (named layer) beam in
        All-permutation (λ x. counts.is_met set bits layer (name_of at start) (map (name_of at) expanded) x ≡ true) (map (name_of at) tried) (keys_named at (ranked at query tried)) (IsPermutation-sym _ _ n)
        (All-map (λ x. counts.is_met set bits layer (name_of at start) (map (name_of at) expanded) x ≡ true) (name_of at) tried
        (All-weaker (IsKnown at layer start expanded) (λ w. counts.is_met set bits layer (name_of at start) (map (name_of at) expanded) (name_of at w) ≡ true)
        (λ w k. met_true layer (name_of at start) (map (name_of at) expanded) (name_of at w) (met_of at layer start query ef passes (name_of at) (stage layer) (named layer) (ends layer) from expanded expanded_stand w k)) tried beam.known))

    in_order : (i : ℕ) (d : Bytes) → i < length (map (name_of at) expanded) → counts.IsNext set bits layer (name_of at start) ef pass (take i (map (name_of at) expanded)) (get_or (map (name_of at) expanded) i d)
    in_order i d below =
        let i_in : i < length expanded = subst (λ n. i < n) (length-map expanded (name_of at)) below in
        let n = expansion_is_named at layer start query ef effort passes (name_of at) (stage layer) tried expanded found (named layer) (ends layer) from beam i i_in in
        rw (take-map (name_of at) i expanded, get_or-map (name_of at) expanded i 0 d i_in) (next_is layer (name_of at start) ef (map (name_of at) (take i expanded)) (name_of at (slice_index expanded i)) n)

    pub expansion_is : counts.IsExpansion set bits layer (name_of at start) ef pass (keys_named at (ranked at query tried)) (map (name_of at) expanded)
    expansion_is = record { distinct = expanded_apart; in_order = in_order; tried_are_met = tried_met }

-- ---- reads

module _ (at : ℕ → Option Node) (entry : Option ℕ) (m dim cut : ℕ) (ids : List ℕ) (good : IsGood at entry m dim) (are : AreIds at ids) (layer : ℕ) where
  abbrev links_named : Bytes → List Bytes
  links_named a = neighbours (members_of at dim ids) (links_of (set_of at entry m dim cut ids).wiring) layer a

  pub reads_same : (xs : List ℕ) → ((y : ℕ) → Contains xs y → is_live ids y ≡ true) → sum_by (λ id. 1 + length (links_at at layer id)) xs ≡ sum_by (λ a. 1 + length (links_named a)) (map (name_of at) xs)
  reads_same [] live = refl
  reads_same (x ∷ xs) live =
      let f = λ (id : ℕ). 1 + length (links_at at layer id) in
      let g = λ (a : Bytes). 1 + length (links_named a) in
      let one : g (name_of at x) ≡ f x = ap (λ n. 1 + n) (degree at m dim ids good.links are layer x (live x (0, omega arith, refl))) in
      let rest : sum_by f xs ≡ sum_by g (map (name_of at) xs) = reads_same xs (λ y has. live y (suc has.0, omega (arith, has.1), has.2)) in
      sum_by-cons f x xs ∙ ap (λ n. f x + n) rest ∙ ap (λ n. n + sum_by g (map (name_of at) xs)) (sym one) ∙ sym (sum_by-cons g (name_of at x) (map (name_of at) xs))

-- ---- a descent

module _ (at : ℕ → Option Node) (entry m dim cut : ℕ) (ids query : List ℕ) (good : IsGood at (Some entry) m dim) (are : AreIds at ids) (fits : FitsDimension dim query)
    (low start top : ℕ) (stops : List ℕ) (positive : 1 ≤ low) (d : IsDescent at entry query low start top stops) where
  abbrev here : Set
  here = set_of at (Some entry) m dim cut ids

  abbrev vector : Vector
  vector = bits_of_words dim query

  abbrev steps : ℕ → Stage
  steps layer = record { stands = stands_at (members_of at dim ids) layer; linked = links_of here.wiring layer; distance = distance_at here vector; pass = λ name. true }

  path_is : (layer : ℕ) (a : Bytes) (path : List Bytes) (b : Bytes) → Approaches (steps layer) a path b → defs.Approaches here vector layer a path b
  path_is layer a [] b h = h
  path_is layer a (c ∷ cs) b h = (h.0, h.1, path_is layer c cs b h.2)

  stops_are : (ls : List ℕ) (names : List Bytes) (before : Bytes) → DescendsFrom steps before ls names → defs.DescendsFrom here vector before ls names
  stops_are [] [] before h = tt
  stops_are (l ∷ ls) (x ∷ xs) before h = (record { stands = h.0.stands; nearest = h.0.nearest; path = h.0.path; approaches = path_is l before h.0.path x h.0.approaches }, stops_are ls xs x h.1)
  stops_are [] (x ∷ xs) before h = absurd h
  stops_are (l ∷ ls) [] before h = absurd h

  entry_there : IsSome (at entry)
  entry_there = some_and (at entry) _ good.top

  all_steps : DescendsFrom steps (name_of at entry) (layers_down top low) (stops_named at top low stops)
  all_steps =
      is_named_descent at query (λ attr. true) (name_of at) steps (λ layer. named at (Some entry) m dim cut ids query (λ attr. true) (λ name. true) good are fits (λ name x e. refl) layer) (λ layer a b h. good.links.stand layer a b h)
      entry low start top stops entry_there positive d

  top_is : level_at here (name_of at entry) ≡ top
  top_is = ap (λ o. unwrap_or (option_map (λ (x : Member). x.level) o) 0) (member_there at m dim ids good.links are entry (are.live entry ∙ entry_there)) ∙ level_same (at entry) dim ∙ sym d.level

  pub descent_is : defs.IsDescent here vector low (stops_named at top low stops)
  descent_is = subst (λ t. defs.DescendsFrom here vector (name_of at entry) (layers_down t low) (stops_named at top low stops)) (sym top_is) (stops_are (layers_down top low) (stops_named at top low stops) (name_of at entry) all_steps)

  start_by : (b : Bool) → ltb top low ≡ b → start ≡ cond b entry (slice_index stops low) → option_or (last_in (stops_named at top low stops)) (Some (name_of at entry)) ≡ Some (name_of at start)
  start_by true e s =
      ap (λ ls. option_or (last_in (map (λ layer. name_of at (slice_index stops layer)) ls)) (Some (name_of at entry))) (no_layers top low (ltb-true top low e)) ∙ ap (λ x. Some (name_of at x)) (sym s)
  start_by false e s = ap (λ o. option_or o (Some (name_of at entry))) (last_layer (λ layer. name_of at (slice_index stops layer)) top low (ltb-false top low e)) ∙ ap (λ x. Some (name_of at x)) (sym s)

  pub start_is : descent_start here (stops_named at top low stops) ≡ Some (name_of at start)
  start_is = start_by (ltb top low) refl d.last

-- ---- the whole

pub named_descent : (at : ℕ → Option Node) (entry m dim : ℕ) (query : List ℕ) (low start top : ℕ) (stops : List ℕ) → IsGood at (Some entry) m dim → FitsDimension dim query → 1 ≤ low → IsDescent at entry query low start top stops
    → IsNamedDescent at (Some entry) m dim query low start top stops
named_descent at entry m dim query low start top stops good fits positive d = record {
  descends = λ cut ids are. descent_is at entry m dim cut ids query good are fits low start top stops positive d;
  starts = λ cut ids are. start_is at entry m dim cut ids query good are fits low start top stops positive d;
}

pub named_beam : (at : ℕ → Option Node) (entry : Option ℕ) (m dim layer start : ℕ) (query : List ℕ) (ef effort : ℕ) (passes : Attribute → Bool) (tried expanded : List ℕ) (found : List Key)
    → IsGood at entry m dim → FitsDimension dim query → StandsAt at layer start → IsBeam at layer start query ef effort passes tried expanded found
    → IsNamedBeam at entry m dim layer start query ef effort passes tried expanded found
named_beam at entry m dim layer start query ef effort passes tried expanded found good fits from beam =
    let ends : (a b : ℕ) → IsLinked at layer a b → StandsAt at layer a × StandsAt at layer b = λ a b h. (good.links.stand layer b a (good.links.back layer a b h), good.links.stand layer a b h) in
    let stand = each_expanded_stands at layer start query ef effort passes tried expanded found ends from beam in
    record {
      beam = λ cut ids pass are by. beam_is at entry m dim cut ids query passes pass good are fits by layer start ef effort tried expanded found beam;
      order = λ cut ids pass are by. expansion_is at entry m dim cut ids query passes pass good are fits by layer start ef effort tried expanded found from beam;
      reads = λ cut ids are. ap (λ n. 1 + n) (reads_same at entry m dim cut ids good are layer expanded (λ y has. are.live y ∙ some_and (at y) _ (stand y has)));
    }
