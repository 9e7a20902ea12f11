-- Whom an orphan may be joined to: what a beam in the graph before the removal found has others than the two.
use Rattle.std.proofs.Common.{◌≡◌, ◌≢◌, ◌⊎◌, ℕ, zero, suc, ◌+◌, ◌<◌, ◌≤◌, Bool, true, false, not, ◌&&◌, ◌||◌, eqb, List, [], ◌∷◌, length, map, refl, sym, ap, ◌∙◌, subst, arith, inl, inr, length-take}
use Rattle.std.specs.Prelude.{Some, None, IsSome, is_some, IsSomeAnd, IfSome, nat_eq, nat_lt, filter, All, Contains}
use Rattle.std.specs.List.{list_any, IsDistinct}
use Rattle.std.specs.Ordering.{ordering_then, is_gt}
use Rattle.std.specs.declared.cmp.Ordering.{Ordering}
use Rattle.std.specs.declared.cmp.Ordering.TheVariants.{Less, Equal, Greater}
use Rattle.std.specs.declared.option.Option.{Option}
use Rattle.std.proofs.lemmas.Bool.{cases_eq, cases_lt, both_ways, not-true, cond-true, and_parts, and_from, lt-ltb, ne_eqb, eqb-false, eq-eqb}
use Rattle.std.proofs.Math.Bool.{or-true}
use Rattle.std.proofs.lemmas.List.{take_all}
use Rattle.std.proofs.lemmas.List.Sorted.{Contains-permutation}
use Rattle.std.proofs.lemmas.Map.Keys.{IsDistinct-tail, le_from_not_gt}
use Rattle.vs_graph.specs.declared.node.Node.{Node}
use Rattle.vs_graph.specs.declared.edit.Edit.{Edit}
use Rattle.vs_graph.specs.Edits.{overwritten}
use Rattle.vs_graph.specs.Good.{body_at, links_at, layers_at, most_links, StandsAt, AreLinksGood, IsEntry}
use Rattle.vs_graph.specs.GoodTable.{KeepsLinked}
use Rattle.vs_graph.specs.Relinks.{Relinks}
use Rattle.vs_graph.specs.Bodies.{Bodies}
use Rattle.vs_graph.proofs.Goods.{layers_from}
use Rattle.vs_graph.proofs.Lists.{head_absent, distinct_filter}
use Rattle.vs_graph.proofs.Sorts.{In, in_filter, from_filter, filter_of_map, all_in}
use Rattle.vs_graph.proofs.NodeLaws.{some_node}
use Rattle.vs_rank.specs.declared.Key.{Key}
use Rattle.vs_link.specs.Linked.{linked, AreChosen}
use Rattle.vs_link.specs.Selected.{is_choice, selected_behind, selected}
use Rattle.vs_link.proofs.Chosen.{chosen_all, chosen_few, chosen_once}
use Rattle.vs_beam.specs.Beam.{ranked, IsBeam}
use Rattle.vs_beam.proofs.Steps.{has_first}
use Rattle.vs_unlink.specs.Unlinked.{IsWithout}
use Rattle.vs_unlink.proofs.Remaining.{stands_yet}
use Rattle.vs_unlink.proofs.Bare.{live_bare}
use Rattle.vs_insert.specs.Choosing.{everyone}
use Rattle.vs_insert.specs.Height.{height}
use Rattle.vs_insert.specs.Rejoined.{HasAnother, others_of, IsStart, IsOrphansChoice, IsRejoined}
use Rattle.vs_insert.proofs.Found.{found_is, found_stand, found_once, ranked_ids, ranked_long}

-- ---- lists

some_in : (z : Key) (keys : List Key) → In z keys → 0 < length keys
some_in z [] h = absurd h
some_in z (k ∷ ks) h = omega arith

in_of : (keys : List Key) (id : ℕ) → Contains (map (λ (k : Key). k.id) keys) id → (z : Key) × In z keys × (z.id ≡ id)
in_of [] id (k, h, e) = absurd (omega (arith, h))
in_of (x ∷ xs) id (zero, h, e) = (x, inl refl, e)
in_of (x ∷ xs) id (suc k, h, e) = let r = in_of xs id (k, omega (arith, h), e) in (r.0, inr r.1, r.2)

apart_two : (a b : ℕ) (l : List ℕ) → IsDistinct nat_eq (a ∷ b ∷ l) → a ≡ b → ⊥
apart_two a b l d e = both_ways (eqb a b || list_any (nat_eq a) l) (head_absent a (b ∷ l) d) (ap (λ c. c || list_any (nat_eq a) l) (eq-eqb a b e))

-- ---- some are left

-- of three different ones, one is neither x nor y
one_of_three : (p : Key → Bool) (x y : ℕ) (keys : List Key) → ((key : Key) → In key keys → p key ≡ false → (key.id ≡ x) ⊎ (key.id ≡ y)) → IsDistinct nat_eq (map (λ (k : Key). k.id) keys) → 3 ≤ length keys → (z : Key) × In z keys × (p z ≡ true)
one_of_three p x y [] only d long = absurd (omega (arith, long))
one_of_three p x y (a ∷ []) only d long = absurd (omega (arith, long))
one_of_three p x y (a ∷ b ∷ []) only d long = absurd (omega (arith, long))
one_of_three p x y (a ∷ b ∷ c ∷ keys) only d long = by_tests (p a) (p b) (p c) refl refl refl where
  ids : List ℕ
  ids = map (λ (k : Key). k.id) keys

  ab : a.id ≡ b.id → ⊥
  ab = apart_two a.id b.id (c.id ∷ ids) d

  bc : b.id ≡ c.id → ⊥
  bc = apart_two b.id c.id ids (IsDistinct-tail nat_eq a.id (b.id ∷ c.id ∷ ids) d)

  ac : a.id ≡ c.id → ⊥
  ac e = both_ways (eqb a.id b.id || (eqb a.id c.id || list_any (nat_eq a.id) ids)) (head_absent a.id (b.id ∷ c.id ∷ ids) d) (ap (λ t. eqb a.id b.id || (t || list_any (nat_eq a.id) ids)) (eq-eqb a.id c.id e) ∙ or-true (eqb a.id b.id))

  none : (a.id ≡ x) ⊎ (a.id ≡ y) → (b.id ≡ x) ⊎ (b.id ≡ y) → (c.id ≡ x) ⊎ (c.id ≡ y) → ⊥
  none (inl e) (inl f) g = ab (e ∙ sym f)
  none (inr e) (inr f) g = ab (e ∙ sym f)
  none (inl e) (inr f) (inl g) = ac (e ∙ sym g)
  none (inl e) (inr f) (inr g) = bc (f ∙ sym g)
  none (inr e) (inl f) (inl g) = bc (f ∙ sym g)
  none (inr e) (inl f) (inr g) = ac (e ∙ sym g)

  by_tests : (u v w : Bool) → p a ≡ u → p b ≡ v → p c ≡ w → (z : Key) × In z (a ∷ b ∷ c ∷ keys) × (p z ≡ true)
  by_tests true v w e f g = (a, inl refl, e)
  by_tests false true w e f g = (b, inr (inl refl), f)
  by_tests false false true e f g = (c, inr (inr (inl refl)), g)
  by_tests false false false e f g = absurd (none (only a (inl refl) e) (only b (inr (inl refl)) f) (only c (inr (inr (inl refl))) g))

module _ (at now : ℕ → Option Node) (x : ℕ) (gone : IsWithout at now x) where
  live_only : (q : ℕ) → q ≢ x → is_some (now q) ≡ is_some (at q)
  live_only q ne = sym (live_bare (now q)) ∙ ap is_some (gone.others q ne) ∙ live_bare (at q)

  pub was_live : (q : ℕ) → IsSome (now q) → IsSome (at q)
  was_live q h = elim (cases_eq q x) [
    | inl is ↦ absurd (both_ways (is_some (now q)) (ap is_some (ap now is ∙ gone.gone)) h)
    | inr ne ↦ sym (live_only q ne) ∙ h
  ]

-- ---- where the beam starts

first_not_gt : (a b : Ordering) → is_gt (ordering_then a b) ≡ false → is_gt a ≡ false
first_not_gt Less b h = refl
first_not_gt Equal b h = refl
first_not_gt Greater b h = h

stands_top : (layer : ℕ) (now : ℕ → Option Node) (o : Option Node) (y : ℕ) → IsSomeAnd o (λ n. (q : ℕ) → IfSome (now q) (λ other. other.level ≤ n.level)) → StandsAt now layer y → IsSomeAnd o (λ n. layer ≤ n.level)
stands_top layer now None y h s = h
stands_top layer now (Some n) y h s = below (now y) (h y) s where
  below : (p : Option Node) → IfSome p (λ other. other.level ≤ n.level) → IsSomeAnd p (λ k. layer ≤ k.level) → layer ≤ n.level
  below None f s = absurd s
  below (Some k) f s = omega (arith, f, s)

stands_highest : (layer : ℕ) (o p : Option Node) → IsSomeAnd o (λ n. IfSome p (λ k. is_gt (height n k) ≡ false)) → IsSomeAnd p (λ k. layer ≤ k.level) → IsSomeAnd o (λ n. layer ≤ n.level)
stands_highest layer None p h s = h
stands_highest layer (Some n) None h s = absurd s
stands_highest layer (Some n) (Some k) h s = let le : k.level ≤ n.level = le_from_not_gt k.level n.level (first_not_gt _ _ h) in omega (arith, le, s)

at_one : (now : ℕ → Option Node) (y z : ℕ) (o : Option Node) → z ≢ y → IsSomeAnd o (λ n. (q : ℕ) → q < z + 1 → q ≢ y → IfSome (now q) (λ k. is_gt (height n k) ≡ false)) → IsSomeAnd o (λ n. IfSome (now z) (λ k. is_gt (height n k) ≡ false))
at_one now y z None ne h = h
at_one now y z (Some n) ne h = h z (omega arith) ne

pub start_may : (now : ℕ → Option Node) (entry layer y start : ℕ) → IsStart now entry y start → IsEntry now (Some entry) → StandsAt now layer y → HasAnother now layer y → (start ≢ y) × StandsAt now layer start
start_may now entry layer y start is top stands another =
    elim (cases_eq entry y) [
      | inl same ↦ (
          let h = is.at_highest same (another.0 + 1) in
          (h.0, stands_highest layer (now start) (now another.0) (at_one now y another.0 (now start) another.1 h.1) another.2))
      | inr ne ↦ (
          let at_entry = is.at_entry ne in
          (λ e. ne (sym at_entry ∙ e), subst (λ s. StandsAt now layer s) (sym at_entry) (stands_top layer now (now entry) y top stands)))
    ]

-- ---- what is left of what was found

pub in_all : {X : Type 0} (P : X → Type 0) (x : X) (xs : List X) → All P xs → In x xs → P x
in_all P x [] h i = absurd i
in_all P x (y ∷ ys) h (inl e) = subst P (sym e) (h 0 y (omega arith))
in_all P x (y ∷ ys) h (inr i) = in_all P x ys (λ k d less. h (suc k) d (omega (arith, less))) i

pub selected_some : (bodies : Bodies) (m : ℕ) (keys : List Key) → 0 < m → 0 < length keys → 0 < length (selected bodies m keys)
selected_some bodies m [] low some = absurd (omega (arith, some))
selected_some bodies m (k ∷ ks) low some =
    subst (λ l. 0 < length l)
    (sym (cond-true (is_choice bodies m [] k) (k.id ∷ selected_behind bodies m (k.id ∷ []) ks) (selected_behind bodies m [] ks) (and_from (nat_lt 0 m) true (lt-ltb 0 m low) refl))) (omega arith)

module _ (at now : ℕ → Option Node) (x y layer start m dim : ℕ) (query tried expanded : List ℕ) (found : List Key) (gone : IsWithout at now x) (good : AreLinksGood now m dim)
    (beam : IsBeam at layer start query 200 0 everyone tried expanded found) (apart : start ≢ y) (stands : StandsAt now layer start) where
  abbrev passes : Key → Bool
  passes key = is_some (now key.id) && not (eqb key.id y)

  found_stands : (key : Key) → In key found → StandsAt at layer key.id
  found_stands key inside = in_all (λ (k : Key). StandsAt at layer k.id) key found (found_stand at layer start 200 query tried expanded found beam) inside

  only_two : (key : Key) → In key found → passes key ≡ false → (key.id ≡ x) ⊎ (key.id ≡ y)
  only_two key inside fails = elim (cases_eq key.id x) [
    | inl is ↦ inl is
    | inr nx ↦ elim (cases_eq key.id y) [
      | inl is ↦ inr is
      | inr ny ↦ absurd (both_ways (passes key) fails (and_from (is_some (now key.id)) (not (eqb key.id y)) (some_node layer (now key.id) (stands_yet at now x gone layer key.id nx (found_stands key inside))) (ap not (ne_eqb key.id y ny))))
    ]
  ]

  left_from : (z : Key) → In z found → passes z ≡ true → 0 < length (others_of now y found)
  left_from z inside pass = some_in z (filter passes found) (in_filter passes z found pass inside)

  by_start : length tried < 200 → 0 < length (others_of now y found)
  by_start few =
      let whole : found ≡ ranked at query tried = found_is at layer start 200 query tried expanded found beam ∙ take_all 200 (ranked at query tried) (omega (arith, few, ranked_long at layer start 200 query tried expanded found beam)) in
      let z = in_of (ranked at query tried) start (Contains-permutation tried (map (λ (k : Key). k.id) (ranked at query tried)) start (ranked_ids at layer start 200 query tried expanded found beam) (has_first tried start beam.start_first)) in
      left_from z.0 (subst (λ l. In z.0 l) (sym whole) z.1)
      (and_from (is_some (now z.0.id)) (not (eqb z.0.id y)) (ap (λ i. is_some (now i)) z.2 ∙ some_node layer (now start) stands) (ap (λ i. not (eqb i y)) z.2 ∙ ap not (ne_eqb start y apart)))

  by_count : 200 ≤ length tried → 0 < length (others_of now y found)
  by_count many =
      let long : 3 ≤ length found = subst (λ l. 3 ≤ length l) (sym (found_is at layer start 200 query tried expanded found beam)) (omega (arith, length-take 200 (ranked at query tried), many, ranked_long at layer start 200 query tried expanded found beam)) in
      let z = one_of_three passes x y found only_two (found_once at layer start 200 query tried expanded found beam) long in
      left_from z.0 z.1 z.2

  pub some_left : 0 < length (others_of now y found)
  some_left = elim (cases_lt (length tried) 200) [ inl few ↦ by_start few | inr many ↦ by_count (omega (arith, many)) ]

  pub left_live : All (λ (key : Key). IsSome (at key.id)) (others_of now y found)
  left_live = all_in (λ (key : Key). IsSome (at key.id)) (filter passes found) (λ z inside. some_node layer (at z.id) (found_stands z (from_filter passes z found inside).0))

  left_may : (z : Key) → In z (filter passes found) → (layer < layers_at now z.id) × (z.id ≢ y)
  left_may z inside =
      let f = from_filter passes z found inside in
      let two = and_parts (is_some (now z.id)) (not (eqb z.id y)) f.1 in
      let nx : z.id ≢ x = λ e. both_ways (is_some (now z.id)) (ap is_some (ap now e ∙ gone.gone)) two.0 in
      (layers_from m dim layer (now z.id) (good.nodes z.id) (stands_yet at now x gone layer z.id nx (found_stands z f.0)), eqb-false z.id y (not-true (eqb z.id y) two.1))

  pub choice_may : (bodies : Bodies) → AreChosen (layers_at now) layer m y (selected bodies m (others_of now y found))
  choice_may bodies = record {
    stand = chosen_all (λ c. (layer < layers_at now c) × (c ≢ y)) bodies m [] (filter passes found) (all_in (λ (key : Key). (layer < layers_at now key.id) × (key.id ≢ y)) (filter passes found) left_may);
    once = chosen_once bodies m [] (filter passes found)
        (subst (IsDistinct nat_eq) (filter_of_map (λ (k : Key). k.id) (λ i. is_some (now i) && not (eqb i y)) found)
        (distinct_filter (λ i. is_some (now i) && not (eqb i y)) (map (λ (k : Key). k.id) found) (found_once at layer start 200 query tried expanded found beam)));
    few = omega (arith, chosen_few bodies m [] (filter passes found) (omega arith));
  }

-- ---- the steps of the code

pub live_over : (over at : ℕ → Option Node) (shown left : List Key) → over ≡ at → shown ≡ left → All (λ (key : Key). IsSome (at key.id)) left → All (λ (key : Key). IsSome (over key.id)) shown
live_over over at shown left e g h = subst (λ a. All (λ (key : Key). IsSome (a key.id)) shown) (sym e) (subst (λ l. All (λ (key : Key). IsSome (at key.id)) l) (sym g) h)

pub another_live : (base at : ℕ → Option Node) (edit : Edit) (layer y : ℕ) → base ≡ at → (h : HasAnother (overwritten edit at) layer y) → IsSome (overwritten edit base h.0)
another_live base at edit layer y same h = subst (λ f. IsSome (overwritten edit f h.0)) (sym same) (some_node layer (overwritten edit at h.0) h.2)

pub rejoined_over : (edit made : Edit) (base at : ℕ → Option Node) (k m dim entry layer y : ℕ) (shown chosen : List ℕ) → base ≡ at → k ≡ m → shown ≡ chosen → IsOrphansChoice at (overwritten edit at) m entry layer y chosen
    → HasAnother (overwritten edit at) layer y → AreLinksGood (overwritten edit at) m dim
    → Relinks (overwritten edit base) (overwritten made base) layer (linked (body_at (overwritten edit base)) (most_links k layer) (links_at (overwritten edit base) layer) y shown (Some entry))
    → ((d : ℕ) → AreLinksGood (overwritten edit base) k d → AreLinksGood (overwritten made base) k d) → KeepsLinked (links_at (overwritten edit base) layer) (links_at (overwritten made base) layer)
    → ((z : ℕ) → z ≢ y → StandsAt (overwritten edit base) layer z → 0 < length (links_at (overwritten made base) layer y)) → IsRejoined at (overwritten edit at) (overwritten made at) m dim entry layer y
rejoined_over edit made base at k m dim entry layer y shown chosen same e g choice another good joined keeps kept own = record {
  chosen = chosen;
  choice = choice;
  joined = subst (λ f. Relinks (overwritten edit f) (overwritten made f) layer (linked (body_at (overwritten edit f)) (most_links m layer) (links_at (overwritten edit f) layer) y chosen (Some entry))) same
      (subst (λ n. Relinks (overwritten edit base) (overwritten made base) layer (linked (body_at (overwritten edit base)) (most_links n layer) (links_at (overwritten edit base) layer) y chosen (Some entry))) e
      (subst (λ l. Relinks (overwritten edit base) (overwritten made base) layer (linked (body_at (overwritten edit base)) (most_links k layer) (links_at (overwritten edit base) layer) y l (Some entry))) g joined));
  good = subst (λ f. AreLinksGood (overwritten made f) m dim) same (subst (λ n. AreLinksGood (overwritten made base) n dim) e
      (keeps dim (subst (λ f. AreLinksGood (overwritten edit f) k dim) (sym same) (subst (λ n. AreLinksGood (overwritten edit at) n dim) (sym e) good))));
  kept = subst (λ f. KeepsLinked (links_at (overwritten edit f) layer) (links_at (overwritten made f) layer)) same kept;
  own = subst (λ f. 0 < length (links_at (overwritten made f) layer y)) same (own another.0 another.1 (subst (λ f. StandsAt (overwritten edit f) layer another.0) (sym same) another.2));
}
