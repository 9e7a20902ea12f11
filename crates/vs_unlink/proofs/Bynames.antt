-- A removal by ids is the definition's removal by names.
use Rattle.std.proofs.Common.{◌≡◌, ◌≢◌, ℕ, ◌<◌, Bool, true, false, not, cond, eqb, ltb, ◌&&◌, ◌||◌, List, [], ◌∷◌, length, get_or, map, refl, sym, ap, ◌∙◌, subst, arith, inl, inr, ◌⊎◌}
use Rattle.std.specs.Prelude.{IsSome, is_some, IsTrue, IsFalse, nat_eq, filter, Any, Contains, option_map}
use Rattle.std.specs.List.{list_any}
use Rattle.std.specs.Option.{option_map_or}
use Rattle.std.specs.Ordering.{nat_cmp, ordering_then}
use Rattle.std.specs.declared.option.Option.{Option}
use Rattle.std.specs.declared.cmp.Ordering.TheVariants.{Less}
use Rattle.std.proofs.lemmas.Bool.{eqb-true, eqb-false, eq-eqb, ne_eqb, both_ways, or_cases, and_parts, and_from, not-true, not_from_false, ltb-true, ltb-false}
use Rattle.std.proofs.lemmas.List.{get_or-map, length-map}
use Rattle.std.proofs.lemmas.Slice.Eq.{bytes_eq-Decides}
use Rattle.std.specs.Cmp.Derive.{one_truth}
use Rattle.std.proofs.Math.Bool.{and-true, and-false}
use Rattle.vs_defs.specs.Bytes.{Bytes, same_name, name_cmp}
use Rattle.vs_defs.specs.Links.{Links, without_links, neighbours}
use Rattle.vs_defs.specs.Links as defs
use Rattle.vs_defs.specs.Removal as rules
use Rattle.vs_graph.specs.declared.node.Node.{Node}
use Rattle.vs_graph.specs.Good.{body_at, layers_at, links_at, most_links, AreLinksGood}
use Rattle.vs_graph.specs.Bodies.{Bodies, name_at, gap}
use Rattle.vs_graph.specs.Table.{Table, is_in, is_pair, without, joined}
use Rattle.vs_graph.specs.GoodTable.{IsGoodTable}
use Rattle.vs_graph.specs.Named.{is_live, IsLiveName, AreMembers, IsNamed}
use Rattle.vs_graph.specs.Standing.{AreIds, members_of, name_of, named_links, set_of}
use Rattle.vs_graph.proofs.Lists.{has_without, distinct_without, or_false}
use Rattle.vs_graph.proofs.Tables.{is_in_joined}
use Rattle.vs_graph.proofs.Goods.{table_from}
use Rattle.vs_graph.proofs.Sorts.{In, in_map, from_map, in_filter, from_filter, in_from_test, any_in}
use Rattle.vs_graph.proofs.Naming.{neighbours_are, stands_first, names_fixed}
use Rattle.vs_graph.proofs.Standing.{are_members, are_named}
use Rattle.vs_unlink.specs.declared.Pair.{Pair}
use Rattle.vs_unlink.specs.Pairs.{detached, paired, share, pair_cmp, IsOpen, IsPairing}
use Rattle.vs_unlink.specs.Unlinked.{IsTakenOut}
use Rattle.vs_unlink.proofs.Detached.{is_in_detached}
use Rattle.vs_unlink.proofs.Layers.{no_layers}
use Rattle.vs_unlink.proofs.Pairing.{contains_in, in_contains}
use Rattle.vs_unlink.proofs.Bare.{body_bare, live_bare}

and_twice : (p q r : Bool) → ((p && q) && r) ≡ (p && (q && r))
and_twice true q r = refl
and_twice false q r = refl

or_twice : (p q r : Bool) → ((p || q) || r) ≡ (p || (q || r))
or_twice true q r = refl
or_twice false q r = refl

swaps : (a b c d : Bool) → (((a || c) || b) || d) ≡ ((a || b) || (c || d))
swaps true b c d = refl
swaps false true true d = refl
swaps false true false d = refl
swaps false false true d = refl
swaps false false false d = refl

flips : (p q r : Bool) → (p || (q && r)) ≡ (p || (r && q))
flips true q r = refl
flips false true true = refl
flips false true false = refl
flips false false true = refl
flips false false false = refl

kept : (p q r : Bool) → q ≡ false → r ≡ false → p ≡ (p && (not q && not r))
kept p true r h k = absurd (both_ways true h refl)
kept p false true h k = absurd (both_ways true k refl)
kept true false false h k = refl
kept false false false h k = refl

no_pairs : (bodies : Bodies) (t : Table) → IsPairing bodies t [] []
no_pairs bodies t = record {
  are_open = λ k d h. absurd (omega arith);
  matching = λ i j d low h. absurd (omega arith);
  rest = λ r o. absurd (both_ways false refl o.one);
}

-- a pair's names
abbrev pub names_of_pair : Bodies → Pair → rules.Pair
names_of_pair bodies p = (name_at bodies p.one, name_at bodies p.other)

pairs_in : (ps : List Pair) (t : Table) (a b : ℕ) → is_in (paired t ps) a b ≡ (is_in t a b || list_any (λ p. is_pair p.one p.other a b) ps)
pairs_in [] t a b = sym (or_false (is_in t a b))
pairs_in (p ∷ ps) t a b =
    pairs_in ps (joined t p.one p.other) a b ∙ ap (λ q. q || list_any (λ r. is_pair r.one r.other a b) ps) (is_in_joined t p.one p.other a b)
    ∙ or_twice (is_in t a b) (is_pair p.one p.other a b) (list_any (λ r. is_pair r.one r.other a b) ps)

module _ (at new : ℕ → Option Node) (x m dim : ℕ) (ids : List ℕ) (good : AreLinksGood at m dim) (are : AreIds at ids) (live : IsSome (at x)) (out : IsTakenOut at new x (layers_at at x)) where
  mem : AreMembers (body_at at) (layers_at at) ids (members_of at dim ids)
  mem = are_members at m dim ids good are

  named : IsNamed (body_at at) ids (λ l. links_at at l) (named_links at ids)
  named = are_named at m dim ids good are

  live_x : is_live ids x ≡ true
  live_x = are.live x ∙ live

  table : (l : ℕ) → IsGoodTable (layers_at at) l (most_links m l) (links_at at l)
  table l = table_from at m dim l good

  abbrev pub without_x : Links
  without_x = without_links (name_of at x) (named_links at ids)

  abbrev pub pairs_at : ℕ → List Pair
  pairs_at l = cond (ltb l (layers_at at x)) (out.added l) []

  abbrev pub named_pairs : ℕ → List rules.Pair
  named_pairs l = map (names_of_pair (body_at at)) (pairs_at l)

  -- ---- names and ids

  same_id : (a b : ℕ) → is_live ids a ≡ true → is_live ids b ≡ true → same_name (name_of at a) (name_of at b) ≡ eqb b a
  same_id a b la lb =
      one_truth (same_name (name_of at a) (name_of at b)) (eqb b a) (λ h. eq-eqb b a (sym (mem.differ a b la lb ((bytes_eq-Decides (name_of at a) (name_of at b)).0 h))))
      (λ h. (bytes_eq-Decides (name_of at a) (name_of at b)).1 (ap (name_of at) (sym (eqb-true b a h))))

  same_pair : (p : Pair) (a b : ℕ) → is_live ids p.one ≡ true → is_live ids p.other ≡ true → is_live ids a ≡ true → is_live ids b ≡ true
      → defs.is_pair (name_of at p.one) (name_of at p.other) (name_of at a) (name_of at b) ≡ is_pair p.one p.other a b
  same_pair p a b lx ly la lb =
      ap (λ q. (q && same_name (name_of at p.other) (name_of at b)) || (same_name (name_of at p.one) (name_of at b) && same_name (name_of at p.other) (name_of at a))) (same_id p.one a lx la)
      ∙ ap (λ q. (eqb a p.one && q) || (same_name (name_of at p.one) (name_of at b) && same_name (name_of at p.other) (name_of at a))) (same_id p.other b ly lb)
      ∙ ap (λ q. (eqb a p.one && eqb b p.other) || (q && same_name (name_of at p.other) (name_of at a))) (same_id p.one b lx lb)
      ∙ ap (λ q. (eqb a p.one && eqb b p.other) || (eqb b p.one && q)) (same_id p.other a ly la) ∙ flips (eqb a p.one && eqb b p.other) (eqb b p.one) (eqb a p.other)

  same_share : (p r : Pair) → is_live ids p.one ≡ true → is_live ids p.other ≡ true → is_live ids r.one ≡ true → is_live ids r.other ≡ true
      → rules.share_a_name (names_of_pair (body_at at) p) (names_of_pair (body_at at) r) ≡ share p r
  same_share p r po pt ro rt =
      ap (λ q. ((q || same_name (name_of at p.one) (name_of at r.other)) || same_name (name_of at p.other) (name_of at r.one)) || same_name (name_of at p.other) (name_of at r.other)) (same_id p.one r.one po ro)
      ∙ ap (λ q. ((eqb r.one p.one || q) || same_name (name_of at p.other) (name_of at r.one)) || same_name (name_of at p.other) (name_of at r.other)) (same_id p.one r.other po rt)
      ∙ ap (λ q. ((eqb r.one p.one || eqb r.other p.one) || q) || same_name (name_of at p.other) (name_of at r.other)) (same_id p.other r.one pt ro)
      ∙ ap (λ q. ((eqb r.one p.one || eqb r.other p.one) || eqb r.one p.other) || q) (same_id p.other r.other pt rt)
      ∙ swaps (eqb r.one p.one) (eqb r.one p.other) (eqb r.other p.one) (eqb r.other p.other)

  same_order : (p r : Pair) → is_live ids p.one ≡ true → is_live ids p.other ≡ true → is_live ids r.one ≡ true → is_live ids r.other ≡ true
      → rules.pair_cmp (members_of at dim ids) (names_of_pair (body_at at) p) (names_of_pair (body_at at) r) ≡ pair_cmp (body_at at) p r
  same_order p r po pt ro rt =
      ap (λ k. ordering_then (nat_cmp k (defs.gap (members_of at dim ids) (name_of at r.one) (name_of at r.other))) (ordering_then (name_cmp (name_of at p.one) (name_of at r.one)) (name_cmp (name_of at p.other) (name_of at r.other))))
      (mem.gaps p.one p.other po pt)
      ∙ ap (λ k. ordering_then (nat_cmp (gap (body_at at) p.one p.other) k) (ordering_then (name_cmp (name_of at p.one) (name_of at r.one)) (name_cmp (name_of at p.other) (name_of at r.other))))
      (mem.gaps r.one r.other ro rt)

  -- ---- the links that stay

  stays : (l a b : ℕ) → is_live ids a ≡ true → is_live ids b ≡ true → without_x l (name_of at a) (name_of at b) ≡ is_in (detached (links_at at l) x) a b
  stays l a b la lb =
      ap (λ q. (q && not (same_name (name_of at x) (name_of at a))) && not (same_name (name_of at x) (name_of at b))) (named.same l a b la lb)
      ∙ ap (λ q. (is_in (links_at at l) a b && not q) && not (same_name (name_of at x) (name_of at b))) (same_id x a live_x la)
      ∙ ap (λ q. (is_in (links_at at l) a b && not (eqb a x)) && not q) (same_id x b live_x lb)
      ∙ and_twice (is_in (links_at at l) a b) (not (eqb a x)) (not (eqb b x)) ∙ sym (is_in_detached (links_at at l) x a b)

  -- ---- the pairs

  pairing_by : (l : ℕ) (c : Bool) → ltb l (layers_at at x) ≡ c → IsPairing (body_at at) (detached (links_at at l) x) (links_at at l x) (cond c (out.added l) [])
  pairing_by l true e = out.pairs l (ltb-true l (layers_at at x) e)
  pairing_by l false e =
      subst (λ f. IsPairing (body_at at) (detached (links_at at l) x) f []) (sym (no_layers l (at x) (ltb-false l (layers_at at x) e))) (no_pairs (body_at at) (detached (links_at at l) x))

  pairing : (l : ℕ) → IsPairing (body_at at) (detached (links_at at l) x) (links_at at l x) (pairs_at l)
  pairing l = pairing_by l (ltb l (layers_at at x)) refl

  pub live_former : (l y : ℕ) → is_in (links_at at l) x y ≡ true → is_live ids y ≡ true
  live_former l y h = mem.live l y ((table l).stand x y h)

  pub other_former : (l y : ℕ) → is_in (links_at at l) x y ≡ true → y ≢ x
  other_former l y h e = both_ways (is_in (links_at at l) x x) ((table l).apart x) (subst (λ k. is_in (links_at at l) x k ≡ true) e h)

  open_in : (l : ℕ) (p : Pair) → In p (pairs_at l) → IsOpen (body_at at) (detached (links_at at l) x) (links_at at l x) p
  open_in l p k = let c = in_contains p (pairs_at l) k in subst (IsOpen (body_at at) (detached (links_at at l) x) (links_at at l x)) c.2 ((pairing l).are_open c.0 p c.1)

  pub former_are : (l : ℕ) → neighbours (members_of at dim ids) (named_links at ids) l (name_of at x) ≡ map (name_of at) (filter (is_in (links_at at l) x) ids)
  former_are l =
      neighbours_are (body_at at) (layers_at at) ids (members_of at dim ids) mem (λ k. links_at at k) l (most_links m l) (links_at at l) (named_links at ids) (table l)
      (stands_first (body_at at) (layers_at at) ids (members_of at dim ids) mem (λ k. links_at at k) l (named_links at ids) named) x live_x

  abbrev pub Former : ℕ → List Bytes
  Former l = neighbours (members_of at dim ids) (named_links at ids) l (name_of at x)

  former_has : (l y : ℕ) → is_in (links_at at l) x y ≡ true → Contains (Former l) (name_of at y)
  former_has l y h =
      subst (λ f. Contains f (name_of at y)) (sym (former_are l))
      (in_contains (name_of at y) (map (name_of at) (filter (is_in (links_at at l) x) ids))
      (in_map (name_of at) y (filter (is_in (links_at at l) x) ids) (in_filter (is_in (links_at at l) x) y ids h (in_from_test y ids (live_former l y h)))))

  former_from : (l : ℕ) (name : Bytes) → Contains (Former l) name → (y : ℕ) × (is_in (links_at at l) x y ≡ true) × (name_of at y ≡ name)
  former_from l name h =
      let r = from_map (name_of at) name (filter (is_in (links_at at l) x) ids) (contains_in name (map (name_of at) (filter (is_in (links_at at l) x) ids)) (subst (λ f. Contains f name) (former_are l) h)) in
      (r.0, (from_filter (is_in (links_at at l) x) r.0 ids r.1).1, r.2)

  open_named : (l : ℕ) (p : Pair) → IsOpen (body_at at) (detached (links_at at l) x) (links_at at l x) p → rules.IsOpenPair without_x l (Former l) (names_of_pair (body_at at) p)
  open_named l p o = record {
    lesser = former_has l p.one o.one;
    greater = former_has l p.other o.other;
    order = o.order;
    unlinked = stays l p.one p.other (live_former l p.one o.one) (live_former l p.other o.other) ∙ o.unlinked;
  }

  at_pair : (l k : ℕ) (d : rules.Pair) → k < length (named_pairs l) → get_or (named_pairs l) k d ≡ names_of_pair (body_at at) (get_or (pairs_at l) k (record { one = 0; other = 0 }))
  at_pair l k d h = get_or-map (names_of_pair (body_at at)) (pairs_at l) k (record { one = 0; other = 0 }) d (subst (λ n. k < n) (length-map (pairs_at l) (names_of_pair (body_at at))) h)

  open_at : (l k : ℕ) → k < length (named_pairs l) → IsOpen (body_at at) (detached (links_at at l) x) (links_at at l x) (get_or (pairs_at l) k (record { one = 0; other = 0 }))
  open_at l k h = (pairing l).are_open k (record { one = 0; other = 0 }) (subst (λ n. k < n) (length-map (pairs_at l) (names_of_pair (body_at at))) h)

  rest_named : (l : ℕ) (q : Pair) → IsOpen (body_at at) (detached (links_at at l) x) (links_at at l x) q
      → Contains (pairs_at l) q ⊎ Any (λ p. (share p q ≡ true) × (pair_cmp (body_at at) p q ≡ Less)) (pairs_at l)
      → Contains (named_pairs l) (names_of_pair (body_at at) q)
      ⊎ Any (λ p. IsTrue (rules.share_a_name p (names_of_pair (body_at at) q)) × (rules.pair_cmp (members_of at dim ids) p (names_of_pair (body_at at) q) ≡ Less)) (named_pairs l)
  rest_named l q o (inl c) = inl (in_contains (names_of_pair (body_at at) q) (named_pairs l) (in_map (names_of_pair (body_at at)) q (pairs_at l) (contains_in q (pairs_at l) c)))
  rest_named l q o (inr (k, p, h, e, sb)) =
      let c = in_contains (names_of_pair (body_at at) p) (named_pairs l) (in_map (names_of_pair (body_at at)) p (pairs_at l) (contains_in p (pairs_at l) (k, h, e))) in
      let w = open_in l p (contains_in p (pairs_at l) (k, h, e)) in
      let po = live_former l p.one w.one in
      let pt = live_former l p.other w.other in
      let qo = live_former l q.one o.one in
      let qt = live_former l q.other o.other in
      inr (c.0, names_of_pair (body_at at) p, c.1, c.2, (same_share p q po pt qo qt ∙ sb.0, same_order p q po pt qo qt ∙ sb.1))

  pairs_up : (l : ℕ) → rules.PairsUp (members_of at dim ids) without_x l (Former l) (named_pairs l)
  pairs_up l = record {
    are_open = λ k d h. subst (rules.IsOpenPair without_x l (Former l)) (sym (at_pair l k d h)) (open_named l (get_or (pairs_at l) k (record { one = 0; other = 0 })) (open_at l k h));
    matching = λ i j d low h.
        let first : i < length (named_pairs l) = omega arith in
        let oi = open_at l i first in
        let oj = open_at l j h in
        subst (λ p. IsFalse (rules.share_a_name p (get_or (named_pairs l) j d))) (sym (at_pair l i d first))
        (subst (λ r. IsFalse (rules.share_a_name (names_of_pair (body_at at) (get_or (pairs_at l) i (record { one = 0; other = 0 }))) r)) (sym (at_pair l j d h))
        (same_share _ _ (live_former l _ oi.one) (live_former l _ oi.other) (live_former l _ oj.one) (live_former l _ oj.other)
        ∙ (pairing l).matching i j (record { one = 0; other = 0 }) low (subst (λ n. j < n) (length-map (pairs_at l) (names_of_pair (body_at at))) h)));
    rest = λ r o.
        let a = former_from l r.0 o.lesser in
        let b = former_from l r.1 o.greater in
        let q : Pair = record { one = a.0; other = b.0 } in
        let open_q : IsOpen (body_at at) (detached (links_at at l) x) (links_at at l x) q = record {
          one = a.1;
          other = b.1;
          order = (λ i. name_cmp (a.2 i) (b.2 i)) ∙ o.order;
          unlinked = sym (stays l a.0 b.0 (live_former l a.0 a.1) (live_former l b.0 b.1)) ∙ (λ i. without_x l (a.2 i) (b.2 i)) ∙ o.unlinked;
        } in
        let same : names_of_pair (body_at at) q ≡ r = λ i. (a.2 i, b.2 i) in
        subst (λ z. Contains (named_pairs l) z ⊎ Any (λ p. IsTrue (rules.share_a_name p z) × (rules.pair_cmp (members_of at dim ids) p z ≡ Less)) (named_pairs l)) same (rest_named l q open_q ((pairing l).rest q open_q));
  }

  -- ---- who is left

  live_by : (id : ℕ) (b : Bool) → eqb id x ≡ b → (is_live ids id && not b) ≡ is_some (new id)
  live_by id true e = and-false (is_live ids id) ∙ sym (ap is_some (ap new (eqb-true id x e) ∙ out.gone))
  live_by id false e = and-true (is_live ids id) ∙ are.live id ∙ sym (live_bare (at id)) ∙ sym (ap is_some (out.rest id (eqb-false id x e))) ∙ live_bare (new id)

  pub are_left : AreIds new (without x ids)
  are_left = record {
    once = distinct_without x ids are.once;
    live = λ id. has_without x id ids ∙ live_by id (eqb id x) refl;
  }

  was_live : (a : ℕ) → is_live (without x ids) a ≡ true → is_live ids a ≡ true
  was_live a h = (and_parts (is_live ids a) (not (eqb a x)) (sym (has_without x a ids) ∙ h)).0

  other : (a : ℕ) → is_live (without x ids) a ≡ true → a ≢ x
  other a h = eqb-false a x (not-true (eqb a x) (and_parts (is_live ids a) (not (eqb a x)) (sym (has_without x a ids) ∙ h)).1)

  pub still : (a : ℕ) → is_live ids a ≡ true → a ≢ x → is_live (without x ids) a ≡ true
  still a h ne = has_without x a ids ∙ and_from (is_live ids a) (not (eqb a x)) h (not_from_false (eqb a x) (ne_eqb a x ne))

  pub name_new : (a : ℕ) → a ≢ x → name_at (body_at new) a ≡ name_of at a
  name_new a ne = ap (λ o. option_map_or (λ body. body.name) o []) (sym (body_bare (new a)) ∙ ap (option_map (λ node. node.body)) (out.rest a ne) ∙ body_bare (at a))

  now_named : IsNamed (body_at new) (without x ids) (λ l. links_at new l) (named_links new (without x ids))
  now_named = are_named new m dim (without x ids) (out.good m dim good) are_left

  left_named : IsNamed (body_at at) (without x ids) (λ l. links_at new l) (named_links new (without x ids))
  left_named = record {
    same = λ l a b la lb. ap (λ q. named_links new (without x ids) l q (name_of at b)) (sym (name_new a (other a la)))
        ∙ ap (λ q. named_links new (without x ids) l (name_at (body_at new) a) q) (sym (name_new b (other b lb))) ∙ now_named.same l a b la lb;
    within = λ l A B h. (let r = now_named.within l A B h in (carry A r.0, carry B r.1));
  } where
    carry : (A : Bytes) → IsLiveName (body_at new) (without x ids) A → IsLiveName (body_at at) (without x ids) A
    carry A r = (r.0, r.1, sym (name_new r.0 (other r.0 r.1)) ∙ r.2)

  now_by : (l a b : ℕ) (c : Bool) → ltb l (layers_at at x) ≡ c → a ≢ x → b ≢ x → is_in (links_at new l) a b ≡ is_in (paired (detached (links_at at l) x) (cond c (out.added l) [])) a b
  now_by l a b true e na nb = ap (list_any (nat_eq b)) (out.below l a (ltb-true l (layers_at at x) e) na)
  now_by l a b false e na nb =
      ap (list_any (nat_eq b)) (out.above l a (ltb-false l (layers_at at x) e) na) ∙ kept (is_in (links_at at l) a b) (eqb a x) (eqb b x) (ne_eqb a x na) (ne_eqb b x nb) ∙ sym (is_in_detached (links_at at l) x a b)

  pairs_named : (l : ℕ) (ps : List Pair) (a b : ℕ) → ((p : Pair) → In p ps → IsOpen (body_at at) (detached (links_at at l) x) (links_at at l x) p) → is_live ids a ≡ true → is_live ids b ≡ true
      → list_any (λ p. defs.is_pair p.0 p.1 (name_of at a) (name_of at b)) (map (names_of_pair (body_at at)) ps) ≡ list_any (λ p. is_pair p.one p.other a b) ps
  pairs_named l [] a b opens la lb = refl
  pairs_named l (p ∷ ps) a b opens la lb =
      let o = opens p (inl refl) in
      ap (λ q. q || list_any (λ r. defs.is_pair r.0 r.1 (name_of at a) (name_of at b)) (map (names_of_pair (body_at at)) ps)) (same_pair p a b (live_former l p.one o.one) (live_former l p.other o.other) la lb)
      ∙ ap (λ q. is_pair p.one p.other a b || q) (pairs_named l ps a b (λ r k. opens r (inr k)) la lb)

  left_of : (A : Bytes) → IsLiveName (body_at at) ids A → not (same_name (name_of at x) A) ≡ true → IsLiveName (body_at at) (without x ids) A
  left_of A r h = (r.0, still r.0 r.1 (λ s. both_ways (same_name (name_of at x) A) (not-true (same_name (name_of at x) A) h) ((bytes_eq-Decides (name_of at x) A).1 (ap (name_of at) (sym s) ∙ r.2))), r.2)

  is_former : (l y : ℕ) (A : Bytes) → is_in (links_at at l) x y ≡ true → same_name (name_of at y) A ≡ true → IsLiveName (body_at at) (without x ids) A
  is_former l y A h s = (y, still y (live_former l y h) (other_former l y h), (bytes_eq-Decides (name_of at y) A).0 s)

  pair_left : (l : ℕ) (p : Pair) (A B : Bytes) → IsOpen (body_at at) (detached (links_at at l) x) (links_at at l x) p → defs.is_pair (name_of at p.one) (name_of at p.other) A B ≡ true
      → IsLiveName (body_at at) (without x ids) A × IsLiveName (body_at at) (without x ids) B
  pair_left l p A B o h =
      elim (or_cases (same_name (name_of at p.one) A && same_name (name_of at p.other) B) (same_name (name_of at p.one) B && same_name (name_of at p.other) A) h) [
        | inl k ↦ (let s = and_parts (same_name (name_of at p.one) A) (same_name (name_of at p.other) B) k in (is_former l p.one A o.one s.0, is_former l p.other B o.other s.1))
        | inr k ↦ (let s = and_parts (same_name (name_of at p.one) B) (same_name (name_of at p.other) A) k in (is_former l p.other A o.other s.1, is_former l p.one B o.one s.0))
      ]

  with_named : IsNamed (body_at at) (without x ids) (λ l. links_at new l) (rules.with_pairs without_x named_pairs)
  with_named = record {
    same = λ l a b la lb. ap (λ q. q || list_any (λ p. defs.is_pair p.0 p.1 (name_of at a) (name_of at b)) (named_pairs l)) (stays l a b (was_live a la) (was_live b lb))
        ∙ ap (λ q. is_in (detached (links_at at l) x) a b || q) (pairs_named l (pairs_at l) a b (open_in l) (was_live a la) (was_live b lb))
        ∙ sym (pairs_in (pairs_at l) (detached (links_at at l) x) a b) ∙ sym (now_by l a b (ltb l (layers_at at x)) refl (other a la) (other b lb));
    within = λ l A B h. elim (or_cases (without_x l A B) (list_any (λ p. defs.is_pair p.0 p.1 A B) (named_pairs l)) h) [
      | inl k ↦ (
          let outer = and_parts (named_links at ids l A B && not (same_name (name_of at x) A)) (not (same_name (name_of at x) B)) k in
          let inner = and_parts (named_links at ids l A B) (not (same_name (name_of at x) A)) outer.0 in
          let r = named.within l A B inner.0 in
          (left_of A r.0 inner.1, left_of B r.1 outer.1))
      | inr k ↦ (
          let z = any_in (λ p. defs.is_pair p.0 p.1 A B) (named_pairs l) k in
          let p = from_map (names_of_pair (body_at at)) z.0 (pairs_at l) z.1 in
          pair_left l p.0 A B (open_in l p.0 p.1) (ap (λ r. defs.is_pair r.0 r.1 A B) p.2 ∙ z.2))
    ];
  }

  pub unlinks_named : (cut : ℕ) (entry : Option ℕ) → rules.Unlinks (set_of at entry m dim cut ids) (name_of at x) (named_links new (without x ids))
  unlinks_named cut entry = record {
    added = named_pairs;
    pairs = pairs_up;
    links_are = names_fixed (body_at at) (without x ids) (λ l. links_at new l) (named_links new (without x ids)) (rules.with_pairs without_x named_pairs) left_named with_named;
  }
