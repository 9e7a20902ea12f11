-- What the farthest and the nearest of some ids are, by ids and by names.
use Rattle.std.proofs.Common.{◌≡◌, ℕ, Bool, true, false, cond, List, [], ◌∷◌, length, map, refl, sym, ap, ◌∙◌, subst, arith, inl, inr, ◌⊎◌}
use Rattle.std.specs.Prelude.{Some, None, fold, filter, find, is_some, nat_eq, nat_lt, option_map}
use Rattle.std.specs.List.{list_any}
use Rattle.std.specs.Cmp.{IsTotalOrder}
use Rattle.std.specs.Ordering.{is_gt, is_lt, nat_cmp, ordering_then}
use Rattle.std.specs.declared.option.Option.{Option}
use Rattle.std.specs.declared.cmp.Ordering.TheVariants.{Less, Equal}
use Rattle.std.proofs.lemmas.Cmp.{upto, tied_itself, then_total, on_total, nat_cmp_total, nat_list_cmp_total}
use Rattle.std.proofs.lemmas.Map.Lookups.{exact_bytes}
use Rattle.std.proofs.lemmas.Option.{same_Some}
use Rattle.std.proofs.lemmas.Bool.{both_ways}
use Rattle.vs_defs.specs.Bytes.{Bytes, name_cmp, sort_by, last_in}
use Rattle.vs_defs.specs.Store.{Member}
use Rattle.vs_defs.specs.Links.{Links, neighbours, capacity, nearness_to, by_nearness_to}
use Rattle.vs_defs.specs.Links as defs
use Rattle.vs_defs.specs.Linking as rules
use Rattle.vs_graph.specs.Bodies.{Bodies, gap, name_at, nearness}
use Rattle.vs_graph.specs.Table.{Table, is_in}
use Rattle.vs_graph.specs.GoodTable.{IsGoodTable}
use Rattle.vs_graph.specs.Named.{is_live, AreMembers}
use Rattle.vs_graph.proofs.Sorts.{In, in_map, from_map, in_filter, from_filter, sorted_is, from_sort, in_sort, last_is, find_is, find_none, less_or_same, gt_back, lt_is_gt, in_from_test, test_from_in}
use Rattle.vs_graph.proofs.Naming.{Stands, none_pass, neighbours_are, live_one, degree_same}
use Rattle.vs_laws.proofs.Tests.{second_equal}
use Rattle.vs_link.specs.Picks.{later, earlier, farthest, nearest}
use Rattle.vs_link.specs.Linked.{has_room}
use Rattle.vs_link.proofs.Picked.{farthest_in, nearest_in, farthest_some, nearest_some, filter_in}

pub near_total : (bodies : Bodies) (y : ℕ) → IsTotalOrder (nearness bodies y)
near_total bodies y = then_total (on_total (gap bodies y) nat_cmp_total) (on_total (name_at bodies) nat_list_cmp_total)

-- members that tie have one name
pub tied_names : (bodies : Bodies) (y a b : ℕ) → nearness bodies y a b ≡ Equal → name_at bodies a ≡ name_at bodies b
tied_names bodies y a b h = exact_bytes (name_at bodies a) (name_at bodies b) (second_equal (nat_cmp (gap bodies y a) (gap bodies y b)) _ h)

module _ (bodies : Bodies) (y : ℕ) where
  gt_itself : (b w : ℕ) → ◌≡◌ {A = Option ℕ} (Some b) (Some w) → is_gt (nearness bodies y b w) ≡ false
  gt_itself b w e = ap (λ k. is_gt (nearness bodies y b k)) (sym (same_Some b w e)) ∙ ap is_gt (tied_itself (near_total bodies y) b)

  below_by : (x b w : ℕ) (xs : List ℕ) (c : Bool) → is_gt (nearness bodies y x b) ≡ c
      → ((v : ℕ) → fold (later bodies y) (Some v) xs ≡ Some w → (is_gt (nearness bodies y v w) ≡ false) × ((z : ℕ) → In z xs → is_gt (nearness bodies y z w) ≡ false))
      → fold (later bodies y) (cond c (Some x) (Some b)) xs ≡ Some w → (is_gt (nearness bodies y b w) ≡ false) × ((z : ℕ) → In z (x ∷ xs) → is_gt (nearness bodies y z w) ≡ false)
  below_by x b w xs true e f h =
      let r = f x h in
      (upto (near_total bodies y) b x w (gt_back (nearness bodies y) (near_total bodies y) x b e) r.0, λ z k. elim k [ inl s ↦ ap (λ q. is_gt (nearness bodies y q w)) s ∙ r.0 | inr i ↦ r.1 z i ])
  below_by x b w xs false e f h =
      let r = f b h in
      (r.0, λ z k. elim k [ inl s ↦ ap (λ q. is_gt (nearness bodies y q w)) s ∙ upto (near_total bodies y) x b w e r.0 | inr i ↦ r.1 z i ])

  later_below : (xs : List ℕ) (b w : ℕ) → fold (later bodies y) (Some b) xs ≡ Some w → (is_gt (nearness bodies y b w) ≡ false) × ((z : ℕ) → In z xs → is_gt (nearness bodies y z w) ≡ false)
  later_below [] b w h = (gt_itself b w h, λ z k. absurd k)
  later_below (x ∷ xs) b w h = below_by x b w xs (is_gt (nearness bodies y x b)) refl (λ v. later_below xs v w) h

  -- no other is farther
  pub farthest_max : (ids : List ℕ) (w : ℕ) → farthest bodies y ids ≡ Some w → (z : ℕ) → In z ids → is_gt (nearness bodies y z w) ≡ false
  farthest_max [] w h z k = absurd k
  farthest_max (x ∷ xs) w h z (inl e) = ap (λ q. is_gt (nearness bodies y q w)) e ∙ (later_below xs x w h).0
  farthest_max (x ∷ xs) w h z (inr k) = (later_below xs x w h).1 z k

  above_by : (x b w : ℕ) (xs : List ℕ) (c : Bool) → is_lt (nearness bodies y x b) ≡ c
      → ((v : ℕ) → fold (earlier bodies y) (Some v) xs ≡ Some w → (is_gt (nearness bodies y w v) ≡ false) × ((z : ℕ) → In z xs → is_gt (nearness bodies y w z) ≡ false))
      → fold (earlier bodies y) (cond c (Some x) (Some b)) xs ≡ Some w → (is_gt (nearness bodies y w b) ≡ false) × ((z : ℕ) → In z (x ∷ xs) → is_gt (nearness bodies y w z) ≡ false)
  above_by x b w xs true e f h =
      let r = f x h in
      let back : is_gt (nearness bodies y x b) ≡ false = gt_back (nearness bodies y) (near_total bodies y) b x (sym (lt_is_gt (nearness bodies y) (near_total bodies y) x b) ∙ e) in
      (upto (near_total bodies y) w x b r.0 back, λ z k. elim k [ inl s ↦ ap (λ q. is_gt (nearness bodies y w q)) s ∙ r.0 | inr i ↦ r.1 z i ])
  above_by x b w xs false e f h =
      let r = f b h in
      let back : is_gt (nearness bodies y b x) ≡ false = sym (lt_is_gt (nearness bodies y) (near_total bodies y) x b) ∙ e in
      (r.0, λ z k. elim k [ inl s ↦ ap (λ q. is_gt (nearness bodies y w q)) s ∙ upto (near_total bodies y) w b x r.0 back | inr i ↦ r.1 z i ])

  earlier_above : (xs : List ℕ) (b w : ℕ) → fold (earlier bodies y) (Some b) xs ≡ Some w → (is_gt (nearness bodies y w b) ≡ false) × ((z : ℕ) → In z xs → is_gt (nearness bodies y w z) ≡ false)
  earlier_above [] b w h = (ap (λ k. is_gt (nearness bodies y k b)) (sym (same_Some b w h)) ∙ ap is_gt (tied_itself (near_total bodies y) b), λ z k. absurd k)
  earlier_above (x ∷ xs) b w h = above_by x b w xs (is_lt (nearness bodies y x b)) refl (λ v. earlier_above xs v w) h

  -- no other is nearer
  pub nearest_min : (ids : List ℕ) (w : ℕ) → nearest bodies y ids ≡ Some w → (z : ℕ) → In z ids → is_gt (nearness bodies y w z) ≡ false
  nearest_min [] w h z k = absurd k
  nearest_min (x ∷ xs) w h z (inl e) = ap (λ q. is_gt (nearness bodies y w q)) e ∙ (earlier_above xs x w h).0
  nearest_min (x ∷ xs) w h z (inr k) = (earlier_above xs x w h).1 z k

  pub farthest_none : (ids : List ℕ) → farthest bodies y ids ≡ None → ids ≡ []
  farthest_none [] h = refl
  farthest_none (x ∷ xs) h = absurd (both_ways (is_some (farthest bodies y (x ∷ xs))) (ap is_some h) (farthest_some bodies y (x ∷ xs) (omega arith)))

  pub nearest_none : (ids : List ℕ) → nearest bodies y ids ≡ None → ids ≡ []
  nearest_none [] h = refl
  nearest_none (x ∷ xs) h = absurd (both_ways (is_some (nearest bodies y (x ∷ xs))) (ap is_some h) (nearest_some bodies y (x ∷ xs) (omega arith)))

-- ---- by names

module _ (bodies : Bodies) (layers : ℕ → ℕ) (ids : List ℕ) (members : List Member) (are : AreMembers bodies layers ids members) (tables : ℕ → Table) (layer : ℕ) where
  module _ (m most : ℕ) (t : Table) (links : Links) (good : IsGoodTable layers layer most t) (h : Stands bodies layers ids members are tables layer t links) where
    near_same : (y a b : ℕ) → is_live ids y ≡ true → is_live ids a ≡ true → is_live ids b ≡ true → nearness_to members (name_at bodies y) (name_at bodies a) (name_at bodies b) ≡ nearness bodies y a b
    near_same y a b ly la lb =
        ap (λ q. ordering_then (nat_cmp q (defs.gap members (name_at bodies y) (name_at bodies b))) (name_cmp (name_at bodies a) (name_at bodies b))) (are.gaps y a ly la)
        ∙ ap (λ q. ordering_then (nat_cmp (gap bodies y a) q) (name_cmp (name_at bodies a) (name_at bodies b))) (are.gaps y b ly lb)

    names_total : (y : Bytes) → IsTotalOrder (nearness_to members y)
    names_total y = then_total (on_total (defs.gap members y) nat_cmp_total) nat_list_cmp_total

    -- in order, or of one name
    less_or_name : (y a b : ℕ) → is_live ids y ≡ true → is_live ids a ≡ true → is_live ids b ≡ true → is_gt (nearness bodies y a b) ≡ false
        → (name_at bodies a ≡ name_at bodies b) ⊎ (nearness_to members (name_at bodies y) (name_at bodies a) (name_at bodies b) ≡ Less)
    less_or_name y a b ly la lb k = elim (less_or_same (nearness bodies y a b) k) [
      | inl e ↦ inr (near_same y a b ly la lb ∙ e)
      | inr e ↦ inl (tied_names bodies y a b e)
    ]

    farthest_by : (y : ℕ) → is_live ids y ≡ true → (o : Option ℕ) → farthest bodies y (t y) ≡ o → last_in (sort_by (nearness_to members (name_at bodies y)) (map (name_at bodies) (filter (is_in t y) ids))) ≡ option_map (name_at bodies) o
    farthest_by y ly None e =
        ap (λ l. last_in (sort_by (nearness_to members (name_at bodies y)) (map (name_at bodies) l))) (none_pass (is_in t y) ids (λ z. ap (list_any (nat_eq z)) (farthest_none bodies y (t y) e)))
    farthest_by y ly (Some w) e =
        let R = nearness_to members (name_at bodies y) in
        let xs = map (name_at bodies) (filter (is_in t y) ids) in
        let at_y : is_in t y w ≡ true = farthest_in bodies y (t y) w e in
        let lw : is_live ids w ≡ true = live_one bodies layers ids members are tables layer most t links good h y w at_y in
        last_is R (names_total (name_at bodies y)) (name_at bodies w) (sort_by R xs) (sorted_is R (names_total (name_at bodies y)) xs)
        (in_sort R (names_total (name_at bodies y)) (name_at bodies w) xs (in_map (name_at bodies) w (filter (is_in t y) ids) (in_filter (is_in t y) w ids at_y (in_from_test w ids lw))))
        (λ z k.
        let i = from_map (name_at bodies) z (filter (is_in t y) ids) (from_sort R (names_total (name_at bodies y)) z xs k) in
        let p = from_filter (is_in t y) i.0 ids i.1 in
        subst (λ q. (q ≡ name_at bodies w) ⊎ (R q (name_at bodies w) ≡ Less)) i.2
        (less_or_name y i.0 w ly (test_from_in i.0 ids p.0) lw (farthest_max bodies y (t y) w e i.0 (in_from_test i.0 (t y) p.1))))

    pub farthest_same : (y : ℕ) → is_live ids y ≡ true → rules.farthest m members links layer (name_at bodies y) ≡ option_map (name_at bodies) (farthest bodies y (t y))
    farthest_same y ly = ap (λ l. last_in (sort_by (nearness_to members (name_at bodies y)) l)) (neighbours_are bodies layers ids members are tables layer most t links good h y ly) ∙ farthest_by y ly (farthest bodies y (t y)) refl

    -- ---- a neighbour with room

    module _ (bound : capacity m layer ≡ most) where
      pub room_same : (a : ℕ) → is_live ids a ≡ true → defs.has_room m members links layer (name_at bodies a) ≡ has_room most t a
      room_same a la = ap (λ n. nat_lt n (capacity m layer)) (degree_same bodies layers ids members are tables layer most t links good h a la) ∙ ap (nat_lt (length (t a))) bound

      nearest_by : (x y : ℕ) → is_live ids x ≡ true → is_live ids y ≡ true → (o : Option ℕ) → nearest bodies x (filter (has_room most t) (t y)) ≡ o
          → find (defs.has_room m members links layer) (sort_by (nearness_to members (name_at bodies x)) (map (name_at bodies) (filter (is_in t y) ids))) ≡ option_map (name_at bodies) o
      nearest_by x y lx ly None e =
          let R = nearness_to members (name_at bodies x) in
          let xs = map (name_at bodies) (filter (is_in t y) ids) in
          let nobody : filter (has_room most t) (t y) ≡ [] = nearest_none bodies x (filter (has_room most t) (t y)) e in
          find_none R (names_total (name_at bodies x)) (defs.has_room m members links layer) (sort_by R xs)
          (λ z k.
          let i = from_map (name_at bodies) z (filter (is_in t y) ids) (from_sort R (names_total (name_at bodies x)) z xs k) in
          let p = from_filter (is_in t y) i.0 ids i.1 in
          ap (defs.has_room m members links layer) (sym i.2) ∙ room_same i.0 (test_from_in i.0 ids p.0)
          ∙ no_room (has_room most t i.0) (λ r. subst (In i.0) nobody (in_filter (has_room most t) i.0 (t y) r (in_from_test i.0 (t y) p.1)))) where
            no_room : (b : Bool) → (b ≡ true → ⊥) → b ≡ false
            no_room true f = absurd (f refl)
            no_room false f = refl
      nearest_by x y lx ly (Some w) e =
          let R = nearness_to members (name_at bodies x) in
          let xs = map (name_at bodies) (filter (is_in t y) ids) in
          let found = filter_in (has_room most t) w (t y) (nearest_in bodies x (filter (has_room most t) (t y)) w e) in
          let lw : is_live ids w ≡ true = live_one bodies layers ids members are tables layer most t links good h y w found.0 in
          find_is R (names_total (name_at bodies x)) (defs.has_room m members links layer) (name_at bodies w) (sort_by R xs) (sorted_is R (names_total (name_at bodies x)) xs)
          (in_sort R (names_total (name_at bodies x)) (name_at bodies w) xs (in_map (name_at bodies) w (filter (is_in t y) ids) (in_filter (is_in t y) w ids found.0 (in_from_test w ids lw)))) (room_same w lw ∙ found.1)
          (λ z k r.
          let i = from_map (name_at bodies) z (filter (is_in t y) ids) (from_sort R (names_total (name_at bodies x)) z xs k) in
          let p = from_filter (is_in t y) i.0 ids i.1 in
          let li : is_live ids i.0 ≡ true = test_from_in i.0 ids p.0 in
          let room : has_room most t i.0 ≡ true = sym (room_same i.0 li) ∙ ap (defs.has_room m members links layer) i.2 ∙ r in
          subst (λ q. (q ≡ name_at bodies w) ⊎ (R (name_at bodies w) q ≡ Less)) i.2
          (turned (name_at bodies w) (name_at bodies i.0) (R (name_at bodies w) (name_at bodies i.0) ≡ Less)
          (less_or_name x w i.0 lx lw li (nearest_min bodies x (filter (has_room most t) (t y)) w e i.0 (in_filter (has_room most t) i.0 (t y) room (in_from_test i.0 (t y) p.1)))))) where
            turned : (a b : Bytes) (P : Type 0) → (a ≡ b) ⊎ P → (b ≡ a) ⊎ P
            turned a b P (inl s) = inl (sym s)
            turned a b P (inr s) = inr s

      pub nearest_same : (x y : ℕ) → is_live ids x ≡ true → is_live ids y ≡ true
          → find (defs.has_room m members links layer) (by_nearness_to members (name_at bodies x) (neighbours members links layer (name_at bodies y))) ≡ option_map (name_at bodies) (nearest bodies x (filter (has_room most t) (t y)))
      nearest_same x y lx ly =
          ap (λ l. find (defs.has_room m members links layer) (sort_by (nearness_to members (name_at bodies x)) l)) (neighbours_are bodies layers ids members are tables layer most t links good h y ly) ∙ nearest_by x y lx ly (nearest bodies x (filter (has_room most t) (t y))) refl
