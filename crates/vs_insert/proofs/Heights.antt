-- The highest of the members but one, by ids and by names.
use Rattle.std.proofs.Common.{◌≡◌, ◌≢◌, ◌⊎◌, ℕ, ◌+◌, ◌<◌, true, false, not, eqb, List, [], ◌∷◌, refl, sym, ap, ◌∙◌, subst, arith, inl, inr}
use Rattle.std.specs.Prelude.{Some, None, IsSome, is_some, IsSomeAnd, IfSome, find, option_map}
use Rattle.std.specs.Option.{option_map_or}
use Rattle.std.specs.Ordering.{is_lt, is_gt}
use Rattle.std.specs.Cmp.{IsTotalOrder}
use Rattle.std.specs.declared.cmp.Ordering.TheVariants.{Less}
use Rattle.std.specs.declared.option.Option.{Option}
use Rattle.std.proofs.lemmas.Bool.{cases_eq, both_ways, eqb-false, ne_eqb, not_from_false, not-true, false_from_ne_true}
use Rattle.std.proofs.lemmas.Option.{same_Some}
use Rattle.std.proofs.lemmas.Cmp.{nat_cmp_total, nat_list_cmp_total, then_total, on_total, back_total, upto}
use Rattle.std.proofs.lemmas.Map.Lookups.{exact_bytes}
use Rattle.vs_defs.specs.Bytes.{sort_by, first_in}
use Rattle.vs_defs.specs.Store.{Member, no_member}
use Rattle.vs_defs.specs.Removal as rules
use Rattle.vs_graph.specs.declared.node.Node.{Node}
use Rattle.vs_graph.specs.Good.{AreLinksGood}
use Rattle.vs_graph.specs.Named.{is_live}
use Rattle.vs_graph.specs.Standing.{AreIds, member_of_node, member_at, members_of, name_of}
use Rattle.vs_graph.proofs.Sorts.{In, in_map, from_map, in_filter, from_filter, in_from_test, test_from_in, find_is, sorted_is, in_sort, from_sort, less_or_same, lt_is_gt, gt_back}
use Rattle.vs_graph.proofs.Standing.{member_name, names_differ}
use Rattle.vs_graph.specs.Table.{without}
use Rattle.vs_laws.proofs.Tests.{second_equal}
use Rattle.vs_unlink.proofs.Leavings.{members_left}
use Rattle.vs_insert.specs.Height.{height, IsHighestBelow}
use Rattle.vs_beam.proofs.Visits.{some_and}

-- ---- the order

member_total : IsTotalOrder rules.height
member_total = then_total (on_total (λ (x : Member). x.level) (back_total nat_cmp_total)) (on_total (λ (x : Member). x.name) nat_list_cmp_total)

node_total : IsTotalOrder height
node_total = then_total (on_total (λ (x : Node). x.level) (back_total nat_cmp_total)) (on_total (λ (x : Node). x.body.name) nat_list_cmp_total)

not_above_itself : (n : Node) → is_gt (height n n) ≡ false
not_above_itself n = false_from_ne_true (is_gt (height n n)) (λ h. both_ways (is_gt (height n n)) (gt_back height node_total n n h) h)

-- ---- one id more

module _ (at : ℕ → Option Node) (but id : ℕ) where
  pub still_none : IsHighestBelow at but id None → at id ≡ None → IsHighestBelow at but (id + 1) None
  still_none h none = λ q low ne. elim (cases_eq q id) [ inl is ↦ ap at is ∙ none | inr other ↦ h q (omega (arith, low, other)) ne ]

  wider : (n : Node) → IfSome (at id) (λ k. is_gt (height n k) ≡ false) → ((q : ℕ) → q < id → q ≢ but → IfSome (at q) (λ k. is_gt (height n k) ≡ false))
      → (q : ℕ) → q < id + 1 → q ≢ but → IfSome (at q) (λ k. is_gt (height n k) ≡ false)
  wider n here below q low ne =
      elim (cases_eq q id) [ inl is ↦ subst (λ i. IfSome (at i) (λ k. is_gt (height n k) ≡ false)) (sym is) here | inr other ↦ below q (omega (arith, low, other)) ne ]

  -- the best stays
  pub still_best : (b : ℕ) → IsHighestBelow at but id (Some b) → ((n : Node) → at b ≡ Some n → IfSome (at id) (λ k. is_gt (height n k) ≡ false)) → IsHighestBelow at but (id + 1) (Some b)
  still_best b h here = (h.0, by_node (at b) refl h.1) where
    by_node : (o : Option Node) → at b ≡ o → IsSomeAnd o (λ n. (q : ℕ) → q < id → q ≢ but → IfSome (at q) (λ k. is_gt (height n k) ≡ false))
        → IsSomeAnd o (λ n. (q : ℕ) → q < id + 1 → q ≢ but → IfSome (at q) (λ k. is_gt (height n k) ≡ false))
    by_node None e k = k
    by_node (Some n) e k = wider n (here n e) k

  pub none_passes : (b : ℕ) → at id ≡ None → IsHighestBelow at but id (Some b) → IsHighestBelow at but (id + 1) (Some b)
  none_passes b none h = still_best b h (λ n e. subst (λ o. IfSome o (λ k. is_gt (height n k) ≡ false)) (sym none) tt)

  pub lower_passes : (b : ℕ) (node other : Node) → at id ≡ Some node → at b ≡ Some other → is_lt (height node other) ≡ false → IsHighestBelow at but id (Some b) → IsHighestBelow at but (id + 1) (Some b)
  lower_passes b node other is was low h =
      still_best b h (λ n e. subst (λ o. IfSome o (λ k. is_gt (height n k) ≡ false)) (sym is)
      (subst (λ z. is_gt (height z node) ≡ false) (same_Some other n (sym was ∙ e)) (sym (lt_is_gt height node_total node other) ∙ low)))

  -- a new best
  new_best : (node : Node) → at id ≡ Some node → id ≢ but → ((q : ℕ) → q < id → q ≢ but → IfSome (at q) (λ k. is_gt (height node k) ≡ false)) → IsHighestBelow at but (id + 1) (Some id)
  new_best node is ne below = (
    ne,
    subst (λ o. IsSomeAnd o (λ n. (q : ℕ) → q < id + 1 → q ≢ but → IfSome (at q) (λ k. is_gt (height n k) ≡ false))) (sym is)
        (wider node (subst (λ o. IfSome o (λ k. is_gt (height node k) ≡ false)) (sym is) (not_above_itself node)) below),
  )

  pub first_best : (node : Node) → at id ≡ Some node → id ≢ but → IsHighestBelow at but id None → IsHighestBelow at but (id + 1) (Some id)
  first_best node is ne h = new_best node is ne (λ q low other. subst (λ o. IfSome o (λ k. is_gt (height node k) ≡ false)) (sym (h q low other)) tt)

  pub higher_best : (b : ℕ) (node other : Node) → at id ≡ Some node → at b ≡ Some other → id ≢ but → is_lt (height node other) ≡ true → IsHighestBelow at but id (Some b) → IsHighestBelow at but (id + 1) (Some id)
  higher_best b node other is was ne up h =
      let below = subst (λ o. IsSomeAnd o (λ n. (q : ℕ) → q < id → q ≢ but → IfSome (at q) (λ k. is_gt (height n k) ≡ false))) was h.1 in
      let not_above : is_gt (height node other) ≡ false = gt_back height node_total other node (sym (lt_is_gt height node_total node other) ∙ up) in
      new_best node is ne (λ q low apart. through (at q) (below q low apart) not_above) where
        through : (o : Option Node) → IfSome o (λ k. is_gt (height other k) ≡ false) → is_gt (height node other) ≡ false → IfSome o (λ k. is_gt (height node k) ≡ false)
        through None f g = tt
        through (Some k) f g = upto node_total node other k g f

-- ---- by names

first_find : (ys : List Member) → find (λ (z : Member). true) ys ≡ first_in ys
first_find [] = refl
first_find (y ∷ ys) = refl

heights : (dim : ℕ) (o p : Option Node) → IsSomeAnd o (λ n. IfSome p (λ k. is_gt (height n k) ≡ false)) → IsSome p
    → is_gt (rules.height (option_map_or (member_of_node dim) o no_member) (option_map_or (member_of_node dim) p no_member)) ≡ false
heights dim None p h some = absurd h
heights dim (Some n) None h some = absurd (both_ways false refl some)
heights dim (Some n) (Some k) h some = h

spread : (at : ℕ → Option Node) (but count q : ℕ) (o : Option Node) → IsSomeAnd o (λ n. (q : ℕ) → q < count → q ≢ but → IfSome (at q) (λ k. is_gt (height n k) ≡ false)) → q < count → q ≢ but
    → IsSomeAnd o (λ n. IfSome (at q) (λ k. is_gt (height n k) ≡ false))
spread at but count q None h low ne = h
spread at but count q (Some n) h low ne = h q low ne

module _ (at : ℕ → Option Node) (m dim : ℕ) (ids : List ℕ) (good : AreLinksGood at m dim) (are : AreIds at ids) (but count : ℕ) (low : (q : ℕ) → IsSome (at q) → q < count) where
  abbrev others : List Member
  others = members_of at dim (without but ids)

  other_id : (q : ℕ) → In q (without but ids) → In q ids × (q ≢ but)
  other_id q inside = let f = from_filter (λ z. not (eqb z but)) q ids inside in (f.0, eqb-false q but (not-true (eqb q but) f.1))

  some_id : (q : ℕ) → In q ids → IsSome (at q)
  some_id q inside = sym (are.live q) ∙ test_from_in q ids inside

  module _ (b : ℕ) (h : IsHighestBelow at but count (Some b)) where
    live_b : is_live ids b ≡ true
    live_b = are.live b ∙ some_and (at b) _ h.1

    abbrev w : Member
    w = member_at at dim b

    w_inside : In w others
    w_inside = in_map (member_at at dim) b (without but ids) (in_filter (λ z. not (eqb z but)) b ids (not_from_false (eqb b but) (ne_eqb b but h.0)) (in_from_test b ids live_b))

    first_of_all : (z : Member) → In z others → (z ≡ w) ⊎ (rules.height w z ≡ Less)
    first_of_all z inside =
        let q = from_map (member_at at dim) z (without but ids) inside in
        let other = other_id q.0 q.1 in
        let some_q = some_id q.0 other.0 in
        let not_above : is_gt (rules.height w (member_at at dim q.0)) ≡ false = heights dim (at b) (at q.0) (spread at but count q.0 (at b) h.1 (low q.0 some_q) other.1) some_q in
        elim (less_or_same (rules.height w (member_at at dim q.0)) not_above) [
          | inl less ↦ inr (ap (rules.height w) (sym q.2) ∙ less)
          | inr tie ↦
              let names : w.name ≡ (member_at at dim q.0).name = exact_bytes w.name (member_at at dim q.0).name (second_equal _ _ tie) in
              let same : b ≡ q.0 = names_differ at m dim ids good are b q.0 live_b (test_from_in q.0 ids other.0) (sym (member_name at m dim b) ∙ names ∙ member_name at m dim q.0) in
              inl (sym q.2 ∙ ap (member_at at dim) (sym same))
        ]

    -- the highest of the others by names
    pub highest_other : rules.highest others ≡ Some (name_of at b)
    highest_other =
        ap (option_map (λ (x : Member). x.name))
        (sym (first_find (sort_by rules.height others))
        ∙ find_is rules.height member_total (λ (z : Member). true) w (sort_by rules.height others) (sorted_is rules.height member_total others) (in_sort rules.height member_total w others w_inside) refl
        (λ z inside pass. first_of_all z (from_sort rules.height member_total z others inside)))
        ∙ ap (λ n. Some n) (member_name at m dim b)

    -- where the one left out is a member
    pub highest_named : IsSome (at but) → rules.highest (rules.all_but (name_of at but) (members_of at dim ids)) ≡ Some (name_of at b)
    highest_named live_but = ap rules.highest (sym (members_left at at but m dim ids good are live_but (λ q ne. refl))) ∙ highest_other

  no_other : IsHighestBelow at but count None → (q : ℕ) → In q (without but ids) → ⊥
  no_other h q inside =
      let other = other_id q inside in
      let some_q = some_id q other.0 in
      both_ways (is_some (at q)) (ap is_some (h q (low q some_q) other.1)) some_q

  -- the highest by names of those below a number, none where there is no other
  pub highest_is : (best : Option ℕ) → IsHighestBelow at but count best → rules.highest others ≡ option_map (name_of at) best
  highest_is None h = ap (λ l. rules.highest (members_of at dim l)) (nobody (without but ids) (no_other h)) where
    nobody : (xs : List ℕ) → ((q : ℕ) → In q xs → ⊥) → xs ≡ []
    nobody [] f = refl
    nobody (x ∷ xs) f = absurd (f x (inl refl))
  highest_is (Some b) h = highest_other b h
