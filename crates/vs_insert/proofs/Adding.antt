-- A good graph with a new member that is joined at each of its layers is good.
use Rattle.std.proofs.Common.{◌≡◌, ◌≢◌, ℕ, ◌+◌, ◌<◌, ◌≤◌, Bool, true, false, cond, List, [], length, get_or, refl, sym, ap, ◌∙◌, subst, arith, inl, inr}
use Rattle.std.specs.Prelude.{Some, None, IsSome, IsSomeAnd, IfSome, nat_lt, min}
use Rattle.std.specs.Option.{option_map_or}
use Rattle.std.specs.declared.option.Option.{Option}
use Rattle.std.proofs.Math.Nat.{min-le_left, le-min}
use Rattle.std.proofs.lemmas.Bool.{cases_eq, ltb-true, ltb-false, both_ways}
use Rattle.std.proofs.lemmas.Option.{none-some, same_Some}
use Rattle.std.proofs.lemmas.List.Elements.{Contains-get_or}
use Rattle.vs_defs.specs.Words.{FitsDimension}
use Rattle.vs_graph.specs.declared.node.Node.{Node}
use Rattle.vs_graph.specs.Good.{links_at, links_of, IsLinked, StandsAt, AreLinksGood, AllLinked, IsEntry, IsGood}
use Rattle.vs_graph.specs.Newcomer.{ChangesAt, IsNewcomer}
use Rattle.vs_graph.proofs.Newcomers.{same_links, good_with}
use Rattle.vs_graph.proofs.NodeLaws.{none_stands}
use Rattle.vs_beam.specs.Beam.{level_at}
use Rattle.vs_beam.proofs.Visits.{some_and}
use Rattle.vs_unlink.specs.Unlinked.{bare, bare_node}
use Rattle.vs_insert.specs.declared.draft.Chosen.{Chosen}
use Rattle.vs_insert.specs.Joined.{layers_shared, IsSharedBelow, IsJoinedFrom}
use Rattle.vs_insert.specs.Added.{entry_after}
use Rattle.vs_insert.proofs.Bare.{stood}

-- ---- levels

own_level : (o : Option Node) (P : Node → Type 0) → IsSomeAnd o P → (l : ℕ) → l ≤ option_map_or (λ n. n.level) o 0 → IsSomeAnd o (λ n. l ≤ n.level)
own_level None P h l less = absurd h
own_level (Some n) P h l less = less

spread : (at : ℕ → Option Node) (o : Option Node) → IsSomeAnd o (λ n. (q : ℕ) → IfSome (at q) (λ other. other.level ≤ n.level)) → (q : ℕ) → IsSomeAnd o (λ n. IfSome (at q) (λ other. other.level ≤ n.level))
spread at None h q = h
spread at (Some n) h q = h q

below_top : (o p : Option Node) → IsSomeAnd o (λ n. IfSome p (λ other. other.level ≤ n.level)) → (l : ℕ) → IsSomeAnd p (λ n. l ≤ n.level) → l ≤ option_map_or (λ n. n.level) o 0
below_top None p h l s = absurd h
below_top (Some n) None h l s = absurd s
below_top (Some n) (Some other) h l s = omega (arith, h, s)

if_top : (o p : Option Node) → IsSomeAnd o (λ n. IfSome p (λ other. other.level ≤ n.level)) → IfSome p (λ other. other.level ≤ option_map_or (λ n. n.level) o 0)
if_top None p h = absurd h
if_top (Some n) p h = h

if_more : (o : Option Node) (a b : ℕ) → a ≤ b → IfSome o (λ n. n.level ≤ a) → IfSome o (λ n. n.level ≤ b)
if_more None a b le h = tt
if_more (Some n) a b le h = omega (arith, le, h)

if_bare : (o p : Option Node) (a : ℕ) → bare o ≡ bare p → IfSome p (λ n. n.level ≤ a) → IfSome o (λ n. n.level ≤ a)
if_bare None p a e h = tt
if_bare (Some n) None a e h = absurd (none-some (bare_node n) (sym e))
if_bare (Some n) (Some k) a e h = subst (λ (v : ℕ). v ≤ a) (sym (ap (λ (z : Node). z.level) (same_Some (bare_node n) (bare_node k) e))) h

level_bare : (o p : Option Node) → bare o ≡ bare p → IsSome p → IsSomeAnd o (λ n. n.level ≡ option_map_or (λ n. n.level) p 0)
level_bare o None e h = absurd (both_ways false refl h)
level_bare None (Some k) e h = absurd (none-some (bare_node k) e)
level_bare (Some n) (Some k) e h = ap (λ (z : Node). z.level) (same_Some (bare_node n) (bare_node k) e)

-- what a node keeps while links change
pub same_but_links : (o : Option Node) (node : Node) → bare o ≡ bare (Some node) → IsSomeAnd o (λ n. (n.body ≡ node.body) × (n.attr ≡ node.attr) × (n.level ≡ node.level))
same_but_links None node e = absurd (none-some (bare_node node) e)
same_but_links (Some n) node e =
    let s = same_Some (bare_node n) (bare_node node) e in
    (ap (λ (z : Node). z.body) s, ap (λ (z : Node). z.attr) s, ap (λ (z : Node). z.level) s)

top_from : (new : ℕ → Option Node) (o : Option Node) (top : ℕ) → IsSomeAnd o (λ n. n.level ≡ top) → ((q : ℕ) → IfSome (new q) (λ other. other.level ≤ top)) → IsSomeAnd o (λ n. (q : ℕ) → IfSome (new q) (λ other. other.level ≤ n.level))
top_from new None top h all = h
top_from new (Some n) top h all = λ q. subst (λ v. IfSome (new q) (λ other. other.level ≤ v)) (sym h) (all q)

module _ (at mid : ℕ → Option Node) (entry : Option ℕ) (m dim id : ℕ) (node : Node) (good : IsGood at entry m dim) (newcomer : IsNewcomer at id node) (change : ChangesAt at mid id (Some node)) where
  pub mid_good : FitsDimension dim node.body.bits → AreLinksGood mid m dim
  mid_good fits = good_with at mid id node newcomer change m dim fits good.links

  -- the new member has no link yet
  pub no_link_yet : (l : ℕ) → links_at mid l id ≡ []
  no_link_yet l = same_links at mid id node newcomer change l id ∙ ap (λ o. option_map_or (λ n. links_of n l) o []) newcomer.free

  pub was_standing : (l q : ℕ) → q ≢ id → StandsAt mid l q → StandsAt at l q
  was_standing l q ne h = subst (λ o. IsSomeAnd o (λ n. l ≤ n.level)) (change.others q ne) h

  pub not_new : (l q : ℕ) → StandsAt at l q → q ≢ id
  not_new l q h is = none_stands (at id) l newcomer.free (subst (λ k. StandsAt at l k) is h)

  pub is_standing : (l q : ℕ) → StandsAt at l q → StandsAt mid l q
  is_standing l q h = subst (λ o. IsSomeAnd o (λ n. l ≤ n.level)) (sym (change.others q (not_new l q h))) h

  within_by : (e : Option ℕ) → IsEntry at e → (l : ℕ) → l < layers_shared at e node.level → IsSomeAnd e (λ q. StandsAt mid l q × (q ≢ id))
  within_by None top l h = absurd (omega (arith, h))
  within_by (Some q) top l h =
      let s : StandsAt at l q = own_level (at q) _ top l (omega (arith, h, min-le_left (level_at at q) node.level)) in
      (is_standing l q s, not_new l q s)

  beyond_by : (e : Option ℕ) → IsEntry at e → (l y : ℕ) → layers_shared at e node.level ≤ l → l < node.level + 1 → y ≢ id → StandsAt mid l y → ⊥
  beyond_by None top l y low high ne h = none_stands (at y) l (top y) (was_standing l y ne h)
  beyond_by (Some q) top l y low high ne h =
      let below : l ≤ level_at at q = below_top (at q) (at y) (spread at (at q) top y) l (was_standing l y ne h) in
      let short : l ≤ min (level_at at q) node.level = le-min below (omega (arith, high)) in
      absurd (omega (arith, short, low))

  -- where the entry stands beside the new member
  pub shared_is : IsSharedBelow mid id entry (node.level + 1) (layers_shared at entry node.level)
  shared_is = record { within = within_by entry good.top; beyond = beyond_by entry good.top }

  module _ (new : ℕ → Option Node) (chosen : List (List Chosen)) (long : length chosen ≡ node.level + 1) (fits : FitsDimension dim node.body.bits) (j : IsJoinedFrom mid new m id entry chosen 0) where
    links_good : AreLinksGood new m dim
    links_good = j.good dim (mid_good fits)

    was : (l q : ℕ) → q ≢ id → StandsAt new l q → StandsAt at l q
    was l q ne h = was_standing l q ne (stood mid new j.rest l q h)

    its_layer : (l : ℕ) → StandsAt new l id → l < length chosen
    its_layer l h =
        let low : l ≤ node.level = subst (λ o. IsSomeAnd o (λ n. l ≤ n.level)) change.there (stood mid new j.rest l id h) in
        omega (arith, low, long)

    kept_from : (l a : ℕ) → 0 < length (links_at at l a) → 0 < length (links_at new l a)
    kept_from l a h = j.kept l a (subst (λ xs. 0 < length xs) (sym (same_links at mid id node newcomer change l a)) h)

    own : (l b : ℕ) → b ≢ id → StandsAt new l id → StandsAt new l b → 0 < length (links_at new l id)
    own l b ne hx hb = j.own l b (omega arith) (its_layer l hx) ne (stood mid new j.rest l b hb)

    -- a member that was there, by the link of the new one
    beside : (l a : ℕ) → a ≢ id → StandsAt new l id → StandsAt new l a → 0 < length (links_at new l a)
    beside l a ne hx ha =
        let some = own l a ne hx ha in
        let w = get_or (links_at new l id) 0 0 in
        let link : IsLinked new l id w = Contains-get_or (links_at new l id) 0 0 some in
        elim (cases_eq w a) [
          | inl is ↦ (let back : IsLinked new l a id = links_good.back l id a (subst (λ n. IsLinked new l id n) is link) in omega (arith, back.1))
          | inr other ↦
              let not_id : w ≢ id = λ e. links_good.apart l id (subst (λ n. IsLinked new l id n) e link) in
              kept_from l a (good.linked l a w (λ e. other (sym e)) (was l a ne ha) (was l w not_id (links_good.stand l id w link)))
        ]

    pub all_linked : AllLinked new
    all_linked l a b ne ha hb =
        elim (cases_eq a id) [
          | inl is ↦ subst (λ k. 0 < length (links_at new l k)) (sym is) (own l b (λ e. ne (is ∙ sym e)) (subst (λ k. StandsAt new l k) is ha) hb)
          | inr na ↦ elim (cases_eq b id) [
            | inl is ↦ beside l a na (subst (λ k. StandsAt new l k) is hb) ha
            | inr nb ↦ kept_from l a (good.linked l a b ne (was l a na ha) (was l b nb hb))
          ]
        ]

    -- ---- the entry

    level_if : (q top : ℕ) → node.level ≤ top → IfSome (at q) (λ n. n.level ≤ top) → IfSome (new q) (λ n. n.level ≤ top)
    level_if q top low h =
        if_bare (new q) (mid q) top (j.rest q) (elim (cases_eq q id) [
          | inl is ↦ subst (λ o. IfSome o (λ n. n.level ≤ top)) (sym (ap mid is ∙ change.there)) low
          | inr ne ↦ subst (λ o. IfSome o (λ n. n.level ≤ top)) (sym (change.others q ne)) h
        ])

    its_level : IsSomeAnd (new id) (λ n. n.level ≡ node.level)
    its_level = level_bare (new id) (Some node) (j.rest id ∙ ap bare change.there) refl

    top_by : (e : ℕ) → IsEntry at (Some e) → (b : Bool) → nat_lt (level_at at e) node.level ≡ b → IsEntry new (cond b (Some id) (Some e))
    top_by e top true is =
        top_from new (new id) node.level its_level
        (λ q. level_if q node.level (omega arith) (if_more (at q) (level_at at e) node.level (omega (arith, ltb-true (level_at at e) node.level is)) (if_top (at e) (at q) (spread at (at e) top q))))
    top_by e top false is =
        let some : IsSome (at e) = some_and (at e) _ top in
        let s : StandsAt at 0 e = own_level (at e) _ top 0 (omega arith) in
        top_from new (new e) (level_at at e) (level_bare (new e) (at e) (j.rest e ∙ ap bare (change.others e (not_new 0 e s))) some)
        (λ q. level_if q (level_at at e) (omega (arith, ltb-false (level_at at e) node.level is)) (if_top (at e) (at q) (spread at (at e) top q)))

    top_is : (e : Option ℕ) → IsEntry at e → IsEntry new (entry_after at e id node.level)
    top_is None none = top_from new (new id) node.level its_level (λ q. level_if q node.level (omega arith) (subst (λ o. IfSome o (λ n. n.level ≤ node.level)) (sym (none q)) tt))
    top_is (Some e) top = top_by e top (nat_lt (level_at at e) node.level) refl

    pub added_good : IsGood new (entry_after at entry id node.level) m dim
    added_good = record {
      links = links_good;
      linked = all_linked;
      top = top_is entry good.top;
      m_low = good.m_low;
      m_high = good.m_high;
      dim_low = good.dim_low;
      dim_high = good.dim_high;
    }
