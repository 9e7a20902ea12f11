-- What the links keep while a member is joined at a layer.
use Rattle.std.proofs.Common.{◌≡◌, ◌≢◌, ℕ, zero, suc, ◌<◌, ◌≤◌, Bool, true, false, cond, eqb, ◌||◌, List, [], ◌∷◌, ◌++◌, length, get_or, take, refl, sym, ap, ◌∙◌, subst, arith}
use Rattle.std.specs.Prelude.{nat_eq, filter, Some, None, IsSome, is_some, IfSome}
use Rattle.std.specs.List.{list_any}
use Rattle.std.specs.declared.option.Option.{Option}
use Rattle.std.proofs.lemmas.Bool.{eqb-true, both_ways, or_left, or_right, ltb-true, ltb-false, false_from_ne_true}
use Rattle.std.proofs.lemmas.List.{get_or-take, length-take, get_or_default}
use Rattle.std.proofs.lemmas.List.Sums.{fold-append}
use Rattle.std.proofs.Math.Seq.{take-suc, take-length}
use Rattle.std.proofs.lemmas.Cmp.{nat_eq_equiv}
use Rattle.std.proofs.lemmas.List.Folds.{list_any_none}
use Rattle.std.proofs.lemmas.Map.Keys.{apart_from_distinct}
use Rattle.vs_graph.specs.Bodies.{Bodies}
use Rattle.vs_link.specs.Picks.{farthest, nearest}
use Rattle.vs_graph.specs.Table.{Table, is_in, joined, displaced}
use Rattle.vs_graph.specs.GoodTable.{IsGoodTable, KeepsLinked}
use Rattle.vs_link.specs.Linked.{has_room, displaced_by, giving_way, accepted, forced_near, forced_at, forced, target, offered, linked, AreChosen}
use Rattle.vs_graph.proofs.Lists.{has_push, length_push}
use Rattle.vs_graph.proofs.Tables.{joined_good, joined_linked, joined_own, displaced_good, displaced_linked, displaced_own}
use Rattle.vs_link.proofs.Picked.{yielding_in, giving_way_from, farthest_in, farthest_some, nearest_in, nearest_some, filter_in, in_filter, neighbour_other}

-- after x was offered to the members of a list
pub record IsOffered (layers : ℕ → ℕ) (layer most x : ℕ) (start t : Table) (done : List ℕ) : Type 0 where
  pub good : IsGoodTable layers layer most t
  pub few : length (t x) ≤ length done
  pub taken : (z : ℕ) → is_in t x z ≡ true → list_any (nat_eq z) done ≡ true
  pub kept : KeepsLinked start t

or_more : (p q r : Bool) → (p ≡ true → q ≡ true) → (p || r) ≡ true → (q || r) ≡ true
or_more true q r f h = or_left q r (f refl)
or_more false q r f h = or_right q r h

kept_then : (start t u : Table) → KeepsLinked start t → KeepsLinked t u → KeepsLinked start u
kept_then start t u f g a h = g a (f a h)

module _ (bodies : Bodies) (layers : ℕ → ℕ) (layer most x : ℕ) where
  -- x took y as its last link
  taken_last : (start t u : Table) (done : List ℕ) (y : ℕ) → IsOffered layers layer most x start t done → IsGoodTable layers layer most u → KeepsLinked t u → u x ≡ t x ++ y ∷ [] → IsOffered layers layer most x start u (done ++ y ∷ [])
  taken_last start t u done y was good kept own = record {
    good = good;
    few = omega (arith, ap length own, length_push (t x) y, length_push done y, was.few);
    taken = λ z h. has_push done y z ∙ or_more (list_any (nat_eq z) (t x)) (list_any (nat_eq z) done) (eqb z y) (was.taken z) (sym (has_push (t x) y z) ∙ ap (list_any (nat_eq z)) (sym own) ∙ h);
    kept = kept_then start t u was.kept kept;
  }

  -- x was refused
  refused : (start t : Table) (done : List ℕ) (y : ℕ) → IsOffered layers layer most x start t done → IsOffered layers layer most x start t (done ++ y ∷ [])
  refused start t done y was = record {
    good = was.good;
    few = omega (arith, length_push done y, was.few);
    taken = λ z h. has_push done y z ∙ or_left (list_any (nat_eq z) done) (eqb z y) (was.taken z h);
    kept = was.kept;
  }

  offered_by : (start t : Table) (done : List ℕ) (y : ℕ) → IsOffered layers layer most x start t done → x ≢ y → layer < layers x → layer < layers y → list_any (nat_eq y) done ≡ false → length done < most
      → (b : Bool) → has_room most t y ≡ b → (o : Option ℕ) → giving_way bodies t x y (farthest bodies y (t y)) ≡ o → IsOffered layers layer most x start (cond b (joined t x y) (displaced_by t x y o)) (done ++ y ∷ [])
  offered_by start t done y was ne x_stands y_stands new few true room o way =
      let apart : is_in t x y ≡ false = false_from_ne_true (is_in t x y) (λ h. both_ways (list_any (nat_eq y) done) new (was.taken y h)) in
      let x_room : length (t x) < most = omega (arith, was.few) in
      taken_last start t (joined t x y) done y was (joined_good layers layer most t x y was.good ne apart x_room (ltb-true (length (t y)) most room) x_stands y_stands) (joined_linked t x y) (joined_own t x y ne)
  offered_by start t done y was ne x_stands y_stands new few false full None way = refused start t done y was
  offered_by start t done y was ne x_stands y_stands new few false full (Some w) way =
      let apart : is_in t x y ≡ false = false_from_ne_true (is_in t x y) (λ h. both_ways (list_any (nat_eq y) done) new (was.taken y h)) in
      let x_room : length (t x) < most = omega (arith, was.few) in
      let at_y : is_in t y w ≡ true = yielding_in bodies t x y w way in
      let xw : x ≢ w = neighbour_other layers layer most t x y w was.good apart at_y in
      let wy : w ≢ y = λ e. both_ways (is_in t y y) (was.good.apart y) (subst (λ k. is_in t y k ≡ true) e at_y) in
      taken_last start t (displaced t x y w) done y was (displaced_good layers layer most t x y w was.good ne wy xw apart at_y x_room x_stands y_stands)
      (displaced_linked t x y w wy (was.good.once w) (giving_way_from bodies t x y (farthest bodies y (t y)) w way).1) (displaced_own t x y w ne xw)

  -- one more offer
  pub offered_more : (start t : Table) (done : List ℕ) (y : ℕ) → IsOffered layers layer most x start t done → x ≢ y → layer < layers x → layer < layers y → list_any (nat_eq y) done ≡ false → length done < most
      → IsOffered layers layer most x start (accepted bodies most x t y) (done ++ y ∷ [])
  offered_more start t done y was ne x_stands y_stands new few =
      offered_by start t done y was ne x_stands y_stands new few (has_room most t y) refl (giving_way bodies t x y (farthest bodies y (t y))) refl

  pub offered_none : (t : Table) → IsGoodTable layers layer most t → t x ≡ [] → IsOffered layers layer most x t t []
  offered_none t good free = record {
    good = good;
    few = omega (arith, ap length free);
    taken = λ z h. absurd (both_ways false refl (sym (ap (list_any (nat_eq z)) free) ∙ h));
    kept = λ a h. h;
  }

  module _ (t : Table) (chosen : List ℕ) (good : IsGoodTable layers layer most t) (free : t x ≡ []) (x_stands : layer < layers x) (are : AreChosen layers layer most x chosen) where
    -- one that wasn't before
    pub not_before : (i : ℕ) → i < length chosen → list_any (nat_eq (get_or chosen i 0)) (take i chosen) ≡ false
    not_before i h =
        list_any_none (nat_eq (get_or chosen i 0)) (take i chosen)
        (λ k d lt.
        let below : k < i = omega (arith, length-take i chosen) in
        nat_eq_equiv.symm (get_or chosen i 0) (get_or (take i chosen) k d) ∙ ap (λ z. nat_eq z (get_or chosen i 0)) (get_or-take i chosen k d below)
        ∙ ap (nat_eq (get_or chosen k d)) (get_or_default chosen i 0 d h) ∙ apart_from_distinct nat_eq chosen k i d are.once below h)

    pub offered_all : (i : ℕ) → i ≤ length chosen → IsOffered layers layer most x t (offered bodies most t x (take i chosen)) (take i chosen)
    offered_all zero h = offered_none t good free
    offered_all (suc i) h =
        let y = get_or chosen i 0 in
        let lt : i < length chosen = omega arith in
        let step : IsOffered layers layer most x t (accepted bodies most x (offered bodies most t x (take i chosen)) y) (take i chosen ++ y ∷ []) =
        offered_more t (offered bodies most t x (take i chosen)) (take i chosen) y (offered_all i (omega arith)) (λ e. (are.stand i 0 lt).1 (sym e)) x_stands (are.stand i 0 lt).0 (not_before i lt) (omega (arith, length-take i chosen, are.few)) in
        subst (λ l. IsOffered layers layer most x t (offered bodies most t x l) l) (sym (take-suc chosen i 0 lt))
        (subst (λ u. IsOffered layers layer most x t u (take i chosen ++ y ∷ [])) (sym (fold-append (accepted bodies most x) t (take i chosen) (y ∷ []))) step)

  -- ---- a forced link

  -- what a forced link leaves
  pub record IsForced (t u : Table) : Type 0 where
    pub good : IsGoodTable layers layer most u
    pub kept : KeepsLinked t u
    pub own : 0 < length (u x)

  forced_joined : (t : Table) (z : ℕ) → IsGoodTable layers layer most t → t x ≡ [] → layer < layers x → layer < layers z → x ≢ z → length (t z) < most → IsForced t (joined t x z)
  forced_joined t z good free x_stands z_stands ne room =
      let apart : is_in t x z ≡ false = ap (list_any (nat_eq z)) free in
      record {
        good = joined_good layers layer most t x z good ne apart (omega (arith, ap length free)) room x_stands z_stands;
        kept = joined_linked t x z;
        own = omega (arith, ap length (joined_own t x z ne), length_push (t x) z);
      }

  module _ (two : 1 < most) (t : Table) (y : ℕ) (good : IsGoodTable layers layer most t) (free : t x ≡ []) (x_stands : layer < layers x) (y_stands : layer < layers y) (ne : x ≢ y) where
    other_than_x : (z : ℕ) → is_in t y z ≡ true → x ≢ z
    other_than_x z h = neighbour_other layers layer most t x y z good (ap (list_any (nat_eq y)) free) h

    forced_far : (o : Option ℕ) → farthest bodies y (t y) ≡ o → most ≤ length (t y) → nearest bodies x (filter (has_room most t) (t y)) ≡ None → IsForced t (displaced_by t x y o)
    forced_far None e full none = absurd (both_ways (is_some (farthest bodies y (t y))) (ap is_some e) (farthest_some bodies y (t y) (omega arith)))
    forced_far (Some w) e full none =
        let at_y : is_in t y w ≡ true = farthest_in bodies y (t y) w e in
        let xw : x ≢ w = other_than_x w at_y in
        let wy : w ≢ y = λ k. both_ways (is_in t y y) (good.apart y) (subst (λ z. is_in t y z ≡ true) k at_y) in
        let w_full : has_room most t w ≡ false = false_from_ne_true (has_room most t w)
        (λ h. both_ways (is_some (nearest bodies x (filter (has_room most t) (t y)))) (ap is_some none) (nearest_some bodies x (filter (has_room most t) (t y)) (in_filter (has_room most t) w (t y) at_y h))) in
        record {
          good = displaced_good layers layer most t x y w good ne wy xw (ap (list_any (nat_eq y)) free) at_y (omega (arith, ap length free)) x_stands y_stands;
          kept = displaced_linked t x y w wy (good.once w) (omega (arith, ltb-false (length (t w)) most w_full));
          own = omega (arith, ap length (displaced_own t x y w ne xw), length_push (t x) y);
        }

    forced_by_near : (o : Option ℕ) → nearest bodies x (filter (has_room most t) (t y)) ≡ o → most ≤ length (t y) → IsForced t (forced_near bodies t x y o)
    forced_by_near None e full = forced_far (farthest bodies y (t y)) refl full e
    forced_by_near (Some z) e full =
        let found = filter_in (has_room most t) z (t y) (nearest_in bodies x (filter (has_room most t) (t y)) z e) in
        forced_joined t z good free x_stands (good.stand y z found.0) (other_than_x z found.0) (ltb-true (length (t z)) most found.1)

    forced_by : (b : Bool) → has_room most t y ≡ b → IsForced t (cond b (joined t x y) (forced_near bodies t x y (nearest bodies x (filter (has_room most t) (t y)))))
    forced_by true room = forced_joined t y good free x_stands y_stands ne (ltb-true (length (t y)) most room)
    forced_by false none = forced_by_near (nearest bodies x (filter (has_room most t) (t y))) refl (ltb-false (length (t y)) most none)

    pub forced_is : IsForced t (forced_at bodies most t x y)
    forced_is = forced_by (has_room most t y) refl

  -- ---- the whole

  -- what joining x leaves
  pub record IsJoinedUp (t u : Table) (o : Option ℕ) : Type 0 where
    pub good : IsGoodTable layers layer most u
    pub kept : KeepsLinked t u
    pub own : IsSome o → 0 < length (u x)

  pub empty_list : (l : List ℕ) → eqb (length l) 0 ≡ true → l ≡ []
  empty_list [] h = refl
  empty_list (z ∷ zs) h = absurd (omega (arith, eqb-true (length (z ∷ zs)) 0 h))

  some_left : (l : List ℕ) → eqb (length l) 0 ≡ false → 0 < length l
  some_left [] h = absurd (both_ways true h refl)
  some_left (z ∷ zs) h = omega arith

  linked_by : (two : 1 < most) (t u : Table) (done : List ℕ) → IsOffered layers layer most x t u done → layer < layers x → (o : Option ℕ) → IfSome o (λ y. (layer < layers y) × (y ≢ x)) → (b : Bool) → eqb (length (u x)) 0 ≡ b
      → IsJoinedUp t (cond b (forced bodies most u x o) u) o
  linked_by two t u done was x_stands o may false some = record { good = was.good; kept = was.kept; own = λ h. some_left (u x) some }
  linked_by two t u done was x_stands None may true none = record { good = was.good; kept = was.kept; own = λ h. absurd (both_ways false refl h) }
  linked_by two t u done was x_stands (Some y) may true none =
      let f = forced_is two u y was.good (empty_list (u x) none) x_stands may.0 (λ e. may.1 (sym e)) in
      record { good = f.good; kept = kept_then t u (forced_at bodies most u x y) was.kept f.kept; own = λ h. f.own }

  pub linked_is : (t : Table) (chosen : List ℕ) (fallback : Option ℕ) → 1 < most → IsGoodTable layers layer most t → t x ≡ [] → layer < layers x → AreChosen layers layer most x chosen
      → IfSome (target chosen fallback) (λ y. (layer < layers y) × (y ≢ x)) → IsJoinedUp t (linked bodies most t x chosen fallback) (target chosen fallback)
  linked_is t chosen fallback two good free x_stands are may =
      let all : IsOffered layers layer most x t (offered bodies most t x chosen) chosen =
      subst (λ l. IsOffered layers layer most x t (offered bodies most t x l) l) (take-length chosen) (offered_all t chosen good free x_stands are (length chosen) (omega arith)) in
      linked_by two t (offered bodies most t x chosen) chosen all x_stands (target chosen fallback) may (eqb (length (offered bodies most t x chosen x)) 0) refl
