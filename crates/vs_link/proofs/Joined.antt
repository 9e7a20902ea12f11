-- Joining a member by ids is joining it by names.
use Rattle.std.proofs.Common.{◌≡◌, ◌≢◌, ℕ, zero, suc, ◌<◌, ◌≤◌, Bool, true, false, cond, eqb, ◌&&◌, List, [], ◌∷◌, ◌++◌, length, get_or, take, map, refl, sym, ap, ◌∙◌, subst, arith}
use Rattle.std.specs.Prelude.{nat_eq, nat_lt, Some, None, fold, filter, find, option_map, IfSome}
use Rattle.std.specs.List.{list_any}
use Rattle.std.specs.declared.option.Option.{Option}
use Rattle.std.proofs.Math.Seq.{take-suc, take-length}
use Rattle.std.proofs.lemmas.List.{map-append}
use Rattle.std.proofs.lemmas.List.Sums.{fold-append}
use Rattle.std.proofs.lemmas.Bool.{eqb-true, eqb-false, both_ways, lt-ltb, le-ltb, false_from_ne_true}
use Rattle.vs_defs.specs.Store.{Member}
use Rattle.vs_defs.specs.Links.{Links, neighbours, capacity, join, another_stands, by_nearness_to}
use Rattle.vs_defs.specs.Links as defs
use Rattle.vs_defs.specs.Linking as rules
use Rattle.vs_graph.specs.Bodies.{Bodies, name_at, gap}
use Rattle.vs_graph.specs.Table.{Table, is_in, joined}
use Rattle.vs_graph.specs.GoodTable.{IsGoodTable}
use Rattle.vs_graph.specs.Named.{is_live, AreMembers}
use Rattle.vs_graph.proofs.Naming.{Stands, join_named, displace_named, degree_same, another_named}
use Rattle.vs_link.specs.Picks.{farthest, nearest}
use Rattle.vs_link.specs.Linked.{has_room, displaced_by, giving_way, accepted, forced_near, forced_at, forced, target, offered, linked, AreChosen}
use Rattle.vs_link.proofs.Picked.{farthest_in, nearest_in, filter_in}
use Rattle.vs_link.proofs.Offered.{offered_all, not_before, empty_list}
use Rattle.vs_link.proofs.Extremes.{farthest_same, room_same, nearest_same}

module _ (bodies : Bodies) (layers : ℕ → ℕ) (ids : List ℕ) (members : List Member) (are : AreMembers bodies layers ids members) (tables : ℕ → Table) (layer m most : ℕ) (bound : capacity m layer ≡ most) where
  abbrev Is : Table → Links → Type 0
  Is t links = Stands bodies layers ids members are tables layer t links

  module _ (t : Table) (links : Links) (good : IsGoodTable layers layer most t) (h : Is t links) (x y : ℕ) (lx : is_live ids x ≡ true) (ly : is_live ids y ≡ true) (ne : x ≢ y) (apart : is_in t x y ≡ false) where
    displaced_named : (w : ℕ) → is_in t y w ≡ true → Is (displaced_by t x y (Some w)) (rules.displaced m members links layer (name_at bodies x) (name_at bodies y) (name_at bodies w))
    displaced_named w at_y =
        displace_named bodies layers ids members are tables layer t links x y w h ne (λ e. both_ways (is_in t y y) (good.apart y) (subst (λ k. is_in t y k ≡ true) e at_y)) lx ly (are.live layer w (good.stand y w at_y))

    give_by : (w : ℕ) → is_in t y w ≡ true → (c : Bool)
        → Is (displaced_by t x y (cond c (Some w) None)) (cond c (rules.displaced m members links layer (name_at bodies x) (name_at bodies y) (name_at bodies w)) links)
    give_by w at_y true = displaced_named w at_y
    give_by w at_y false = h

    accept_by : (b : Bool) (o : Option ℕ) → farthest bodies y (t y) ≡ o
        → Is (cond b (joined t x y) (displaced_by t x y (giving_way bodies t x y o)))
        (cond b (join links layer (name_at bodies x) (name_at bodies y)) (rules.accepted_by_full m members links layer (name_at bodies x) (name_at bodies y) (option_map (name_at bodies) o)))
    accept_by true o e = join_named bodies layers ids members are tables layer t links x y h lx ly
    accept_by false None e = h
    accept_by false (Some w) e =
        let at_y : is_in t y w ≡ true = farthest_in bodies y (t y) w e in
        let lw : is_live ids w ≡ true = are.live layer w (good.stand y w at_y) in
        let test : (nat_lt (defs.gap members (name_at bodies y) (name_at bodies x)) (defs.gap members (name_at bodies y) (name_at bodies w)) && nat_lt 1 (length (neighbours members links layer (name_at bodies w))))
        ≡ (nat_lt (gap bodies y x) (gap bodies y w) && nat_lt 1 (length (t w))) =
        ap (λ q. nat_lt q (defs.gap members (name_at bodies y) (name_at bodies w)) && nat_lt 1 (length (neighbours members links layer (name_at bodies w)))) (are.gaps y x ly lx)
        ∙ ap (λ q. nat_lt (gap bodies y x) q && nat_lt 1 (length (neighbours members links layer (name_at bodies w)))) (are.gaps y w ly lw)
        ∙ ap (λ q. nat_lt (gap bodies y x) (gap bodies y w) && nat_lt 1 q) (degree_same bodies layers ids members are tables layer most t links good h w lw) in
        subst (λ q. Is (displaced_by t x y (giving_way bodies t x y (Some w))) (cond q (rules.displaced m members links layer (name_at bodies x) (name_at bodies y) (name_at bodies w)) links)) (sym test)
        (give_by w at_y (nat_lt (gap bodies y x) (gap bodies y w) && nat_lt 1 (length (t w))))

    pub accept_named : Is (accepted bodies most x t y) (rules.accepted m members (name_at bodies x) layer links (name_at bodies y))
    accept_named =
        subst (λ q. Is (accepted bodies most x t y) (cond q (join links layer (name_at bodies x) (name_at bodies y))
        (rules.accepted_by_full m members links layer (name_at bodies x) (name_at bodies y) (rules.farthest m members links layer (name_at bodies y)))))
        (sym (room_same bodies layers ids members are tables layer m most t links good h bound y ly))
        (subst (λ o. Is (accepted bodies most x t y) (cond (has_room most t y) (join links layer (name_at bodies x) (name_at bodies y)) (rules.accepted_by_full m members links layer (name_at bodies x) (name_at bodies y) o)))
        (sym (farthest_same bodies layers ids members are tables layer m most t links good h y ly))
        (accept_by (has_room most t y) (farthest bodies y (t y)) refl))

    far_by : (o : Option ℕ) → farthest bodies y (t y) ≡ o → Is (displaced_by t x y o) (rules.forced_by_full m members links layer (name_at bodies x) (name_at bodies y) (option_map (name_at bodies) o))
    far_by None e = h
    far_by (Some w) e = displaced_named w (farthest_in bodies y (t y) w e)

    near_by : (o : Option ℕ) → nearest bodies x (filter (has_room most t) (t y)) ≡ o → Is (forced_near bodies t x y o) (rules.forced_near m members links layer (name_at bodies x) (name_at bodies y) (option_map (name_at bodies) o))
    near_by None e =
        subst (λ o. Is (displaced_by t x y (farthest bodies y (t y))) (rules.forced_by_full m members links layer (name_at bodies x) (name_at bodies y) o))
        (sym (farthest_same bodies layers ids members are tables layer m most t links good h y ly)) (far_by (farthest bodies y (t y)) refl)
    near_by (Some z) e =
        let at_y : is_in t y z ≡ true = (filter_in (has_room most t) z (t y) (nearest_in bodies x (filter (has_room most t) (t y)) z e)).0 in
        join_named bodies layers ids members are tables layer t links x z h lx (are.live layer z (good.stand y z at_y))

    force_by : (b : Bool) → Is (cond b (joined t x y) (forced_near bodies t x y (nearest bodies x (filter (has_room most t) (t y)))))
        (cond b (join links layer (name_at bodies x) (name_at bodies y)) (rules.forced_near m members links layer (name_at bodies x) (name_at bodies y) (option_map (name_at bodies) (nearest bodies x (filter (has_room most t) (t y))))))
    force_by true = join_named bodies layers ids members are tables layer t links x y h lx ly
    force_by false = near_by (nearest bodies x (filter (has_room most t) (t y))) refl

    pub force_named : Is (forced_at bodies most t x y) (rules.forced_at m members links layer (name_at bodies x) (name_at bodies y))
    force_named =
        subst (λ q. Is (forced_at bodies most t x y) (cond q (join links layer (name_at bodies x) (name_at bodies y))
        (rules.forced_near m members links layer (name_at bodies x) (name_at bodies y) (find (defs.has_room m members links layer) (by_nearness_to members (name_at bodies x) (neighbours members links layer (name_at bodies y)))))))
        (sym (room_same bodies layers ids members are tables layer m most t links good h bound y ly))
        (subst (λ o. Is (forced_at bodies most t x y) (cond (has_room most t y) (join links layer (name_at bodies x) (name_at bodies y)) (rules.forced_near m members links layer (name_at bodies x) (name_at bodies y) o)))
        (sym (nearest_same bodies layers ids members are tables layer m most t links good h bound x y lx ly))
        (force_by (has_room most t y)))

  module _ (t : Table) (links : Links) (good : IsGoodTable layers layer most t) (h : Is t links) (x : ℕ) (chosen : List ℕ) (free : t x ≡ []) (stands : layer < layers x) (chosen_are : AreChosen layers layer most x chosen) where
    offered_named : (i : ℕ) → i ≤ length chosen → Is (offered bodies most t x (take i chosen)) (fold (rules.accepted m members (name_at bodies x) layer) links (map (name_at bodies) (take i chosen)))
    offered_named zero lt = h
    offered_named (suc i) lt =
        let y = get_or chosen i 0 in
        let less : i < length chosen = omega arith in
        let was = offered_all bodies layers layer most x t chosen good free stands chosen_are i (omega arith) in
        let now = offered bodies most t x (take i chosen) in
        let y_stands : layer < layers y = (chosen_are.stand i 0 less).0 in
        let apart : is_in now x y ≡ false = false_from_ne_true (is_in now x y) (λ k. both_ways (list_any (nat_eq y) (take i chosen)) (not_before bodies layers layer most x t chosen good free stands chosen_are i less) (was.taken y k)) in
        let step : Is (accepted bodies most x now y) (rules.accepted m members (name_at bodies x) layer (fold (rules.accepted m members (name_at bodies x) layer) links (map (name_at bodies) (take i chosen))) (name_at bodies y)) =
        accept_named now (fold (rules.accepted m members (name_at bodies x) layer) links (map (name_at bodies) (take i chosen))) was.good (offered_named i (omega arith)) x y (are.live layer x stands) (are.live layer y y_stands)
        (λ e. (chosen_are.stand i 0 less).1 (sym e)) apart in
        subst (λ l. Is (offered bodies most t x l) (fold (rules.accepted m members (name_at bodies x) layer) links (map (name_at bodies) l))) (sym (take-suc chosen i 0 less))
        (subst (λ u. Is u (fold (rules.accepted m members (name_at bodies x) layer) links (map (name_at bodies) (take i chosen ++ y ∷ [])))) (sym (fold-append (accepted bodies most x) t (take i chosen) (y ∷ [])))
        (subst (λ l. Is (accepted bodies most x now y) (fold (rules.accepted m members (name_at bodies x) layer) links l)) (sym (map-append (name_at bodies) (take i chosen) (y ∷ [])))
        (subst (λ k. Is (accepted bodies most x now y) k) (sym (fold-append (rules.accepted m members (name_at bodies x) layer) links (map (name_at bodies) (take i chosen)) (name_at bodies y ∷ []))) step)))

    target_named : (fallback : Option ℕ) → rules.forced_target m members (map (name_at bodies) chosen) (option_map (name_at bodies) fallback) ≡ option_map (name_at bodies) (target chosen fallback)
    target_named fallback = by_list chosen where
      by_list : (cs : List ℕ) → rules.forced_target m members (map (name_at bodies) cs) (option_map (name_at bodies) fallback) ≡ option_map (name_at bodies) (target cs fallback)
      by_list [] = refl
      by_list (c ∷ cs) = refl

    same_either : (u : Table) (now : Links) (b : Bool) → Is u now → Is u (cond b now now)
    same_either u now true k = k
    same_either u now false k = k

    linked_by : (u : Table) (now : Links) → IsGoodTable layers layer most u → Is u now → (o : Option ℕ) → IfSome o (λ y. (layer < layers y) × (y ≢ x)) → (b : Bool) → eqb (length (u x)) 0 ≡ b
        → Is (cond b (forced bodies most u x o) u) (cond (nat_lt (length (u x)) 1 && another_stands members layer (name_at bodies x)) (rules.forced m members now layer (name_at bodies x) (option_map (name_at bodies) o)) now)
    linked_by u now u_good k o may false e =
        subst (λ q. Is u (cond (q && another_stands members layer (name_at bodies x)) (rules.forced m members now layer (name_at bodies x) (option_map (name_at bodies) o)) now))
        (sym (le-ltb (length (u x)) 1 (some_left (length (u x)) (eqb-false (length (u x)) 0 e)))) k where
          some_left : (n : ℕ) → (n ≡ 0 → ⊥) → 1 ≤ n
          some_left zero f = absurd (f refl)
          some_left (suc n) f = omega arith
    linked_by u now u_good k None may true e = same_either u now (nat_lt (length (u x)) 1 && another_stands members layer (name_at bodies x)) k
    linked_by u now u_good k (Some y) may true e =
        let empty : u x ≡ [] = empty_list bodies layers layer most x (u x) e in
        let lx : is_live ids x ≡ true = are.live layer x stands in
        subst (λ q. Is (forced_at bodies most u x y) (cond q (rules.forced_at m members now layer (name_at bodies x) (name_at bodies y)) now))
        (sym (ap (λ q. q && another_stands members layer (name_at bodies x)) (lt-ltb (length (u x)) 1 (omega (arith, eqb-true (length (u x)) 0 e))) ∙ another_named bodies layers ids members are layer x y lx may.0 may.1))
        (force_named u now u_good k x y lx (are.live layer y may.0) (λ s. may.1 (sym s)) (ap (list_any (nat_eq y)) empty))

    pub linked_named : (fallback : Option ℕ) → IfSome (target chosen fallback) (λ y. (layer < layers y) × (y ≢ x))
        → Is (linked bodies most t x chosen fallback) (rules.linked m members links (name_at bodies x) layer (map (name_at bodies) chosen) (option_map (name_at bodies) fallback))
    linked_named fallback may =
        let after = offered bodies most t x chosen in
        let now = fold (rules.accepted m members (name_at bodies x) layer) links (map (name_at bodies) chosen) in
        let all : Is after now =
        subst (λ l. Is (offered bodies most t x l) (fold (rules.accepted m members (name_at bodies x) layer) links (map (name_at bodies) l))) (take-length chosen) (offered_named (length chosen) (omega arith)) in
        let after_good : IsGoodTable layers layer most after =
        subst (λ l. IsGoodTable layers layer most (offered bodies most t x l)) (take-length chosen) (offered_all bodies layers layer most x t chosen good free stands chosen_are (length chosen) (omega arith)).good in
        subst (λ q. Is (linked bodies most t x chosen fallback)
        (cond (nat_lt q 1 && another_stands members layer (name_at bodies x))
        (rules.forced m members now layer (name_at bodies x) (rules.forced_target m members (map (name_at bodies) chosen) (option_map (name_at bodies) fallback))) now))
        (sym (degree_same bodies layers ids members are tables layer most after now after_good all x (are.live layer x stands)))
        (subst (λ o. Is (linked bodies most t x chosen fallback) (cond (nat_lt (length (after x)) 1 && another_stands members layer (name_at bodies x)) (rules.forced m members now layer (name_at bodies x) o) now))
        (sym (target_named fallback)) (linked_by after now after_good all (target chosen fallback) may (eqb (length (after x)) 0) refl))
