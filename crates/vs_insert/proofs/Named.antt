-- A new member that is joined at each of its layers is linked, by names, as the definitions say.
use Rattle.std.proofs.Common.{◌≡◌, ◌≢◌, ◌⊎◌, ℕ, zero, suc, ◌+◌, ◌≤◌, Bool, true, false, cond, eqb, ◌||◌, List, [], ◌∷◌, ◌++◌, length, add-one, refl, sym, ap, ◌∙◌, arith, inl, inr}
use Rattle.std.specs.Prelude.{Some, None, IsSome, is_some, IsSomeAnd, IfSome, nat_eq, nat_lt, nat_le, option_map, unwrap_or}
use Rattle.std.specs.List.{list_any}
use Rattle.std.specs.Option.{option_map_or}
use Rattle.std.specs.declared.option.Option.{Option}
use Rattle.std.proofs.lemmas.Bool.{cases_eq, cond-true, le-leb, both_ways, ne_eqb, eq-eqb, false_from_ne_true}
use Rattle.std.proofs.Math.Bool.{or-true}
use Rattle.std.proofs.lemmas.List.{map-append}
use Rattle.vs_defs.specs.Bytes.{Bytes}
use Rattle.vs_defs.specs.Store.{Member, no_member}
use Rattle.vs_defs.specs.Links.{Links}
use Rattle.vs_defs.specs.Beam as defs
use Rattle.vs_defs.specs.Beam.{layers_down}
use Rattle.vs_defs.specs.Words.{FitsDimension}
use Rattle.vs_defs.specs.Insertion.{linked_along, entry_by, IsLinkedBy}
use Rattle.vs_graph.specs.declared.node.Node.{Node}
use Rattle.vs_graph.specs.Good.{body_at, links_at, links_of, AreLinksGood, IsEntry, IsGood}
use Rattle.vs_graph.specs.Newcomer.{ChangesAt, IsNewcomer}
use Rattle.vs_graph.specs.Named.{is_live, IsLiveName, IsNamed}
use Rattle.vs_graph.specs.Standing.{AreIds, member_of_node, member_at, members_of, name_of, named_links, set_of}
use Rattle.vs_graph.specs.Table.{is_in}
use Rattle.vs_graph.proofs.Goods.{contains_from}
use Rattle.vs_graph.proofs.Lists.{has_push, distinct_push, or_false}
use Rattle.vs_graph.proofs.Newcomers.{same_links}
use Rattle.vs_graph.proofs.Naming.{names_fixed}
use Rattle.vs_graph.proofs.Sorts.{test_from_in, map_same_in}
use Rattle.vs_graph.proofs.Standing.{member_there, are_named}
use Rattle.vs_graph.proofs.NodeLaws.{none_stands}
use Rattle.vs_beam.specs.Beam.{level_at}
use Rattle.vs_unlink.specs.Unlinked.{bare}
use Rattle.vs_insert.specs.declared.draft.Chosen.{Chosen}
use Rattle.vs_insert.specs.Drafts.{names_down}
use Rattle.vs_insert.specs.Joined.{layers_below, IsJoinedFrom}
use Rattle.vs_insert.specs.Added.{entry_after}
use Rattle.vs_unlink.proofs.Leavings.{same_member_by}
use Rattle.vs_insert.proofs.Bare.{names_same, members_same, ids_on, ids_back}
use Rattle.vs_insert.proofs.Adding.{mid_good}
use Rattle.vs_insert.proofs.Stepping.{links_ext}

pub layers_are : (n : ℕ) → layers_down n 0 ≡ layers_below (suc n)
layers_are zero = refl
layers_are (suc n) = cond-true (nat_le 0 (suc n)) (suc n ∷ layers_down n 0) [] (le-leb 0 (suc n) (omega arith)) ∙ ap (λ l. suc n ∷ l) (layers_are n)

live_layer : (o : Option Node) → IsSome o → IsSomeAnd o (λ n. 0 ≤ n.level)
live_layer None h = absurd (both_ways false refl h)
live_layer (Some n) h = omega arith

live_name : (o : Option Node) (name : Bytes) → IsSome o → IfSome o (λ other. other.body.name ≢ name) → option_map_or (λ body. body.name) (option_map (λ n. n.body) o) [] ≢ name
live_name None name h apart e = absurd (both_ways false refl h)
live_name (Some n) name h apart e = apart e

pub level_of_member : (dim : ℕ) (o : Option Node) → (option_map_or (member_of_node dim) o no_member).level ≡ option_map_or (λ n. n.level) o 0
level_of_member dim None = refl
level_of_member dim (Some n) = refl

module _ (at mid : ℕ → Option Node) (entry : Option ℕ) (m dim id : ℕ) (node : Node) (good : IsGood at entry m dim) (newcomer : IsNewcomer at id node) (change : ChangesAt at mid id (Some node)) (fits : FitsDimension dim node.body.bits) where
  before : AreLinksGood mid m dim
  before = mid_good at mid entry m dim id node good newcomer change fits

  its_name : name_of mid id ≡ node.body.name
  its_name = ap (λ o. option_map_or (λ body. body.name) (option_map (λ n. n.body) o) []) change.there

  other_name : (q : ℕ) → q ≢ id → name_of mid q ≡ name_of at q
  other_name q ne = ap (λ o. option_map_or (λ body. body.name) (option_map (λ n. n.body) o) []) (change.others q ne)

  some_not_new : (q : ℕ) → IsSome (at q) → q ≢ id
  some_not_new q h is = both_ways (is_some (at q)) (ap is_some (ap at is ∙ newcomer.free)) h

  entry_live : (o : Option Node) (P : Node → Type 0) → IsSomeAnd o P → IsSome o
  entry_live None P h = absurd h
  entry_live (Some n) P h = refl

  entry_named : (e : Option ℕ) → IsEntry at e → option_map (name_of mid) e ≡ option_map (name_of at) e
  entry_named None top = refl
  entry_named (Some e) top = ap (λ n. Some n) (other_name e (some_not_new e (entry_live (at e) _ top)))

  -- ---- the links by names, with the new member and without it

  module _ (ids all : List ℕ) (are : AreIds at ids) (are_all : AreIds mid all) where
    live_at : (q : ℕ) → q ≢ id → is_live all q ≡ is_live ids q
    live_at q ne = are_all.live q ∙ ap is_some (change.others q ne) ∙ sym (are.live q)

    known : (l : ℕ) → IsNamed (body_at at) ids (λ k. links_at at k) (named_links at ids)
    known l = are_named at m dim ids good.links are

    not_linked : (l : ℕ) (a b : Bytes) → (a ≡ node.body.name) ⊎ (b ≡ node.body.name) → named_links at ids l a b ≡ false
    not_linked l a b which = false_from_ne_true (named_links at ids l a b) (λ h.
        let w = (known l).within l a b h in
        elim which [
          | inl e ↦ live_name (at w.0.0) node.body.name (sym (are.live w.0.0) ∙ w.0.1) (newcomer.name w.0.0) (w.0.2 ∙ e)
          | inr e ↦ live_name (at w.1.0) node.body.name (sym (are.live w.1.0) ∙ w.1.1) (newcomer.name w.1.0) (w.1.2 ∙ e)
        ])

    none_from : (l b : ℕ) → is_in (links_at mid l) id b ≡ false
    none_from l b = ap (λ xs. list_any (nat_eq b) xs) (same_links at mid id node newcomer change l id ∙ ap (λ o. option_map_or (λ n. links_of n l) o []) newcomer.free)

    none_to : (l a : ℕ) → is_in (links_at mid l) a id ≡ false
    none_to l a = ap (λ xs. list_any (nat_eq id) xs) (same_links at mid id node newcomer change l a)
        ∙ false_from_ne_true (is_in (links_at at l) a id) (λ h. none_stands (at id) l newcomer.free (good.links.stand l a id (contains_from (links_at at l a) id h)))

    same_by : (l a b : ℕ) → is_live all a ≡ true → is_live all b ≡ true → named_links at ids l (name_of mid a) (name_of mid b) ≡ is_in (links_at mid l) a b
    same_by l a b la lb =
        elim (cases_eq a id) [
          | inl is ↦
              not_linked l (name_of mid a) (name_of mid b) (inl (ap (name_of mid) is ∙ its_name)) ∙ sym (ap (λ k. is_in (links_at mid l) k b) is ∙ none_from l b)
          | inr na ↦ elim (cases_eq b id) [
            | inl is ↦ not_linked l (name_of mid a) (name_of mid b) (inr (ap (name_of mid) is ∙ its_name)) ∙ sym (ap (λ k. is_in (links_at mid l) a k) is ∙ none_to l a)
            | inr nb ↦
                ap (λ n. named_links at ids l n (name_of mid b)) (other_name a na) ∙ ap (λ n. named_links at ids l (name_of at a) n) (other_name b nb)
                ∙ (known l).same l a b (sym (live_at a na) ∙ la) (sym (live_at b nb) ∙ lb) ∙ sym (ap (λ xs. list_any (nat_eq b) xs) (same_links at mid id node newcomer change l a))
          ]
        ]

    live_now : (a : Bytes) → IsLiveName (body_at at) ids a → IsLiveName (body_at mid) all a
    live_now a w =
        let ne = some_not_new w.0 (sym (are.live w.0) ∙ w.1) in
        (w.0, live_at w.0 ne ∙ w.1, other_name w.0 ne ∙ w.2)

    pub links_before : named_links mid all ≡ named_links at ids
    links_before =
        links_ext (named_links mid all) (named_links at ids)
        (names_fixed (body_at mid) all (λ k. links_at mid k) (named_links mid all) (named_links at ids) (are_named mid m dim all before are_all)
        (record { same = same_by; within = λ l a b h. let w = (known l).within l a b h in (live_now a w.0, live_now b w.1) }))

  -- ---- the definition

  module _ (new : ℕ → Option Node) (chosen : List (List Chosen)) (long : length chosen ≡ node.level + 1) (j : IsJoinedFrom mid new m id entry chosen 0) where
    same_layers : layers_below (length chosen) ≡ layers_down node.level 0
    same_layers = ap layers_below (long ∙ add-one node.level) ∙ sym (layers_are node.level)

    level_named : (cut e : ℕ) (ids : List ℕ) → IsSome (at e) → AreIds at ids → defs.level_at (set_of at entry m dim cut ids) (name_of at e) ≡ level_at at e
    level_named cut e ids some are =
        ap (λ o. unwrap_or (option_map (λ (x : Member). x.level) o) 0) (member_there at m dim ids good.links are e (are.live e ∙ some)) ∙ level_of_member dim (at e)

    entry_by_test : (e : ℕ) (b : Bool) → IsSome (at e) → option_map (name_of new) (cond b (Some id) (Some e)) ≡ cond b (Some node.body.name) (Some (name_of at e))
    entry_by_test e true some = ap (λ n. Some n) (ap (λ (f : ℕ → Bytes). f id) (names_same mid new j.rest) ∙ its_name)
    entry_by_test e false some = ap (λ n. Some n) (ap (λ (f : ℕ → Bytes). f e) (names_same mid new j.rest) ∙ other_name e (some_not_new e some))

    entry_is : (cut : ℕ) (ids : List ℕ) → AreIds at ids → (e : Option ℕ) → IsEntry at e
        → option_map (name_of new) (entry_after at e id node.level) ≡ entry_by (set_of at entry m dim cut ids) node.body.name node.level (option_map (name_of at) e)
    entry_is cut ids are None top = ap (λ n. Some n) (ap (λ (f : ℕ → Bytes). f id) (names_same mid new j.rest) ∙ its_name)
    entry_is cut ids are (Some e) top =
        let some = entry_live (at e) _ top in
        entry_by_test e (nat_lt (level_at at e) node.level) some
        ∙ ap (λ n. cond (nat_lt n node.level) (Some node.body.name) (Some (name_of at e))) (sym (level_named cut e ids some are))

    pub linked_by : (cut after : ℕ) (ids all : List ℕ) → AreIds at ids → AreIds new all
        → IsLinkedBy (set_of at entry m dim cut ids) node.body.name node.level (names_down chosen) (set_of new (entry_after at entry id node.level) m dim after all)
    linked_by cut after ids all are are_new =
        let are_mid = ids_back mid new j.rest all are_new in
        let made : linked_along m (members_of mid dim all) (named_links mid all) (name_of mid id) (option_map (name_of mid) entry) (layers_below (length chosen)) (names_down chosen) ≡ named_links new all = j.named dim all before are_mid in
        let whole : linked_along m (members_of new dim all) (named_links at ids) node.body.name (option_map (name_of at) entry) (layers_down node.level 0) (names_down chosen) ≡ named_links new all =
        ap (λ ms. linked_along m ms (named_links at ids) node.body.name (option_map (name_of at) entry) (layers_down node.level 0) (names_down chosen)) (members_same mid new j.rest dim all)
        ∙ ap (λ links. linked_along m (members_of mid dim all) links node.body.name (option_map (name_of at) entry) (layers_down node.level 0) (names_down chosen)) (sym (links_before ids all are are_mid))
        ∙ ap (λ x. linked_along m (members_of mid dim all) (named_links mid all) x (option_map (name_of at) entry) (layers_down node.level 0) (names_down chosen)) (sym its_name)
        ∙ ap (λ e. linked_along m (members_of mid dim all) (named_links mid all) (name_of mid id) e (layers_down node.level 0) (names_down chosen)) (sym (entry_named entry good.top))
        ∙ ap (λ ls. linked_along m (members_of mid dim all) (named_links mid all) (name_of mid id) (option_map (name_of mid) entry) ls (names_down chosen)) (sym same_layers) ∙ made in
        record {
          links = λ layer a b. ap (λ (links : Links). links layer a b) (sym whole);
          entry = entry_is cut ids are entry good.top;
        }

    -- ---- the members

    pub last_id : (ids : List ℕ) → AreIds at ids → AreIds new (ids ++ id ∷ [])
    last_id ids are =
        let absent : list_any (nat_eq id) ids ≡ false = are.live id ∙ ap is_some newcomer.free in
        ids_on mid new j.rest (ids ++ id ∷ []) (record {
          once = distinct_push ids id are.once absent;
          live = λ q. has_push ids id q ∙ live_by q;
        }) where
          live_by : (q : ℕ) → (list_any (nat_eq q) ids || eqb q id) ≡ is_some (mid q)
          live_by q =
              elim (cases_eq q id) [
                | inl is ↦ ap (λ b. list_any (nat_eq q) ids || b) (eq-eqb q id is) ∙ or-true (list_any (nat_eq q) ids) ∙ sym (ap is_some (ap mid is ∙ change.there))
                | inr ne ↦ ap (λ b. list_any (nat_eq q) ids || b) (ne_eqb q id ne) ∙ or_false (list_any (nat_eq q) ids) ∙ are.live q ∙ sym (ap is_some (change.others q ne))
              ]

    pub members_are : (ids : List ℕ) → AreIds at ids → members_of new dim (ids ++ id ∷ []) ≡ members_of at dim ids ++ member_of_node dim node ∷ []
    members_are ids are =
        map-append (member_at new dim) ids (id ∷ [])
        ∙ ap (λ l. l ++ member_at new dim id ∷ [])
        (map_same_in (member_at new dim) (member_at at dim) ids
        (λ q inside. same_member_by (new q) (at q) dim (j.rest q ∙ ap bare (change.others q (some_not_new q (sym (are.live q) ∙ test_from_in q ids inside))))))
        ∙ ap (λ x. members_of at dim ids ++ x ∷ []) (same_member_by (new id) (Some node) dim (j.rest id ∙ ap bare change.there))
