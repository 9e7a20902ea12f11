-- A member with another attribute: the graph is as good, its links by ids and by names are the same, and so are all other members.
use Rattle.std.proofs.Common.{◌≡◌, ℕ, ◌<◌, ◌≤◌, true, cond, List, [], ◌∷◌, length, map, refl, sym, ap, ◌∙◌, subst, inl, inr}
use Rattle.std.specs.Prelude.{Some, None, IsSome, is_some, IsSomeAnd, IfSome, option_map, flat_map, Contains}
use Rattle.std.specs.List.{range_with_len}
use Rattle.std.specs.Option.{option_map_or}
use Rattle.std.specs.declared.option.Option.{Option}
use Rattle.std.proofs.Math.Path.{fun_ext}
use Rattle.std.proofs.lemmas.Bool.{cases_eq, eq-eqb, ne_eqb}
use Rattle.vs_defs.specs.Bytes.{Bytes}
use Rattle.vs_defs.specs.PlainStep.{with_attr}
use Rattle.vs_defs.specs.Store.{Member, is_of_name}
use Rattle.vs_graph.specs.declared.node.Attr.{Attr}
use Rattle.vs_graph.specs.declared.node.Node.{Node}
use Rattle.vs_graph.specs.Attribute.{ChangesAttr, with_attribute}
use Rattle.vs_graph.specs.Good.{layers_at, links_at, links_of, IsGoodNode, AreLinksGood, AllLinked, IsEntry, IsGood}
use Rattle.vs_graph.specs.Named.{is_live}
use Rattle.vs_graph.specs.Standing.{AreIds, member_of_node, member_at, members_of, name_of, wiring_of}
use Rattle.vs_graph.proofs.Sorts.{In, test_from_in}
use Rattle.vs_graph.proofs.Replacing.{is_named_as}

-- ---- nodes without attributes

abbrev plain : Option Node → Option Node
plain o = option_map (with_attribute None) o

abbrev all_plain : (ℕ → Option Node) → ℕ → Option Node
all_plain at q = plain (at q)

abbrev Linked : (ℕ → ℕ → List ℕ) → ℕ → ℕ → ℕ → Type 0
Linked links layer a b = Contains (links layer a) b

module _ (m dim : ℕ) where
  node_to : (o : Option Node) → IfSome o (IsGoodNode m dim) → IfSome (plain o) (IsGoodNode m dim)
  node_to None h = h
  node_to (Some n) h = record { words = h.words; level = h.level; layers = h.layers; once = h.once; few = h.few }

  node_from : (o : Option Node) → IfSome (plain o) (IsGoodNode m dim) → IfSome o (IsGoodNode m dim)
  node_from None h = h
  node_from (Some n) h = record { words = h.words; level = h.level; layers = h.layers; once = h.once; few = h.few }

stands_to : (layer : ℕ) (o : Option Node) → IsSomeAnd o (λ n. layer ≤ n.level) → IsSomeAnd (plain o) (λ n. layer ≤ n.level)
stands_to layer None h = h
stands_to layer (Some n) h = h

stands_from : (layer : ℕ) (o : Option Node) → IsSomeAnd (plain o) (λ n. layer ≤ n.level) → IsSomeAnd o (λ n. layer ≤ n.level)
stands_from layer None h = h
stands_from layer (Some n) h = h

names_to : (o p : Option Node) (P : Type 0) → IfSome o (λ x. IfSome p (λ y. x.body.name ≡ y.body.name → P)) → IfSome (plain o) (λ x. IfSome (plain p) (λ y. x.body.name ≡ y.body.name → P))
names_to None p P h = h
names_to (Some x) None P h = h
names_to (Some x) (Some y) P h = h

names_from : (o p : Option Node) (P : Type 0) → IfSome (plain o) (λ x. IfSome (plain p) (λ y. x.body.name ≡ y.body.name → P)) → IfSome o (λ x. IfSome p (λ y. x.body.name ≡ y.body.name → P))
names_from None p P h = h
names_from (Some x) None P h = h
names_from (Some x) (Some y) P h = h

below_to : (n : ℕ) (o : Option Node) → IfSome o (λ k. k.level ≤ n) → IfSome (plain o) (λ k. k.level ≤ n)
below_to n None h = h
below_to n (Some k) h = h

below_from : (n : ℕ) (o : Option Node) → IfSome (plain o) (λ k. k.level ≤ n) → IfSome o (λ k. k.level ≤ n)
below_from n None h = h
below_from n (Some k) h = h

some_plain : (o : Option Node) → is_some (plain o) ≡ is_some o
some_plain None = refl
some_plain (Some n) = refl

none_from : (o : Option Node) → plain o ≡ None → o ≡ None
none_from None e = refl
none_from (Some n) e = cc

links_plain : (at : ℕ → Option Node) → links_at (all_plain at) ≡ links_at at
links_plain at = fun_ext (λ layer. fun_ext (λ q. by layer (at q))) where
  by : (layer : ℕ) (o : Option Node) → option_map_or (λ n. links_of n layer) (plain o) [] ≡ option_map_or (λ n. links_of n layer) o []
  by layer None = refl
  by layer (Some n) = refl

layers_plain : (at : ℕ → Option Node) → layers_at (all_plain at) ≡ layers_at at
layers_plain at = fun_ext (λ q. by (at q)) where
  by : (o : Option Node) → option_map_or (λ n. length n.links) (plain o) 0 ≡ option_map_or (λ n. length n.links) o 0
  by None = refl
  by (Some n) = refl

names_plain : (at : ℕ → Option Node) → name_of (all_plain at) ≡ name_of at
names_plain at = fun_ext (λ q. by (at q)) where
  by : (o : Option Node) → option_map_or (λ body. body.name) (option_map (λ n. n.body) (plain o)) [] ≡ option_map_or (λ body. body.name) (option_map (λ n. n.body) o) []
  by None = refl
  by (Some n) = refl

-- ---- a good graph

module _ (at : ℕ → Option Node) (m dim : ℕ) where
  links_to : AreLinksGood at m dim → AreLinksGood (all_plain at) m dim
  links_to h =
      let same = links_plain at in
      record {
        nodes = λ q. node_to m dim (at q) (h.nodes q);
        apart = λ layer a. subst (λ ls. Linked ls layer a a → ⊥) (sym same) (h.apart layer a);
        stand = λ layer a b. subst (λ ls. Linked ls layer a b → IsSomeAnd (plain (at b)) (λ n. layer ≤ n.level)) (sym same) (λ k. stands_to layer (at b) (h.stand layer a b k));
        back = λ layer a b. subst (λ ls. Linked ls layer a b → Linked ls layer b a) (sym same) (h.back layer a b);
        names = λ a b. names_to (at a) (at b) (a ≡ b) (h.names a b);
        small = λ q k. h.small q (sym (some_plain (at q)) ∙ k);
      }

  links_from : AreLinksGood (all_plain at) m dim → AreLinksGood at m dim
  links_from h =
      let same = links_plain at in
      record {
        nodes = λ q. node_from m dim (at q) (h.nodes q);
        apart = λ layer a. subst (λ ls. Linked ls layer a a → ⊥) same (h.apart layer a);
        stand = λ layer a b. subst (λ ls. Linked ls layer a b → IsSomeAnd (at b) (λ n. layer ≤ n.level)) same (λ k. stands_from layer (at b) (h.stand layer a b k));
        back = λ layer a b. subst (λ ls. Linked ls layer a b → Linked ls layer b a) same (h.back layer a b);
        names = λ a b. names_from (at a) (at b) (a ≡ b) (h.names a b);
        small = λ q k. h.small q (some_plain (at q) ∙ k);
      }

  linked_to : AllLinked at → AllLinked (all_plain at)
  linked_to h layer a b ne sa sb = subst (λ ls. 0 < length (ls layer a)) (sym (links_plain at)) (h layer a b ne (stands_from layer (at a) sa) (stands_from layer (at b) sb))

  linked_from : AllLinked (all_plain at) → AllLinked at
  linked_from h layer a b ne sa sb = subst (λ ls. 0 < length (ls layer a)) (links_plain at) (h layer a b ne (stands_to layer (at a) sa) (stands_to layer (at b) sb))

  entry_to : (entry : Option ℕ) → IsEntry at entry → IsEntry (all_plain at) entry
  entry_to None h = λ q. ap plain (h q)
  entry_to (Some e) h = by (at e) h where
    by : (o : Option Node) → IsSomeAnd o (λ n. (q : ℕ) → IfSome (at q) (λ k. k.level ≤ n.level)) → IsSomeAnd (plain o) (λ n. (q : ℕ) → IfSome (plain (at q)) (λ k. k.level ≤ n.level))
    by None k = k
    by (Some n) k = λ q. below_to n.level (at q) (k q)

  entry_from : (entry : Option ℕ) → IsEntry (all_plain at) entry → IsEntry at entry
  entry_from None h = λ q. none_from (at q) (h q)
  entry_from (Some e) h = by (at e) h where
    by : (o : Option Node) → IsSomeAnd (plain o) (λ n. (q : ℕ) → IfSome (plain (at q)) (λ k. k.level ≤ n.level)) → IsSomeAnd o (λ n. (q : ℕ) → IfSome (at q) (λ k. k.level ≤ n.level))
    by None k = k
    by (Some n) k = λ q. below_from n.level (at q) (k q)

  good_to : (entry : Option ℕ) → IsGood at entry m dim → IsGood (all_plain at) entry m dim
  good_to entry h = record { links = links_to h.links; linked = linked_to h.linked; top = entry_to entry h.top; m_low = h.m_low; m_high = h.m_high; dim_low = h.dim_low; dim_high = h.dim_high }

  good_from : (entry : Option ℕ) → IsGood (all_plain at) entry m dim → IsGood at entry m dim
  good_from entry h = record { links = links_from h.links; linked = linked_from h.linked; top = entry_from entry h.top; m_low = h.m_low; m_high = h.m_high; dim_low = h.dim_low; dim_high = h.dim_high }

-- ---- the change

module _ (at new : ℕ → Option Node) (id : ℕ) (attr : Option Attr) (change : ChangesAttr at new id attr) where
  same_at : (q : ℕ) → plain (new q) ≡ plain (at q)
  same_at q = elim (cases_eq q id) [
    | inl is ↦ ap (λ k. plain (new k)) is ∙ ap plain change.there ∙ by (at id) ∙ ap (λ k. plain (at k)) (sym is)
    | inr ne ↦ ap plain (change.others q ne)
  ] where
    by : (o : Option Node) → plain (option_map (with_attribute attr) o) ≡ plain o
    by None = refl
    by (Some n) = refl

  same : all_plain new ≡ all_plain at
  same = fun_ext same_at

  pub good_still : (entry : Option ℕ) (m dim : ℕ) → IsGood at entry m dim → IsGood new entry m dim
  good_still entry m dim h = good_from new m dim entry (subst (λ f. IsGood f entry m dim) (sym same) (good_to at m dim entry h))

  pub links_still : links_at new ≡ links_at at
  links_still = sym (links_plain new) ∙ ap links_at same ∙ links_plain at

  layers_still : layers_at new ≡ layers_at at
  layers_still = sym (layers_plain new) ∙ ap layers_at same ∙ layers_plain at

  names_still : name_of new ≡ name_of at
  names_still = sym (names_plain new) ∙ ap name_of same ∙ names_plain at

  pub wiring_still : (entry : Option ℕ) (ids : List ℕ) → wiring_of new entry ids ≡ wiring_of at entry ids
  wiring_still entry ids = λ i. record {
    links = flat_map (λ q. flat_map (λ layer. map (λ other. record { layer = layer; «from» = names_still i q; to = names_still i other }) (links_still i layer q)) (range_with_len 0 (layers_still i q))) ids;
    entry = option_map (names_still i) entry;
  }

  pub ids_still : (ids : List ℕ) → AreIds at ids → AreIds new ids
  ids_still ids are = record { once = are.once; live = λ q. are.live q ∙ sym (some_plain (at q)) ∙ ap is_some (sym (same_at q)) ∙ some_plain (new q) }

  -- ---- the members

  module _ (m dim : ℕ) (ids : List ℕ) (good : AreLinksGood at m dim) (are : AreIds at ids) (some : IsSome (at id)) where
    abbrev text : Option Bytes
    text = option_map (λ (a : Attr). a.text) attr

    abbrev put_on : Member → Member
    put_on y = cond (is_of_name (name_of at id) y) (record y { attr = text }) y

    own : (o : Option Node) → IsSome o → option_map_or (member_of_node dim) (option_map (with_attribute attr) o) (record { name = []; bits = []; attr = None; level = 0 })
        ≡ record (option_map_or (member_of_node dim) o (record { name = []; bits = []; attr = None; level = 0 })) { attr = text }
    own None h = cc
    own (Some n) h = refl

    one_member : (q : ℕ) → is_live ids q ≡ true → member_at new dim q ≡ put_on (member_at at dim q)
    one_member q live = elim (cases_eq q id) [
      | inl is ↦
          ap (member_at new dim) is ∙ ap (λ o. option_map_or (member_of_node dim) o (record { name = []; bits = []; attr = None; level = 0 })) change.there ∙ own (at id) some
          ∙ ap (λ k. record (member_at at dim k) { attr = text }) (sym is)
          ∙ sym (ap (λ b. cond b (record (member_at at dim q) { attr = text }) (member_at at dim q)) (is_named_as at m dim id ids good are some q live ∙ eq-eqb q id is))
      | inr ne ↦
          ap (λ o. option_map_or (member_of_node dim) o (record { name = []; bits = []; attr = None; level = 0 })) (change.others q ne)
          ∙ sym (ap (λ b. cond b (record (member_at at dim q) { attr = text }) (member_at at dim q)) (is_named_as at m dim id ids good are some q live ∙ ne_eqb q id ne))
    ]

    each_member : (xs : List ℕ) → ((q : ℕ) → In q xs → is_live ids q ≡ true) → map (member_at new dim) xs ≡ map put_on (map (member_at at dim) xs)
    each_member [] live = refl
    each_member (x ∷ xs) live = ap (λ y. y ∷ map (member_at new dim) xs) (one_member x (live x (inl refl))) ∙ ap (λ l. put_on (member_at at dim x) ∷ l) (each_member xs (λ q k. live q (inr k)))

    pub attributed : members_of new dim ids ≡ with_attr (name_of at id) text (members_of at dim ids)
    attributed = each_member ids (λ q h. test_from_in q ids h)
