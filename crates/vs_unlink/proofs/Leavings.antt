-- The members that are left where one is taken out and the nodes of all others are as they were but for links.
use Rattle.std.proofs.Common.{◌≡◌, ◌≢◌, ℕ, true, not, eqb, List, map, refl, sym, ap, ◌∙◌, inl, inr}
use Rattle.std.specs.Prelude.{Some, None, IsSome}
use Rattle.std.specs.Option.{option_map_or}
use Rattle.std.specs.declared.option.Option.{Option}
use Rattle.std.proofs.lemmas.Bool.{cases_eq, not-true, eq-eqb, eqb-false, ne_eqb, false_from_ne_true}
use Rattle.std.proofs.lemmas.Slice.Eq.{bytes_eq-Decides}
use Rattle.vs_defs.specs.Bytes.{same_name}
use Rattle.vs_defs.specs.Store.{Member, is_of_name, no_member}
use Rattle.vs_defs.specs.Removal as rules
use Rattle.vs_graph.specs.declared.node.Node.{Node}
use Rattle.vs_graph.specs.Good.{AreLinksGood}
use Rattle.vs_graph.specs.Named.{is_live}
use Rattle.vs_graph.specs.Table.{without}
use Rattle.vs_graph.specs.Standing.{AreIds, member_of_node, member_at, members_of, name_of}
use Rattle.vs_graph.proofs.Sorts.{In, filter_of_map, filter_same, test_from_in, from_filter, map_same_in}
use Rattle.vs_graph.proofs.Standing.{member_name, names_differ}
use Rattle.vs_unlink.specs.Unlinked.{bare}

member_bare : (dim : ℕ) (o : Option Node) → option_map_or (member_of_node dim) (bare o) no_member ≡ option_map_or (member_of_node dim) o no_member
member_bare dim None = refl
member_bare dim (Some node) = refl

-- a member is the same where the nodes are but for links
pub same_member_by : (one other : Option Node) (dim : ℕ) → bare one ≡ bare other → option_map_or (member_of_node dim) one no_member ≡ option_map_or (member_of_node dim) other no_member
same_member_by one other dim e = sym (member_bare dim one) ∙ ap (λ o. option_map_or (member_of_node dim) o no_member) e ∙ member_bare dim other

module _ (at new : ℕ → Option Node) (x m dim : ℕ) (ids : List ℕ) (good : AreLinksGood at m dim) (are : AreIds at ids) (live : IsSome (at x)) (rest : (id : ℕ) → id ≢ x → bare (new id) ≡ bare (at id)) where
  -- a live one's name is x's where it is x
  is_x : (q : ℕ) → is_live ids q ≡ true → not (is_of_name (name_of at x) (member_at at dim q)) ≡ not (eqb q x)
  is_x q live_q = elim (cases_eq q x) [
    | inl is ↦ ap not ((bytes_eq-Decides (name_of at x) (member_at at dim q).name).1 (ap (name_of at) (sym is) ∙ sym (member_name at m dim q)) ∙ sym (eq-eqb q x is))
    | inr ne ↦
        ap not (false_from_ne_true (same_name (name_of at x) (member_at at dim q).name)
        (λ h. ne (sym (names_differ at m dim ids good are x q (are.live x ∙ live) live_q ((bytes_eq-Decides (name_of at x) (member_at at dim q).name).0 h ∙ member_name at m dim q)))) ∙ sym (ne_eqb q x ne))
  ]

  other_in : (q : ℕ) → In q (without x ids) → q ≢ x
  other_in q inside = eqb-false q x (not-true (eqb q x) (from_filter (λ z. not (eqb z x)) q ids inside).1)

  pub members_left : members_of new dim (without x ids) ≡ rules.all_but (name_of at x) (members_of at dim ids)
  members_left =
      map_same_in (member_at new dim) (member_at at dim) (without x ids) (λ q inside. same_member_by (new q) (at q) dim (rest q (other_in q inside)))
      ∙ ap (map (member_at at dim)) (sym (filter_same (λ q. not (is_of_name (name_of at x) (member_at at dim q))) (λ q. not (eqb q x)) ids (λ q inside. is_x q (test_from_in q ids inside))))
      ∙ sym (filter_of_map (member_at at dim) (λ (y : Member). not (is_of_name (name_of at x) y)) ids)
