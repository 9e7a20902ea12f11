-- A member that takes the place of the one of its name.
--     is_named_as      of the live ids, one alone has its name
--     placed           the members after it: those before, with it in that place
--     same_ids         the live ids after it
use Rattle.std.proofs.Common.{◌≡◌, ◌≢◌, ℕ, true, cond, eqb, List, [], ◌∷◌, map, refl, sym, ap, ◌∙◌, subst, inl, inr}
use Rattle.std.specs.Prelude.{IsSome, is_some, nat_eq}
use Rattle.std.specs.List.{list_any, IsDistinct}
use Rattle.std.specs.declared.option.Option.{Option}
use Rattle.std.proofs.lemmas.Bool.{cases_eq, both_ways, eq-eqb, ne_eqb, false_from_ne_true}
use Rattle.std.proofs.lemmas.Map.Keys.{IsDistinct-tail}
use Rattle.std.proofs.lemmas.Slice.Eq.{bytes_eq-Decides}
use Rattle.vs_defs.specs.Bytes.{same_name}
use Rattle.vs_defs.specs.Store.{Member, is_of_name, with_replaced}
use Rattle.vs_graph.specs.declared.node.Node.{Node}
use Rattle.vs_graph.specs.Good.{AreLinksGood}
use Rattle.vs_graph.specs.Named.{is_live}
use Rattle.vs_graph.specs.Standing.{AreIds, member_at, members_of, name_of}
use Rattle.vs_graph.proofs.Lists.{head_absent}
use Rattle.vs_graph.proofs.Sorts.{In, test_from_in, in_from_test, map_same_in}
use Rattle.vs_graph.proofs.Standing.{member_name, names_differ}

module _ (at : ℕ → Option Node) (m dim x : ℕ) (ids : List ℕ) (good : AreLinksGood at m dim) (are : AreIds at ids) (some : IsSome (at x)) where
  pub is_named_as : (q : ℕ) → is_live ids q ≡ true → is_of_name (name_of at x) (member_at at dim q) ≡ eqb q x
  is_named_as q live = elim (cases_eq q x) [
    | inl is ↦ (bytes_eq-Decides (name_of at x) (member_at at dim q).name).1 (ap (name_of at) (sym is) ∙ sym (member_name at m dim q)) ∙ sym (eq-eqb q x is)
    | inr ne ↦
        false_from_ne_true (same_name (name_of at x) (member_at at dim q).name)
        (λ h. ne (sym (names_differ at m dim ids good are x q (are.live x ∙ some) live ((bytes_eq-Decides (name_of at x) (member_at at dim q).name).0 h ∙ member_name at m dim q))))
        ∙ sym (ne_eqb q x ne)
  ]

  module _ (new : ℕ → Option Node) (same : (q : ℕ) → q ≢ x → member_at new dim q ≡ member_at at dim q) (named : name_of new x ≡ name_of at x) where
    abbrev Put : Member
    Put = member_at new dim x

    is_put : (q : ℕ) → is_live ids q ≡ true → is_of_name Put.name (member_at at dim q) ≡ eqb q x
    is_put q live = ap (λ n. is_of_name n (member_at at dim q)) (member_name new m dim x ∙ named) ∙ is_named_as q live

    replaced : (xs : List ℕ) → ((q : ℕ) → In q xs → is_live ids q ≡ true) → IsDistinct nat_eq xs → In x xs → map (member_at new dim) xs ≡ with_replaced Put (map (member_at at dim) xs)
    replaced [] live once h = absurd h
    replaced (y ∷ ys) live once h = elim (cases_eq y x) [
      | inl is ↦
          ap (λ k. member_at new dim k ∷ map (member_at new dim) ys) is
          ∙ ap (λ l. Put ∷ l) (map_same_in (member_at new dim) (member_at at dim) ys (λ q inside. same q (λ e. both_ways (list_any (nat_eq y) ys) (head_absent y ys once) (test_from_in y ys (subst (λ k. In k ys) (e ∙ sym is) inside)))))
          ∙ sym (ap (λ b. cond b (Put ∷ map (member_at at dim) ys) (member_at at dim y ∷ with_replaced Put (map (member_at at dim) ys))) (is_put y (live y (inl refl)) ∙ eq-eqb y x is))
      | inr ne ↦
          ap (λ e. e ∷ map (member_at new dim) ys) (same y ne)
          ∙ ap (λ l. member_at at dim y ∷ l) (replaced ys (λ q k. live q (inr k)) (IsDistinct-tail nat_eq y ys once) (elim h [ inl e ↦ absurd (ne (sym e)) | inr k ↦ k ]))
          ∙ sym (ap (λ b. cond b (Put ∷ map (member_at at dim) ys) (member_at at dim y ∷ with_replaced Put (map (member_at at dim) ys))) (is_put y (live y (inl refl)) ∙ ne_eqb y x ne))
    ]

    pub placed : members_of new dim ids ≡ with_replaced Put (members_of at dim ids)
    placed = replaced ids (λ q h. test_from_in q ids h) are.once (in_from_test x ids (are.live x ∙ some))

-- the same ids are live
pub same_ids : (at new : ℕ → Option Node) (x : ℕ) (ids : List ℕ) → AreIds at ids → IsSome (at x) → IsSome (new x) → ((q : ℕ) → q ≢ x → is_some (new q) ≡ is_some (at q)) → AreIds new ids
same_ids at new x ids are some there others = record {
  once = are.once;
  live = λ q. elim (cases_eq q x) [
    | inl is ↦ are.live q ∙ ap (λ k. is_some (at k)) is ∙ some ∙ sym there ∙ ap (λ k. is_some (new k)) (sym is)
    | inr ne ↦ are.live q ∙ sym (others q ne)
  ];
}
