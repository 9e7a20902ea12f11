-- The members that are left without one, by ids and by names.
use Rattle.std.proofs.Common.{◌≡◌, ◌≢◌, ℕ, not, ◌&&◌, eqb, List, [], sym, ap, ◌∙◌, inl, inr}
use Rattle.std.specs.Prelude.{is_some, option_map}
use Rattle.std.specs.Option.{option_map_or}
use Rattle.std.specs.declared.option.Option.{Option}
use Rattle.std.proofs.lemmas.Bool.{cases_eq, eq-eqb, ne_eqb}
use Rattle.std.proofs.Math.Bool.{and-true, and-false}
use Rattle.vs_defs.specs.Removal as rules
use Rattle.vs_graph.specs.declared.node.Node.{Node}
use Rattle.vs_graph.specs.Good.{AreLinksGood}
use Rattle.vs_graph.specs.Named.{is_live}
use Rattle.vs_graph.specs.Table.{without}
use Rattle.vs_graph.specs.Standing.{AreIds, members_of, name_of}
use Rattle.vs_graph.proofs.Lists.{has_without, distinct_without}
use Rattle.vs_unlink.specs.Unlinked.{IsWithout}
use Rattle.vs_unlink.proofs.Leavings as leavings
use Rattle.vs_unlink.proofs.Bare.{body_bare, live_bare}

-- ---- the members without one

module _ (at now : ℕ → Option Node) (x m dim : ℕ) (ids : List ℕ) (good : AreLinksGood at m dim) (are : AreIds at ids) (gone : IsWithout at now x) where
  live_by : (id : ℕ) → (is_live ids id && not (eqb id x)) ≡ is_some (now id)
  live_by id = elim (cases_eq id x) [
    | inl is ↦ ap (λ b. is_live ids id && not b) (eq-eqb id x is) ∙ and-false (is_live ids id) ∙ sym (ap is_some (ap now is ∙ gone.gone))
    | inr ne ↦ ap (λ b. is_live ids id && not b) (ne_eqb id x ne) ∙ and-true (is_live ids id) ∙ are.live id ∙ sym (live_bare (at id)) ∙ sym (ap is_some (gone.others id ne)) ∙ live_bare (now id)
  ]

  pub ids_left : AreIds now (without x ids)
  ids_left = record { once = distinct_without x ids are.once; live = λ id. has_without x id ids ∙ live_by id }

  pub name_left : (q : ℕ) → q ≢ x → name_of now q ≡ name_of at q
  name_left q ne = ap (λ o. option_map_or (λ body. body.name) o []) (sym (body_bare (now q)) ∙ ap (option_map (λ n. n.body)) (gone.others q ne) ∙ body_bare (at q))

  pub members_left : members_of now dim (without x ids) ≡ rules.all_but (name_of at x) (members_of at dim ids)
  members_left = leavings.members_left at now x m dim ids good are gone.was gone.others
