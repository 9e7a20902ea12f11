-- A member that was taken out and is added again at its id stands in its old place.
use Rattle.std.proofs.Common.{◌≡◌, ◌≢◌, ℕ, List, sym, ap, ◌∙◌}
use Rattle.std.specs.Prelude.{Some, None, is_some, IsSomeAnd, option_map}
use Rattle.std.specs.Option.{option_map_or}
use Rattle.std.specs.declared.option.Option.{Option}
use Rattle.vs_defs.specs.Store.{with_replaced, no_member}
use Rattle.vs_defs.specs.Words.{bits_of_words}
use Rattle.vs_graph.specs.declared.node.Node.{Node}
use Rattle.vs_graph.specs.declared.node.Attr.{Attr}
use Rattle.vs_graph.specs.Good.{AreLinksGood}
use Rattle.vs_graph.specs.Standing.{AreIds, member_of_node, member_at, members_of, name_of}
use Rattle.vs_graph.proofs.Replacing.{placed, same_ids}
use Rattle.vs_graph.proofs.Standing.{member_name}
use Rattle.vs_unlink.specs.Unlinked.{IsWithout}
use Rattle.vs_unlink.proofs.Leavings.{same_member_by}
use Rattle.vs_unlink.proofs.Bare.{live_bare}
use Rattle.vs_insert.specs.declared.draft.Draft.{Draft}
use Rattle.vs_insert.specs.Added.{IsAdded}
use Rattle.vs_insert.specs.Chosen.{drafted_member}
use Rattle.vs_beam.proofs.Visits.{some_and}

module _ (at mid new : ℕ → Option Node) (entry : Option ℕ) (m dim x : ℕ) (attr : Option Attr) (draft : Draft) (ids : List ℕ) (good : AreLinksGood at m dim) (are : AreIds at ids) (gone : IsWithout at mid x)
    (added : IsAdded mid new entry m dim x attr draft) (named : name_of at x ≡ draft.body.name) where
  same_at : (q : ℕ) → q ≢ x → member_at new dim q ≡ member_at at dim q
  same_at q ne = same_member_by (new q) (at q) dim (added.others q ne ∙ gone.others q ne)

  put_by : (o : Option Node) → IsSomeAnd o (λ (node : Node). (node.body ≡ draft.body) × (node.attr ≡ attr) × (node.level ≡ draft.level)) → option_map_or (member_of_node dim) o no_member ≡ drafted_member dim attr draft
  put_by None h = absurd h
  put_by (Some node) h =
      ap (λ b. record { name = b.name; bits = bits_of_words dim b.bits; attr = option_map (λ (a : Attr). a.text) node.attr; level = node.level }) h.0
      ∙ ap (λ a. record { name = draft.body.name; bits = bits_of_words dim draft.body.bits; attr = option_map (λ (b : Attr). b.text) a; level = node.level }) h.1
      ∙ ap (λ l. record { name = draft.body.name; bits = bits_of_words dim draft.body.bits; attr = option_map (λ (b : Attr). b.text) attr; level = l }) h.2

  put_at : member_at new dim x ≡ drafted_member dim attr draft
  put_at = put_by (new x) added.there

  put_name : name_of new x ≡ name_of at x
  put_name = sym (member_name new m dim x) ∙ ap (λ y. y.name) put_at ∙ sym named

  live_same : (q : ℕ) → q ≢ x → is_some (new q) ≡ is_some (at q)
  live_same q ne = sym (live_bare (new q)) ∙ ap is_some (added.others q ne ∙ gone.others q ne) ∙ live_bare (at q)

  pub ids_again : AreIds new ids
  ids_again = same_ids at new x ids are gone.was (some_and (new x) _ added.there) live_same

  pub members_again : members_of new dim ids ≡ with_replaced (drafted_member dim attr draft) (members_of at dim ids)
  members_again = placed at m dim x ids good are gone.was new same_at put_name ∙ ap (λ y. with_replaced y (members_of at dim ids)) put_at
