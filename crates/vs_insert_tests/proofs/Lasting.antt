-- A draft's lists stay good while another member is added.
use Rattle.std.proofs.Common.{◌≡◌, ◌≢◌, ℕ, ◌<◌, ◌≤◌, List, [], get_or, refl, sym, ap, ◌∙◌, subst, arith}
use Rattle.std.specs.Prelude.{Some, None, IsSome, IsSomeAnd, option_map}
use Rattle.std.specs.Option.{option_map_or}
use Rattle.std.specs.declared.option.Option.{Option}
use Rattle.vs_graph.specs.declared.node.Node.{Node}
use Rattle.vs_graph.specs.declared.node.Attr.{Attr}
use Rattle.vs_graph.specs.Good.{body_at, StandsAt}
use Rattle.vs_graph.proofs.NodeLaws.{none_stands}
use Rattle.vs_unlink.proofs.Bare.{bare_stands, stands_bare, body_bare}
use Rattle.vs_insert.specs.declared.draft.Chosen.{Chosen}
use Rattle.vs_insert.specs.declared.draft.Draft.{Draft}
use Rattle.vs_insert.specs.Drafts.{chosen_at, AreChoices}
use Rattle.vs_insert.specs.Added.{AreDrafted, IsAdded}

-- an id that is no less than the limit is free
none_by : (o : Option Node) (n : ℕ) → (IsSome o → n < n) → o ≡ None
none_by None n h = refl
none_by (Some node) n h = absurd (omega (arith, h refl))

pub free_at : (base at : ℕ → Option Node) (limit : ℕ) → base ≡ at → ((id : ℕ) → IsSome (base id) → id < limit) → at limit ≡ None
free_at base at limit e h = ap (λ a. a limit) (sym e) ∙ none_by (base limit) limit (h limit)

module _ (at new : ℕ → Option Node) (entry : Option ℕ) (m dim id : ℕ) (attr : Option Attr) (draft : Draft) (free : at id ≡ None) (added : IsAdded at new entry m dim id attr draft) where
  not_new : (layer q : ℕ) → StandsAt at layer q → q ≢ id
  not_new layer q h is = none_stands (at id) layer free (subst (λ k. StandsAt at layer k) is h)

  stands_on : (layer q : ℕ) → StandsAt at layer q → StandsAt new layer q
  stands_on layer q h = stands_bare layer (new q) (subst (λ o. IsSomeAnd o (λ node. layer ≤ node.level)) (sym (added.others q (not_new layer q h))) (bare_stands layer (at q) h))

  body_on : (layer q : ℕ) → StandsAt at layer q → body_at new q ≡ body_at at q
  body_on layer q h = sym (body_bare (new q)) ∙ ap (option_map (λ node. node.body)) (added.others q (not_new layer q h)) ∙ body_bare (at q)

  choices_last : (layer : ℕ) (list : List Chosen) → AreChoices at m layer list → AreChoices new m layer list
  choices_last layer list are = record {
    stand = λ k d h. stands_on layer (get_or list k d).id (are.stand k d h);
    names = λ k d h. ap (λ o. option_map_or (λ body. body.name) o []) (body_on layer (get_or list k d).id (are.stand k d h)) ∙ are.names k d h;
    once = are.once;
    few = are.few;
  }

  pub drafted_last : (k level : ℕ) (chosen : List (List Chosen)) → k ≡ m → AreDrafted at m level chosen → AreDrafted new k level chosen
  drafted_last k level chosen e are =
      subst (λ n. AreDrafted new n level chosen) (sym e) (record { layers = are.layers; lists = λ layer. choices_last layer (chosen_at chosen layer) (are.lists layer) })
