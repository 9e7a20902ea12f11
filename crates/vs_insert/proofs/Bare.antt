-- What is the same of two maps of nodes that differ in links alone.
use Rattle.std.proofs.Common.{◌≡◌, ℕ, ◌≤◌, List, [], length, sym, ap, ◌∙◌, subst}
use Rattle.std.specs.Prelude.{is_some, IsSomeAnd, option_map}
use Rattle.std.specs.Option.{option_map_or}
use Rattle.std.specs.declared.option.Option.{Option}
use Rattle.std.proofs.Math.Path.{fun_ext}
use Rattle.vs_graph.specs.declared.node.Node.{Node}
use Rattle.vs_graph.specs.Good.{body_at, layers_at, StandsAt}
use Rattle.vs_graph.specs.Standing.{AreIds, member_at, members_of, name_of}
use Rattle.vs_laws.proofs.Lists.{map_same}
use Rattle.vs_unlink.specs.Unlinked.{bare}
use Rattle.vs_unlink.proofs.Leavings.{same_member_by}
use Rattle.vs_unlink.proofs.Bare.{body_bare, layers_bare, live_bare, bare_stands, stands_bare}

module _ (at new : ℕ → Option Node) (rest : (id : ℕ) → bare (new id) ≡ bare (at id)) where
  pub bodies_same : body_at new ≡ body_at at
  bodies_same = fun_ext (λ id. sym (body_bare (new id)) ∙ ap (option_map (λ node. node.body)) (rest id) ∙ body_bare (at id))

  pub names_same : name_of new ≡ name_of at
  names_same = ap (λ bodies. (λ (id : ℕ). option_map_or (λ body. body.name) (bodies id) [])) bodies_same

  pub layers_same : layers_at new ≡ layers_at at
  layers_same = fun_ext (λ id. sym (layers_bare (new id)) ∙ ap (λ o. option_map_or (λ node. length node.links) o 0) (rest id) ∙ layers_bare (at id))

  pub members_same : (dim : ℕ) (ids : List ℕ) → members_of new dim ids ≡ members_of at dim ids
  members_same dim ids = map_same (member_at new dim) (member_at at dim) ids (λ id. same_member_by (new id) (at id) dim (rest id))

  live_same : (id : ℕ) → is_some (new id) ≡ is_some (at id)
  live_same id = sym (live_bare (new id)) ∙ ap is_some (rest id) ∙ live_bare (at id)

  pub ids_on : (ids : List ℕ) → AreIds at ids → AreIds new ids
  ids_on ids are = record { once = are.once; live = λ id. are.live id ∙ sym (live_same id) }

  pub ids_back : (ids : List ℕ) → AreIds new ids → AreIds at ids
  ids_back ids are = record { once = are.once; live = λ id. are.live id ∙ live_same id }

  pub stands_on : (layer id : ℕ) → StandsAt at layer id → StandsAt new layer id
  stands_on layer id h = stands_bare layer (new id) (subst (λ o. IsSomeAnd o (λ node. layer ≤ node.level)) (sym (rest id)) (bare_stands layer (at id) h))

  pub stood : (layer id : ℕ) → StandsAt new layer id → StandsAt at layer id
  stood layer id h = stands_bare layer (at id) (subst (λ o. IsSomeAnd o (λ node. layer ≤ node.level)) (rest id) (bare_stands layer (new id) h))
