-- A node without its links: what is seen of it.
use Rattle.std.proofs.Common.{◌≡◌, ℕ, ◌≤◌, List, [], length, map, refl}
use Rattle.std.specs.Prelude.{Some, None, is_some, IsSomeAnd, option_map}
use Rattle.std.specs.Option.{option_map_or}
use Rattle.std.specs.declared.option.Option.{Option}
use Rattle.std.proofs.lemmas.List.{length-map}
use Rattle.vs_graph.specs.declared.node.Node.{Node}
use Rattle.vs_unlink.specs.Unlinked.{bare}

pub live_bare : (o : Option Node) → is_some (bare o) ≡ is_some o
live_bare None = refl
live_bare (Some node) = refl

pub still_none : (o : Option Node) → bare o ≡ None → o ≡ None
still_none None e = refl
still_none (Some node) e = cc

pub body_bare : (o : Option Node) → option_map (λ node. node.body) (bare o) ≡ option_map (λ node. node.body) o
body_bare None = refl
body_bare (Some node) = refl

pub layers_bare : (o : Option Node) → option_map_or (λ node. length node.links) (bare o) 0 ≡ option_map_or (λ node. length node.links) o 0
layers_bare None = refl
layers_bare (Some node) = length-map node.links (λ list. [])

pub bare_stands : (layer : ℕ) (o : Option Node) → IsSomeAnd o (λ node. layer ≤ node.level) → IsSomeAnd (bare o) (λ node. layer ≤ node.level)
bare_stands layer None h = h
bare_stands layer (Some node) h = h

pub stands_bare : (layer : ℕ) (o : Option Node) → IsSomeAnd (bare o) (λ node. layer ≤ node.level) → IsSomeAnd o (λ node. layer ≤ node.level)
stands_bare layer None h = h
stands_bare layer (Some node) h = h
