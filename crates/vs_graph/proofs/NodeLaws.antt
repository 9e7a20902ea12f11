-- What is seen of one id's node.
--     words_same, fits_node       its words, and that they have the set's length
--     some_node, none_stands      who stands at a layer is live
--     live_from_layers            so is who has the layer
use Rattle.std.proofs.Common.{◌≡◌, ℕ, ◌<◌, ◌≤◌, [], length, refl, arith}
use Rattle.std.specs.Prelude.{Some, None, IsSome, IsSomeAnd, IfSome, option_map}
use Rattle.std.specs.Option.{option_map_or}
use Rattle.std.specs.declared.option.Option.{Option}
use Rattle.vs_defs.specs.Words.{FitsDimension}
use Rattle.vs_graph.specs.declared.node.Node.{Node}
use Rattle.vs_graph.specs.Good.{layers_at, IsGoodNode}

pub words_same : (o : Option Node) → option_map_or (λ node. node.body.bits) o [] ≡ option_map_or (λ body. body.bits) (option_map (λ node. node.body) o) []
words_same None = refl
words_same (Some node) = refl

pub fits_node : (layer m dim : ℕ) (o : Option Node) → IsSomeAnd o (λ node. layer ≤ node.level) → IfSome o (IsGoodNode m dim) → FitsDimension dim (option_map_or (λ body. body.bits) (option_map (λ node. node.body) o) [])
fits_node layer m dim None h g = absurd h
fits_node layer m dim (Some node) h g = g.words

pub some_node : (layer : ℕ) (o : Option Node) → IsSomeAnd o (λ node. layer ≤ node.level) → IsSome o
some_node layer None h = absurd h
some_node layer (Some node) h = refl

pub none_stands : (o : Option Node) (layer : ℕ) → o ≡ None → IsSomeAnd o (λ node. layer ≤ node.level) → ⊥
none_stands None layer e h = h
none_stands (Some node) layer e h = absurd cc

layers_live : (layer : ℕ) (o : Option Node) → layer < option_map_or (λ node. length node.links) o 0 → IsSome o
layers_live layer None h = absurd (omega arith)
layers_live layer (Some node) h = refl

pub live_from_layers : (at : ℕ → Option Node) (layer id : ℕ) → layer < layers_at at id → IsSome (at id)
live_from_layers at layer id h = layers_live layer (at id) h
