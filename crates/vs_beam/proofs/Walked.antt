-- A walk goes on by one link.
use Rattle.std.proofs.Common.{◌<◌, ℕ, List}
use Rattle.std.specs.declared.option.Option.{Option}
use Rattle.vs_graph.specs.declared.node.Node.{Node}
use Rattle.vs_graph.specs.Good.{IsLinked}
use Rattle.vs_beam.specs.Beam.{far_at, Walks, stays, goes}

pub walks_on : (at : ℕ → Option Node) (query : List ℕ) (layer a b c : ℕ) → Walks at query layer a b → IsLinked at layer b c → far_at at query c < far_at at query b → Walks at query layer a c
walks_on at query layer a b c (stays id) link near = goes a c c link near (stays c)
walks_on at query layer a b c (goes x y z first closer rest) link near = goes x y c first closer (walks_on at query layer y b c rest link near)
