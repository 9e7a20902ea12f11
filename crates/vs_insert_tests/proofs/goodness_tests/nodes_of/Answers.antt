use Rattle.std.proofs.Common.{◌≡◌, ◌<◌, ℕ, arith, subst, refl}
use Rattle.std.specs.Prelude.{IsSome, Some, None, unwrap_or, slice_get}
use Rattle.std.specs.declared.option.Option.{Option}
use Rattle.vs_graph.specs.declared.node.Node.{Node}
use Rattle.vs_graph.specs.Edits.{changed}
use Rattle.vs_insert_tests.proofs.goodness_tests.nodes_of.Goals as goal

said : (o : Option (Option Node)) (base : Option Node) → base ≡ None → IsSome (unwrap_or o base) → IsSome o
said None base e h = subst IsSome e h
said (Some x) base e h = refl

pub publish-requires : goal.publish-requires
publish-requires c id h =
    let none = c.in_ok-nodes.ensures id in
    let is_said : IsSome (changed c.loop-sketch.edit id) = said (changed c.loop-sketch.edit id) (unwrap_or (slice_get c.in_ok-nodes.nodes.list id) None) none h in
    omega (arith, c.end.ensures id is_said, c.if-end-le1048576.true)
