use Rattle.std.proofs.Common.{◌<◌, ◌^◌, arith}
use Rattle.vs_graph.specs.Edits.{changed}
use Rattle.vs_page.specs.PagedNodes.{nodes_of}
use Rattle.vs_page.proofs.Below.{below_both}
use Rattle.vs_page.proofs.tests.publish.Goals as goal

pub publish-requires : goal.publish-requires
publish-requires c id h =
    below_both (changed c.args.edit id) (nodes_of c.args.nodes.now id) id (2 ^ 20)
    (λ s. omega (arith, c.end-end.ensures id s, c.if-end-gt1048576.false))
    (λ s. omega (arith, c.limit-limit.ensures id s, c.if-limit-gt1048576.false)) h
