use Rattle.std.proofs.Common.{sym, subst}
use Rattle.std.specs.Prelude.{IsSomeAnd}
use Rattle.vs_graph.specs.Standing.{member_of_node}
use Rattle.vs_set.specs.Listed.{IsRowOf}
use Rattle.vs_set.proofs.FirstRows.{one_row}
use Rattle.vs_set.proofs.listing.row_of.Goals as goal

pub returns : goal.returns
returns g c =
    let dim = c.args.graph.now.dim in
    subst (λ o. IsSomeAnd o (λ node. IsRowOf dim (record { body = c.in_ok-body.body; attr = c.in_ok-attr.attr }) (member_of_node dim node))) (sym c.node_at-node.ensures.node)
    (one_row dim c.node_at-node.result.now c.in_ok-body.body c.in_ok-attr.attr c.in_ok-body.ensures c.in_ok-attr.ensures c.node_at-node.ensures.words)
