use Rattle.std.proofs.Common.{◌≡◌, ◌∙◌}
use Rattle.vs_graph.specs.Standing.{members_of}
use Rattle.vs_order.specs.Entries.{ids_of}
use Rattle.vs_page.specs.Told.{row_at}
use Rattle.vs_set.proofs.Sames.{named_same, rows_same_graph}
use Rattle.vs_set.proofs.Telling.{rows_same}
use Rattle.vs_set.proofs.set.Set.snapshot.Goals as goal

pub invariant_of-result : goal.invariant_of-result
invariant_of-result g c =
    let s = c.self.inside in
    let at = g.N.Nodes.at in
    let t = c.in_ok-snapshot.field-0 in
    let order = c.in_ok-try_clone.field-0 in
    let rows = c.in_ok-try_clone-2.field-0 in
    let entries : order ≡ s.names.entries = c.in_ok-try_clone.ensures ∙ c.self.invariant.0.same in (
      named_same at t s.graph c.in_ok-snapshot.ensures order s.names.entries entries c.self.invariant.0.named,
      rows_same_graph at t s.graph c.in_ok-snapshot.ensures order s.names.entries entries rows
          (rows_same (row_at s.rows) (row_at rows) (members_of (at s.graph.nodes) s.graph.dim (ids_of s.names.entries)) c.self.invariant.1 c.in_ok-try_clone-2.ensures),
    )
