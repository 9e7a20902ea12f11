use Rattle.std.proofs.Common.{◌<◌, ◌+◌, length, sym, subst, arith}
use Rattle.std.specs.Prelude.{IsSomeAnd, slice_get}
use Rattle.vs_truth.specs.Nearest.{KeepsBits}
use Rattle.vs_graph.specs.Standing.{members_of}
use Rattle.vs_order.specs.Entries.{ids_of}
use Rattle.vs_page.specs.Rows.{row_of_run}
use Rattle.vs_page.specs.Told.{row_at}
use Rattle.vs_set.proofs.Telling.{told}
use Rattle.vs_set.proofs.reading.SnapMembers.beside.Goals as goal

pub returns-clause-run : goal.returns-clause-run
returns-clause-run g c = λ some.
    let s = c.self.inside in
    let place = c.args.place in
    let run = c.beside-run.result in
    record {
      within = omega (arith, c.requires, c.beside-run.ensures.few);
      long = c.beside-run.ensures.long;
      each = λ k inside.
          let within : place + k < length c.args.self.now.contents.members = omega (arith, inside, c.requires, c.beside-run.ensures.few) in
          subst (λ x. IsSomeAnd (slice_get x.contents.members (place + k)) (λ member. KeepsBits member.bits (row_of_run run k))) c.self.view_is
          (told (row_at s.rows) (members_of (g.N.Nodes.at s.graph.nodes) s.graph.dim (ids_of s.order)) (place + k) (row_of_run run k) c.self.invariant.1
          (subst (λ x. place + k < length x.contents.members) (sym c.self.view_is) within) (c.beside-run.ensures.each k inside));
    }
