use Rattle.std.proofs.Common.{◌≡◌, ap, ◌∙◌, refl}
use Rattle.vs_graph.specs.Edits.{overwritten}
use Rattle.vs_graph.proofs.Renaming.{no_change}
use Rattle.vs_insert.proofs.Choices.{links_over}
use Rattle.vs_insert_tests.proofs.removing.orphans_of.Goals as goal

pub unlink-requires-clause-good : goal.unlink-requires-clause-good
unlink-requires-clause-good g c =
    let base = g.N.Nodes.at c.nodes-nodes.result.now in
    let s = c.args.graph.now in
    let same : base ≡ g.N.Nodes.at s.nodes = ap g.N.Nodes.at c.nodes-nodes.ensures.nodes in (
      s.m,
      (
        s.dim,
        c.nodes-nodes.ensures.good.dim_high,
        links_over (overwritten c.new-edit.result base) (g.N.Nodes.at s.nodes) s.m s.m s.dim (no_change c.new-edit.result base c.new-edit.ensures ∙ same) refl c.nodes-nodes.ensures.good.links,
      ),
    )
