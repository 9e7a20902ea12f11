use Rattle.std.proofs.Common.{◌≡◌, ap, ◌∙◌, refl}
use Rattle.vs_graph.specs.Edits.{overwritten}
use Rattle.vs_graph.proofs.Renaming.{no_change}
use Rattle.vs_insert.proofs.Choices.{links_over}
use Rattle.vs_insert.proofs.Removal.{unlinked_over}
use Rattle.vs_insert.proofs.removing.unlinked.Goals as goal

pub unlink-requires-clause-good : goal.unlink-requires-clause-good
unlink-requires-clause-good g c =
    let base = g.N.Nodes.at c.nodes-nodes.result.now in
    let s = c.args.graph.now in
    let same : base ≡ g.N.Nodes.at s.nodes = ap g.N.Nodes.at c.nodes-nodes.ensures.nodes in (
      s.m,
      (
        s.dim,
        c.nodes-nodes.ensures.good.dim_high,
        links_over (overwritten c.new-edit.result base) (g.N.Nodes.at s.nodes) s.m s.m s.dim (no_change c.new-edit.result base c.new-edit.ensures ∙ same) refl c.nodes-nodes.ensures.good.links,
      ),
    )

pub returns-clause-unlinked : goal.returns-clause-unlinked
returns-clause-unlinked g c =
    let base = g.N.Nodes.at c.nodes-nodes.result.now in
    let s = c.args.graph.now in
    let same : base ≡ g.N.Nodes.at s.nodes = ap g.N.Nodes.at c.nodes-nodes.ensures.nodes in
    let start = overwritten c.new-edit.result base in
    let made = c.in_ok-orphans.ensures in
    unlinked_over c.unlink.new.edit base (g.N.Nodes.at s.nodes) start s.m s.dim c.args.x c.in_ok-orphans.orphans same (no_change c.new-edit.result base c.new-edit.ensures ∙ same) (record {
      gone = made.without;
      good = made.out.good s.m s.dim (links_over start (g.N.Nodes.at s.nodes) s.m s.m s.dim (no_change c.new-edit.result base c.new-edit.ensures ∙ same) refl c.nodes-nodes.ensures.good.links);
      alone = made.left;
      unlinks = made.unlinks;
      named = made.named;
      kept = made.kept;
    })
