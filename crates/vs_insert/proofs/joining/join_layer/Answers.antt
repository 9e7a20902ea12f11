use Rattle.std.proofs.Common.{◌∙◌}
use Rattle.vs_graph.specs.Edits.{overwritten}
use Rattle.vs_insert.proofs.Turning.{are_chosen, named_by_ids}
use Rattle.vs_insert.proofs.joining.join_layer.Goals as goal

pub link_layer-requires-clause-chosen : goal.link_layer-requires-clause-chosen
link_layer-requires-clause-chosen g c =
    are_chosen (overwritten c.args.edit.now (g.N.Nodes.at c.args.base.now)) c.args.m c.requires.good.0 c.args.layer c.args.x c.args.chosen.now c.as_slice.result.now (c.as_slice.ensures ∙ c.in_ok-ids.ensures) c.requires.good.2 c.requires.chosen c.requires.others

pub returns-clause-joined : goal.returns-clause-joined
returns-clause-joined g c =
    let base = g.N.Nodes.at c.args.base.now in
    let made = c.in_ok-link_layer.ensures in
    record {
      table = _;
      relinks = made.links;
      good = made.good;
      kept = made.kept;
      own = made.own;
      named = λ dim ids good are.
          named_by_ids (overwritten c.args.edit.now base) (overwritten c.link_layer.new.edit base) c.args.m dim c.args.x c.args.layer ids c.as_slice.result.now c.args.chosen.now c.args.fallback (c.as_slice.ensures ∙ c.in_ok-ids.ensures)
          (made.named dim ids good are);
    }
