use Rattle.std.proofs.Common.{sym, ◌∙◌, subst}
use Rattle.vs_graph.specs.Edits.{overwritten}
use Rattle.vs_graph.specs.Good.{layers_at}
use Rattle.vs_link.specs.Linked.{AreChosen}
use Rattle.vs_graph_fixtures.proofs.Choosing.{chosen_none, chosen_more}
use Rattle.vs_graph_fixtures.proofs.picking.pick.Goals as goal
use Rattle.vs_graph_fixtures.proofs.picking.pick.Goals.{then-may_be_chosen+in_ok-push, else-may_be_chosen}

pub loop-id-init : goal.loop-id-init
loop-id-init g c = chosen_none (overwritten c.args.edit.now (g.N.Nodes.at c.args.base.now)) c.args.m c.args.x c.new-chosen.result c.new-chosen.ensures

pub loop-id-preserved : goal.loop-id-preserved
loop-id-preserved g c =
    let at = overwritten c.args.edit.now (g.N.Nodes.at c.args.base.now) in
    elim c.if-may_be_chosen.branch [
      | then-may_be_chosen+in_ok-push w ↦
          subst (λ l. AreChosen (layers_at at) 0 c.args.m c.args.x l) (sym (w.chosen-is ∙ w.in_ok-push.ensures.ok))
          (chosen_more at c.args.m c.requires.0 c.args.m c.args.x _ c.loop-id.chosen c.as_slice.result.now c.requires.1 c.loop-id.invariant c.as_slice.ensures (c.may_be_chosen.ensures w.if-may_be_chosen.true))
      | else-may_be_chosen w ↦ subst (λ l. AreChosen (layers_at at) 0 c.args.m c.args.x l) (sym w.chosen-is) c.loop-id.invariant
    ]
