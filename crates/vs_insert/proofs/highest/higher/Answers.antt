use Rattle.std.proofs.Common.{sym, ◌∙◌, subst}
use Rattle.vs_graph.specs.Edits.{overwritten}
use Rattle.vs_insert.specs.Height.{IsHighestBelow}
use Rattle.vs_insert.proofs.Heights.{lower_passes, higher_best, first_best}
use Rattle.vs_insert.proofs.highest.higher.Goals as goal

pub returns-in-Some-best : goal.returns-in-Some-best
returns-in-Some-best g c =
    let at = overwritten c.args.edit.now (g.N.Nodes.at c.args.base.now) in
    λ but ne h.
    lower_passes at but c.args.id c.in-Some-best.other c.in-Some.node.now c.live_node.result.now (sym c.in-Some.ensures.value) c.live_node.ensures.value (sym c.is_higher.ensures ∙ c.if-not-is_higher.true)
    (subst (IsHighestBelow at but c.args.id) c.in-Some-best.is h)

pub returns-in_default : goal.returns-in_default
returns-in_default g c =
    let at = overwritten c.args.edit.now (g.N.Nodes.at c.args.base.now) in
    λ but ne h.
    higher_best at but c.args.id c.in-Some-best.other c.in-Some.node.now c.live_node.result.now (sym c.in-Some.ensures.value) c.live_node.ensures.value ne (sym c.is_higher.ensures ∙ c.if-not-is_higher.false)
    (subst (IsHighestBelow at but c.args.id) c.in-Some-best.is h)

pub returns-in_default-2 : goal.returns-in_default-2
returns-in_default-2 g c =
    let at = overwritten c.args.edit.now (g.N.Nodes.at c.args.base.now) in
    λ but ne h. first_best at but c.args.id c.in-Some.node.now (sym c.in-Some.ensures.value) ne (subst (IsHighestBelow at but c.args.id) c.in_default.is h)
