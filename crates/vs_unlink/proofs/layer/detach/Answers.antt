use Rattle.std.proofs.Common.{◌≡◌, sym, ◌∙◌, arith}
use Rattle.vs_graph.specs.Edits.{overwritten}
use Rattle.vs_graph.specs.Good.{links_at}
use Rattle.vs_graph.proofs.Relinking.{links_there}
use Rattle.vs_unlink.proofs.Taking.{left_more, detached_all, neighbour_stands}
use Rattle.vs_unlink.proofs.layer.detach.Goals as goal

pub drop_link-requires : goal.drop_link-requires
drop_link-requires g c =
    let base = g.N.Nodes.at c.args.base.now in
    let at = overwritten c.args.edit.now base in
    let same : c.as_slice-y-items.result.now ≡ links_at at c.args.layer c.args.x =
    c.as_slice-y-items.ensures ∙ c.in_ok-former.ensures ∙ c.links.ensures ∙ sym (links_there at c.args.layer c.args.x c.live_node.result.now c.live_node.ensures.value) in
    neighbour_stands at (overwritten c.loop-y.edit base) c.args.layer c.requires.good.0 c.args.x _ c.as_slice-y-items.result.now c.loop-y.y-index (omega arith) c.requires.good.1 same c.loop-y.invariant

pub loop-y-preserved : goal.loop-y-preserved
loop-y-preserved g c =
    let base = g.N.Nodes.at c.args.base.now in
    left_more (overwritten c.args.edit.now base) (overwritten c.loop-y.edit base) (overwritten c.drop_link.new.edit base) c.args.layer c.args.x c.as_slice-y-items.result.now c.loop-y.y-index (omega arith) c.loop-y.invariant
    c.in_ok-drop_link.ensures.links

pub returns-clause-links : goal.returns-clause-links
returns-clause-links g c =
    let base = g.N.Nodes.at c.args.base.now in
    let at = overwritten c.args.edit.now base in
    let same : c.as_slice-y-items.result.now ≡ links_at at c.args.layer c.args.x =
    c.as_slice-y-items.ensures ∙ c.in_ok-former.ensures ∙ c.links.ensures ∙ sym (links_there at c.args.layer c.args.x c.live_node.result.now c.live_node.ensures.value) in
    detached_all at (overwritten c.loop-y.edit base) (overwritten c.clear_links.new.edit base) c.args.layer c.requires.good.0 c.args.x c.as_slice-y-items.result.now c.loop-y.y-index c.requires.good.1 same (omega arith) c.loop-y.invariant
    c.in_ok-clear_links.ensures
