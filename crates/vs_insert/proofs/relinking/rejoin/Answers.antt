use Rattle.std.proofs.Common.{ap}
use Rattle.vs_graph.specs.Edits.{overwritten}
use Rattle.vs_insert.specs.Choosing.{everyone}
use Rattle.vs_insert.specs.Rejoined.{IsRejoined}
use Rattle.vs_insert.proofs.Orphans.{rejoined_over}
use Rattle.vs_insert.proofs.Rejoining.{rejoins_named}
use Rattle.vs_insert.proofs.relinking.rejoin.Goals as goal

pub new-wanted-requires-clause-answers : goal.new-wanted-requires-clause-answers
new-wanted-requires-clause-answers g c = ∣ (everyone, c.requires.everyone) ∣₁

pub returns-clause-joined : goal.returns-clause-joined
returns-clause-joined g c =
    let s = c.args.graph.now in
    let made = c.in_ok-link_layer.ensures in
    rejoined_over c.args.edit.now c.link_layer.new.edit (g.N.Nodes.at c.nodes.result.now) (g.N.Nodes.at s.nodes) c.m.result s.m s.dim c.args.entry c.args.orphan.layer c.args.orphan.id c.as_slice.result.now c.in_ok-chosen.chosen
    (ap g.N.Nodes.at c.nodes.ensures.nodes) c.m.ensures.m c.as_slice.ensures c.in_ok-chosen.ensures c.requires.can.another c.requires.can.links made.links made.good made.kept made.own

pub returns-clause-rejoins : goal.returns-clause-rejoins
returns-clause-rejoins g c =
    let s = c.args.graph.now in
    let at = g.N.Nodes.at s.nodes in
    let now = overwritten c.args.edit.now at in
    let new = overwritten c.link_layer.new.edit at in
    let made = c.in_ok-link_layer.ensures in
    let joined : IsRejoined at now new s.m s.dim c.args.entry c.args.orphan.layer c.args.orphan.id =
    rejoined_over c.args.edit.now c.link_layer.new.edit (g.N.Nodes.at c.nodes.result.now) at c.m.result s.m s.dim c.args.entry c.args.orphan.layer c.args.orphan.id c.as_slice.result.now c.in_ok-chosen.chosen
    (ap g.N.Nodes.at c.nodes.ensures.nodes) c.m.ensures.m c.as_slice.ensures c.in_ok-chosen.ensures c.requires.can.another c.requires.can.links made.links made.good made.kept made.own in
    λ x cut ids are gone. rejoins_named at now new s.entry s.m s.dim c.args.entry c.args.orphan.layer c.args.orphan.id x cut ids c.nodes.ensures.good are gone c.requires.can.links c.requires.can.top c.requires.can.stands c.requires.can.free c.requires.can.another joined
