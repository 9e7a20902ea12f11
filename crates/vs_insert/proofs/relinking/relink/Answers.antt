use Rattle.std.proofs.lemmas.Result.{on_ok_weaker}
use Rattle.vs_graph.specs.Edits.{overwritten}
use Rattle.vs_unlink.proofs.Layers.{bare_kept}
use Rattle.vs_insert.proofs.Staying.{without_on, entry_on, kept_on}
use Rattle.vs_insert.proofs.relinking.relink.Goals as goal

pub returns-clause-without : goal.returns-clause-without
returns-clause-without g c =
    let at = g.N.Nodes.at c.args.graph.now.nodes in
    let now = overwritten c.args.edit.now at in
    let new = overwritten c.rejoin.new.edit at in
    on_ok_weaker c.rejoin.result (λ made x gone. without_on at now new x (bare_kept now new c.args.orphan.layer _ made.joined) gone) c.rejoin.ensures.joined

pub returns-clause-rest : goal.returns-clause-rest
returns-clause-rest g c =
    let at = g.N.Nodes.at c.args.graph.now.nodes in
    on_ok_weaker c.rejoin.result (λ made. bare_kept (overwritten c.args.edit.now at) (overwritten c.rejoin.new.edit at) c.args.orphan.layer _ made.joined) c.rejoin.ensures.joined

pub returns-clause-top : goal.returns-clause-top
returns-clause-top g c =
    let at = g.N.Nodes.at c.args.graph.now.nodes in
    let now = overwritten c.args.edit.now at in
    let new = overwritten c.rejoin.new.edit at in
    on_ok_weaker c.rejoin.result (λ made. entry_on now new c.args.entry (bare_kept now new c.args.orphan.layer _ made.joined) c.requires.can.top) c.rejoin.ensures.joined

pub returns-clause-kept : goal.returns-clause-kept
returns-clause-kept g c =
    let at = g.N.Nodes.at c.args.graph.now.nodes in
    on_ok_weaker c.rejoin.result (λ made. kept_on (overwritten c.args.edit.now at) (overwritten c.rejoin.new.edit at) c.args.orphan.layer _ made.joined made.kept) c.rejoin.ensures.joined
