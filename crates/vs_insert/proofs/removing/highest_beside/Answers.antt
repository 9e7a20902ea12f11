use Rattle.vs_graph.specs.Edits.{overwritten}
use Rattle.vs_insert.proofs.Entries.{entry_beside, highest_beside}
use Rattle.vs_insert.proofs.removing.highest_beside.Goals as goal

pub returns-then-entry-y : goal.returns-then-entry-y
returns-then-entry-y g c = entry_beside (overwritten c.args.edit.now (g.N.Nodes.at c.args.base.now)) c.args.y c.args.entry c.requires.top c.if-entry-y.true

pub returns : goal.returns
returns g c = highest_beside (overwritten c.args.edit.now (g.N.Nodes.at c.args.base.now)) c.args.y c.highest_but.result c.highest_but.ensures.best
