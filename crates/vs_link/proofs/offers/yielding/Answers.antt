use Rattle.std.proofs.Common.{ap, ◌∙◌, sym}
use Rattle.std.specs.Prelude.{is_some}
use Rattle.vs_graph.specs.Edits.{overwritten}
use Rattle.vs_graph.specs.Good.{links_at}
use Rattle.vs_graph.proofs.Relinking.{links_there, words_there}
use Rattle.vs_link.proofs.Picked.{neighbours_live}
use Rattle.vs_link.proofs.offers.yielding.Goals as goal

pub farthest_of-requires-clause-live : goal.farthest_of-requires-clause-live
farthest_of-requires-clause-live g c =
    let at = overwritten c.args.edit.now (g.N.Nodes.at c.args.base.now) in
    neighbours_live at c.args.layer c.requires.good.0 (links_at at c.args.layer) c.args.y c.links.result.now c.requires.good.1 (c.links.ensures ∙ sym (links_there at c.args.layer c.args.y c.args.own.now c.requires.there))

pub farthest_of-requires-clause-words : goal.farthest_of-requires-clause-words
farthest_of-requires-clause-words g c =
    let at = overwritten c.args.edit.now (g.N.Nodes.at c.args.base.now) in
    (c.args.y, ap is_some c.requires.there, c.bits-words.ensures ∙ sym (words_there at c.args.y c.args.own.now c.requires.there))
