use Rattle.std.proofs.Common.{Some, sym, ap, ◌∙◌}
use Rattle.vs_defs.specs.Removal as rules
use Rattle.vs_graph.specs.Edits.{overwritten}
use Rattle.vs_graph.specs.Standing.{name_of, set_of}
use Rattle.vs_graph.specs.Table.{without}
use Rattle.vs_insert.proofs.Leavings.{ids_left}
use Rattle.vs_insert.proofs.Entries.{entry_named, entry_new, entry_live, other_of, highest_now, best_over, named_over}
use Rattle.vs_insert.proofs.removing.entry_without.Goals as goal

pub returns-then-entry-x-clause-named : goal.returns-then-entry-x-clause-named
returns-then-entry-x-clause-named g c cut ids are =
    let s = c.args.graph.now in
    let at = g.N.Nodes.at s.nodes in
    entry_named at s.m s.dim cut c.args.x c.in-Some.entry ids c.nodes-nodes.ensures.good.links are c.requires.without.was
    (entry_live at s.entry c.in-Some.entry c.in-Some.ensures.entry c.nodes-nodes.ensures.good.top) c.if-entry-x.true
    ∙ ap (λ o. rules.entry_without (name_of at c.args.x) (set_of at o s.m s.dim cut ids)) c.in-Some.ensures.entry

pub returns-clause-top : goal.returns-clause-top
returns-clause-top g c =
    let s = c.args.graph.now in
    let at = g.N.Nodes.at s.nodes in
    highest_now (overwritten c.args.edit.now at) c.args.x c.highest_but.result c.requires.without.gone
    (best_over c.args.edit.now (g.N.Nodes.at c.nodes-nodes.result.now) at c.args.x c.highest_but.result (ap g.N.Nodes.at c.nodes-nodes.ensures.nodes) c.highest_but.ensures.best)

pub returns-clause-named : goal.returns-clause-named
returns-clause-named g c cut ids are =
    let s = c.args.graph.now in
    let at = g.N.Nodes.at s.nodes in
    let now = overwritten c.args.edit.now at in
    let same = ap g.N.Nodes.at c.nodes-nodes.ensures.nodes in
    let base = g.N.Nodes.at c.nodes-nodes.result.now in
    let best = best_over c.args.edit.now base at c.args.x c.highest_but.result same c.highest_but.ensures.best in
    let named = named_over c.args.edit.now base at c.args.x c.highest_but.result same c.highest_but.ensures.named in
    entry_new at now s.m s.dim cut c.args.x c.highest_but.result ids c.nodes-nodes.ensures.good.links are c.requires.without (other_of now c.args.x c.highest_but.result (best 0))
    (named s.m s.dim (without c.args.x ids) c.requires.links (ids_left at now c.args.x s.m s.dim ids c.nodes-nodes.ensures.good.links are c.requires.without))
    ∙ ap (λ o. rules.entry_without (name_of at c.args.x) (set_of at o s.m s.dim cut ids)) (ap Some (sym c.if-entry-x.false) ∙ c.in-Some.ensures.entry)
