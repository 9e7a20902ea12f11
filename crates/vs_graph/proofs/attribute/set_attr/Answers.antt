use Rattle.std.proofs.Common.{sym, ap, ◌∙◌, subst}
use Rattle.std.proofs.lemmas.Result.{on_ok_weaker}
use Rattle.vs_graph.specs.Attribute.{ChangesAttr}
use Rattle.vs_graph.specs.Edits.{overwritten}
use Rattle.vs_graph.specs.Good.{IsGood}
use Rattle.vs_graph.specs.Standing.{wiring_of}
use Rattle.vs_graph.proofs.Attributes.{good_still, links_still, wiring_still, attributed}
use Rattle.vs_graph.proofs.attribute.set_attr.Goals as goal

pub replace-requires : goal.replace-requires
replace-requires g c =
    let s = c.args.graph.now in
    let at = g.N.Nodes.at s.nodes in
    let new = overwritten c.in_ok-edit.edit at in
    let made = c.in_ok-edit.ensures in
    record { good = subst (λ e. IsGood new e s.m s.dim) (sym c.entry-entry.ensures.entry) (good_still at new c.args.id c.args.attr made.attr s.entry s.m s.dim made.good) }

pub returns-clause-links : goal.returns-clause-links
returns-clause-links g c =
    let at = g.N.Nodes.at c.args.graph.now.nodes in
    let new = g.N.Nodes.at c.replace.new.self.nodes in
    on_ok_weaker c.replace.result (λ r. links_still at new c.args.id c.args.attr (subst (λ f. ChangesAttr at f c.args.id c.args.attr) (sym r.nodes) c.in_ok-edit.ensures.attr)) c.replace.ensures.ok

pub returns-clause-wiring : goal.returns-clause-wiring
returns-clause-wiring g c =
    let s = c.args.graph.now in
    let at = g.N.Nodes.at s.nodes in
    let new = g.N.Nodes.at c.replace.new.self.nodes in
    on_ok_weaker c.replace.result
    (λ r ids.
    ap (λ e. wiring_of new e ids) (r.taken ∙ c.entry-entry.ensures.entry)
    ∙ wiring_still at new c.args.id c.args.attr (subst (λ f. ChangesAttr at f c.args.id c.args.attr) (sym r.nodes) c.in_ok-edit.ensures.attr) s.entry ids) c.replace.ensures.ok

pub returns-clause-members : goal.returns-clause-members
returns-clause-members g c =
    let s = c.args.graph.now in
    let at = g.N.Nodes.at s.nodes in
    let new = g.N.Nodes.at c.replace.new.self.nodes in
    on_ok_weaker c.replace.result
    (λ r ids are. attributed at new c.args.id c.args.attr (subst (λ f. ChangesAttr at f c.args.id c.args.attr) (sym r.nodes) c.in_ok-edit.ensures.attr) s.m s.dim ids c.in_ok-edit.ensures.good.links are c.requires.live)
    c.replace.ensures.ok
