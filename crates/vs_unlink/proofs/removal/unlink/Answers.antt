use Rattle.std.proofs.Common.{◌≡◌, ℕ, sym, ap, ◌∙◌, subst, length}
use Rattle.std.proofs.Math.Path.{fun_ext}
use Rattle.std.specs.Prelude.{All}
use Rattle.std.specs.Option.{option_map_or}
use Rattle.std.proofs.lemmas.Result.{IfOk-weaker}
use Rattle.vs_graph.specs.Edits.{overwritten}
use Rattle.vs_graph.specs.Good.{links_at, links_of}
use Rattle.vs_graph.specs.Good.{body_at}
use Rattle.vs_graph.specs.Good.{layers_at}
use Rattle.vs_graph.proofs.Relinking.{links_there}
use Rattle.vs_unlink.specs.Orphans.{IsLeftAlone, Lists, ListsByNames, KeepsLinkedBut}
use Rattle.vs_unlink.specs.Unlinked.{IsWithout, UnlinksByNames}
use Rattle.vs_unlink.proofs.Bynames.{unlinks_named}
use Rattle.vs_unlink.proofs.Listed.{kept_but}
use Rattle.vs_unlink.proofs.Listing.{former_live}
use Rattle.vs_unlink.proofs.OrphanNames.{orphans_named}
use Rattle.vs_unlink.proofs.Remaining.{without_out, orphans_left}
use Rattle.vs_unlink.proofs.removal.unlink.Goals as goal

pub orphans-requires : goal.orphans-requires
orphans-requires g c =
    let base = g.N.Nodes.at c.args.base.now in
    former_live (overwritten c.args.edit.now base) (overwritten c.take_out.new.edit base) c.args.x c.requires.good.0 c.requires.good.1.0 c.in_ok-own.own c.in_ok-own.ensures.was c.requires.good.1.2 c.in_ok-own.ensures.out

pub returns-clause-orphans : goal.returns-clause-orphans
returns-clause-orphans g c =
    let base = g.N.Nodes.at c.args.base.now in
    let at = overwritten c.args.edit.now base in
    let new = overwritten c.take_out.new.edit base in
    let former : links_of c.in_ok-own.own ≡ (λ (l : ℕ). links_at at l c.args.x) = fun_ext (λ l. sym (links_there at l c.args.x c.in_ok-own.own c.in_ok-own.ensures.was)) in
    let count : c.len-count.result ≡ layers_at at c.args.x = c.len-count.ensures ∙ sym (ap (λ o. option_map_or (λ node. length node.links) o 0) c.in_ok-own.ensures.was) in
    IfOk-weaker c.orphans.result _ _
    (λ all h.
    subst (λ n. Lists (body_at new) (links_at new) (λ (l : ℕ). links_at at l c.args.x) n 0 all) count
    (subst (λ f. Lists (body_at new) (links_at new) f c.len-count.result 0 all) former h)) c.orphans.ensures

pub returns-clause-unlinks : goal.returns-clause-unlinks
returns-clause-unlinks g c =
    let base = g.N.Nodes.at c.args.base.now in
    let at = overwritten c.args.edit.now base in
    let new = overwritten c.take_out.new.edit base in
    IfOk-weaker c.orphans.result _ (λ all. UnlinksByNames at new c.args.x)
    (λ all h entry m dim cut ids good are. unlinks_named at new c.args.x m dim ids good are c.requires.live c.in_ok-own.ensures.out cut entry) c.orphans.ensures

pub returns-clause-named : goal.returns-clause-named
returns-clause-named g c =
    let base = g.N.Nodes.at c.args.base.now in
    let at = overwritten c.args.edit.now base in
    let new = overwritten c.take_out.new.edit base in
    IfOk-weaker c.orphans.result (λ all. Lists (body_at new) (links_at new) (λ l. links_at at l c.args.x) (layers_at at c.args.x) 0 all) (ListsByNames at new c.args.x)
    (λ all h entry m dim cut ids good are. orphans_named at new c.args.x m dim ids good are c.requires.live c.in_ok-own.ensures.out cut entry all h) (returns-clause-orphans g c)

pub returns-clause-kept : goal.returns-clause-kept
returns-clause-kept g c =
    let base = g.N.Nodes.at c.args.base.now in
    let at = overwritten c.args.edit.now base in
    let new = overwritten c.take_out.new.edit base in
    IfOk-weaker c.orphans.result (λ all. Lists (body_at new) (links_at new) (λ l. links_at at l c.args.x) (layers_at at c.args.x) 0 all) (KeepsLinkedBut at new c.args.x)
    (λ all h. kept_but at new c.args.x c.requires.good.0 c.requires.good.1.0 all c.requires.good.1.2 c.in_ok-own.ensures.out h) (returns-clause-orphans g c)

pub returns-clause-without : goal.returns-clause-without
returns-clause-without g c =
    let base = g.N.Nodes.at c.args.base.now in
    let at = overwritten c.args.edit.now base in
    let new = overwritten c.take_out.new.edit base in
    IfOk-weaker c.orphans.result _ (λ all. IsWithout at new c.args.x) (λ all h. without_out at new c.args.x (layers_at at c.args.x) c.requires.live c.in_ok-own.ensures.out) c.orphans.ensures

pub returns-clause-left : goal.returns-clause-left
returns-clause-left g c =
    let base = g.N.Nodes.at c.args.base.now in
    let at = overwritten c.args.edit.now base in
    let new = overwritten c.take_out.new.edit base in
    IfOk-weaker c.orphans.result (λ all. Lists (body_at new) (links_at new) (λ l. links_at at l c.args.x) (layers_at at c.args.x) 0 all) (λ all. All (IsLeftAlone new) all)
    (λ all h. orphans_left at new c.requires.good.0 c.requires.good.1.0 c.args.x all c.requires.good.1.2 (without_out at new c.args.x (layers_at at c.args.x) c.requires.live c.in_ok-own.ensures.out) h) (returns-clause-orphans g c)
