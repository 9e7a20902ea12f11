use Rattle.std.proofs.Common.{◌<◌, ◌∷◌, [], ◌++◌, length, subst, sym, ap}
use Rattle.std.specs.Option.{option_map_or}
use Rattle.std.proofs.lemmas.Result.{on_ok_weaker}
use Rattle.vs_graph.specs.Edits.{overwritten}
use Rattle.vs_graph.specs.Good.{links_at, links_of}
use Rattle.vs_graph.specs.Table.{add}
use Rattle.vs_graph.specs.Relinks.{Relinks}
use Rattle.vs_graph.proofs.Relinking.{relinks_links, links_there, adds_then}
use Rattle.vs_link.proofs.changes.join.Goals as goal

pub push-requires : goal.push-requires
push-requires g c = subst (λ o. c.args.layer < option_map_or (λ n. length n.links) o 0) c.requires.there c.requires.y_stands

pub returns-clause-links : goal.returns-clause-links
returns-clause-links g c =
    let base = g.N.Nodes.at c.args.base.now in
    let at = overwritten c.args.edit.now base in
    let mid = overwritten c.put.new.self base in
    let there = links_there at c.args.layer c.args.y c.args.node c.requires.there in
    let one : Relinks at mid c.args.layer (add (links_at at c.args.layer) c.args.y c.args.x) =
    relinks_links base c.args.edit.now c.put.new.self c.args.layer c.args.y c.args.node c.push.new.self (links_of c.args.node c.args.layer ++ c.args.x ∷ []) _ c.in_ok-push.ensures.ok
    (ap (λ l. l ++ c.args.x ∷ []) (sym there)) c.requires.there c.requires.y_stands c.in_ok-put.ensures.ok in
    on_ok_weaker c.add_link.result (adds_then at mid (overwritten c.add_link.new.edit base) c.args.layer _ c.args.x c.args.y one) c.add_link.ensures.links
