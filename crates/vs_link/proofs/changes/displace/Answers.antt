use Rattle.std.proofs.Common.{◌<◌, ◌∷◌, [], ◌++◌, length, length-set, ℕ, refl, subst, sym, ap, ◌∙◌, arith}
use Rattle.std.specs.Option.{option_map_or}
use Rattle.std.proofs.lemmas.Result.{on_ok_weaker}
use Rattle.vs_graph.specs.Edits.{overwritten}
use Rattle.vs_graph.specs.Good.{links_at, links_of}
use Rattle.vs_graph.specs.Table.{put, leave, without}
use Rattle.vs_graph.specs.Relinks.{Relinks}
use Rattle.vs_graph.proofs.Relinking.{relinks_links, changed_then_added, same_layers, links_there, adds_then, leaves_then}
use Rattle.vs_link.proofs.changes.displace.Goals as goal

pub remove-requires : goal.remove-requires
remove-requires g c = subst (λ o. c.args.layer < option_map_or (λ n. length n.links) o 0) c.requires.there c.requires.y_stands

pub push-requires : goal.push-requires
push-requires g c =
    let inside : c.args.layer < length c.args.node.links = subst (λ o. c.args.layer < option_map_or (λ n. length n.links) o 0) c.requires.there c.requires.y_stands in
    omega (arith, inside, ap length c.remove.ensures, length-set c.args.node.links c.args.layer (without c.args.w (links_of c.args.node c.args.layer)))

pub add_link-requires : goal.add_link-requires
add_link-requires g c =
    let base = g.N.Nodes.at c.args.base.now in
    let at = overwritten c.args.edit.now base in
    let mid = overwritten c.put.new.self base in
    let next = overwritten c.drop_link.new.edit base in
    let t = links_at at c.args.layer in
    let inside : c.args.layer < length c.args.node.links = subst (λ o. c.args.layer < option_map_or (λ n. length n.links) o 0) c.requires.there c.requires.y_stands in
    let left = without c.args.w (links_of c.args.node c.args.layer) in
    let one : Relinks at mid c.args.layer (put t c.args.y (left ++ c.args.x ∷ [])) =
    relinks_links base c.args.edit.now c.put.new.self c.args.layer c.args.y c.args.node c.push.new.self (left ++ c.args.x ∷ []) (left ++ c.args.x ∷ [])
    (changed_then_added c.args.node.links c.remove.new.self c.push.new.self c.args.layer c.args.x left inside c.remove.ensures c.in_ok-push.ensures.ok) refl c.requires.there c.requires.y_stands c.in_ok-put.ensures.ok in
    subst (λ (f : ℕ → ℕ). c.args.layer < f c.args.x) (sym (same_layers mid next c.args.layer _ c.in_ok-drop_link.ensures.links ∙ same_layers at mid c.args.layer _ one)) c.requires.x_stands

pub returns-clause-links : goal.returns-clause-links
returns-clause-links g c =
    let base = g.N.Nodes.at c.args.base.now in
    let at = overwritten c.args.edit.now base in
    let mid = overwritten c.put.new.self base in
    let next = overwritten c.drop_link.new.edit base in
    let t = links_at at c.args.layer in
    let there = links_there at c.args.layer c.args.y c.args.node c.requires.there in
    let inside : c.args.layer < length c.args.node.links = subst (λ o. c.args.layer < option_map_or (λ n. length n.links) o 0) c.requires.there c.requires.y_stands in
    let left = without c.args.w (links_of c.args.node c.args.layer) in
    let one : Relinks at mid c.args.layer (put t c.args.y (without c.args.w (t c.args.y) ++ c.args.x ∷ [])) =
    relinks_links base c.args.edit.now c.put.new.self c.args.layer c.args.y c.args.node c.push.new.self (left ++ c.args.x ∷ []) _
    (changed_then_added c.args.node.links c.remove.new.self c.push.new.self c.args.layer c.args.x left inside c.remove.ensures c.in_ok-push.ensures.ok)
    (ap (λ l. without c.args.w l ++ c.args.x ∷ []) (sym there)) c.requires.there c.requires.y_stands c.in_ok-put.ensures.ok in
    let two : Relinks at next c.args.layer (leave (put t c.args.y (without c.args.w (t c.args.y) ++ c.args.x ∷ [])) c.args.w c.args.y) =
    leaves_then at mid next c.args.layer _ c.args.w c.args.y one c.in_ok-drop_link.ensures.links in
    on_ok_weaker c.add_link.result (adds_then at next (overwritten c.add_link.new.edit base) c.args.layer _ c.args.x c.args.y two) c.add_link.ensures.links
