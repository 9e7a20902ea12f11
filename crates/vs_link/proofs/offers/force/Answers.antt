use Rattle.std.proofs.Common.{◌≡◌, ◌≤◌, length, ap, ◌∙◌, sym, subst, arith, true}
use Rattle.std.specs.Prelude.{Some, is_some, filter, nat_eq}
use Rattle.std.specs.List.{list_any}
use Rattle.std.proofs.lemmas.Result.{on_ok_weaker}
use Rattle.vs_graph.specs.Edits.{overwritten}
use Rattle.vs_graph.specs.Good.{links_at, body_at}
use Rattle.vs_graph.specs.Bodies.{words_at}
use Rattle.vs_link.specs.Picks.{farthest, nearest}
use Rattle.vs_graph.specs.Relinks.{Relinks}
use Rattle.vs_link.specs.Linked.{has_room}
use Rattle.vs_graph.proofs.Relinking.{links_there, words_there}
use Rattle.vs_graph.proofs.NodeLaws.{live_from_layers}
use Rattle.vs_link.proofs.Picked.{neighbours_live, farthest_in, nearest_in, filter_in, forced_to_roomy}
use Rattle.vs_link.proofs.offers.force.Goals as goal

pub survey-found-requires-clause-live : goal.survey-found-requires-clause-live
survey-found-requires-clause-live g c =
    let at = overwritten c.args.edit.now (g.N.Nodes.at c.args.base.now) in
    neighbours_live at c.args.layer c.args.most (links_at at c.args.layer) c.args.y c.links.result.now c.requires.good (c.links.ensures ∙ sym (links_there at c.args.layer c.args.y c.in_ok-own.own c.in_ok-own.ensures.value))

pub survey-found-requires-clause-from : goal.survey-found-requires-clause-from
survey-found-requires-clause-from g c =
    let at = overwritten c.args.edit.now (g.N.Nodes.at c.args.base.now) in
    (c.args.y, ap is_some c.in_ok-own.ensures.value, c.bits-from.ensures ∙ sym (words_there at c.args.y c.in_ok-own.own c.in_ok-own.ensures.value))

pub survey-found-requires-clause-to : goal.survey-found-requires-clause-to
survey-found-requires-clause-to g c =
    let at = overwritten c.args.edit.now (g.N.Nodes.at c.args.base.now) in
    (c.args.x, ap is_some c.live_node.ensures.value, c.bits-to.ensures ∙ sym (words_there at c.args.x c.live_node.result.now c.live_node.ensures.value))

pub live_copy-requires-in-Some-default : goal.live_copy-requires-in-Some-default
live_copy-requires-in-Some-default g c =
    let at = overwritten c.args.edit.now (g.N.Nodes.at c.args.base.now) in
    let t = links_at at c.args.layer in
    let z = c.in-Some-default.z in
    let same : t c.args.y ≡ c.links.result.now = links_there at c.args.layer c.args.y c.in_ok-own.own c.in_ok-own.ensures.value ∙ sym c.links.ensures in
    let to : c.bits-to.result.now ≡ words_at (body_at at) c.args.x = c.bits-to.ensures ∙ sym (words_there at c.args.x c.live_node.result.now c.live_node.ensures.value) in
    let picked : nearest (body_at at) c.args.x (filter (has_room c.args.most t) c.links.result.now) ≡ Some z = sym (c.survey-found.ensures.roomy c.args.x to) ∙ c.in-Some-default.is-0 in
    let inside : list_any (nat_eq z) c.links.result.now ≡ true = (filter_in (has_room c.args.most t) z c.links.result.now (nearest_in (body_at at) c.args.x (filter (has_room c.args.most t) c.links.result.now) z picked)).0 in
    live_from_layers at c.args.layer z (c.requires.good.stand c.args.y z (subst (λ l. list_any (nat_eq z) l ≡ true) (sym same) inside))

pub join-requires-in-Some-default-clause-y_stands : goal.join-requires-in-Some-default-clause-y_stands
join-requires-in-Some-default-clause-y_stands g c =
    let at = overwritten c.args.edit.now (g.N.Nodes.at c.args.base.now) in
    let t = links_at at c.args.layer in
    let z = c.in-Some-default.z in
    let same : t c.args.y ≡ c.links.result.now = links_there at c.args.layer c.args.y c.in_ok-own.own c.in_ok-own.ensures.value ∙ sym c.links.ensures in
    let to : c.bits-to.result.now ≡ words_at (body_at at) c.args.x = c.bits-to.ensures ∙ sym (words_there at c.args.x c.live_node.result.now c.live_node.ensures.value) in
    let picked : nearest (body_at at) c.args.x (filter (has_room c.args.most t) c.links.result.now) ≡ Some z = sym (c.survey-found.ensures.roomy c.args.x to) ∙ c.in-Some-default.is-0 in
    let inside : list_any (nat_eq z) c.links.result.now ≡ true = (filter_in (has_room c.args.most t) z c.links.result.now (nearest_in (body_at at) c.args.x (filter (has_room c.args.most t) c.links.result.now) z picked)).0 in
    c.requires.good.stand c.args.y z (subst (λ l. list_any (nat_eq z) l ≡ true) (sym same) inside)

pub displace-requires-clause-w_stands : goal.displace-requires-clause-w_stands
displace-requires-clause-w_stands g c =
    let at = overwritten c.args.edit.now (g.N.Nodes.at c.args.base.now) in
    let t = links_at at c.args.layer in
    let w = c.in-None-Some.w in
    let same : t c.args.y ≡ c.links.result.now = links_there at c.args.layer c.args.y c.in_ok-own.own c.in_ok-own.ensures.value ∙ sym c.links.ensures in
    let from : c.bits-from.result.now ≡ words_at (body_at at) c.args.y = c.bits-from.ensures ∙ sym (words_there at c.args.y c.in_ok-own.own c.in_ok-own.ensures.value) in
    let picked : farthest (body_at at) c.args.y c.links.result.now ≡ Some w = sym (c.survey-found.ensures.farthest c.args.y from) ∙ c.in-None-Some.is-1 in
    c.requires.good.stand c.args.y w (subst (λ l. list_any (nat_eq w) l ≡ true) (sym same) (farthest_in (body_at at) c.args.y c.links.result.now w picked))

pub returns-in_ok-other-in-Some-default-clause-links : goal.returns-in_ok-other-in-Some-default-clause-links
returns-in_ok-other-in-Some-default-clause-links g c =
    let base = g.N.Nodes.at c.args.base.now in
    let at = overwritten c.args.edit.now base in
    let t = links_at at c.args.layer in
    let z = c.in-Some-default.z in
    let same : t c.args.y ≡ c.links.result.now = links_there at c.args.layer c.args.y c.in_ok-own.own c.in_ok-own.ensures.value ∙ sym c.links.ensures in
    let to : c.bits-to.result.now ≡ words_at (body_at at) c.args.x = c.bits-to.ensures ∙ sym (words_there at c.args.x c.live_node.result.now c.live_node.ensures.value) in
    let picked : nearest (body_at at) c.args.x (filter (has_room c.args.most t) (t c.args.y)) ≡ Some z =
    ap (λ l. nearest (body_at at) c.args.x (filter (has_room c.args.most t) l)) same ∙ sym (c.survey-found.ensures.roomy c.args.x to) ∙ c.in-Some-default.is-0 in
    let full : c.args.most ≤ length (t c.args.y) = omega (arith, c.if-degree-most.false, c.degree.ensures, ap length (links_there at c.args.layer c.args.y c.in_ok-own.own c.in_ok-own.ensures.value)) in
    on_ok_weaker c.join-in-Some-default.result
    (subst (λ u. Relinks at (overwritten c.join-in-Some-default.new.edit base) c.args.layer u) (sym (forced_to_roomy (body_at at) c.args.most t c.args.x c.args.y z full picked)))
    c.join-in-Some-default.ensures.links
