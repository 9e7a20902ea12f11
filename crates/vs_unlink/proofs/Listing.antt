-- The orphans of a layer, and of all.
use Rattle.std.proofs.Common.{◌≡◌, ◌≢◌, ℕ, ◌+◌, ◌-◌, ◌<◌, true, List, ◌++◌, length, get_or, sym, ap, ◌∙◌, subst, arith}
use Rattle.std.specs.Prelude.{nat_eq, Some, IsSome}
use Rattle.std.specs.List.{list_any}
use Rattle.std.specs.Option.{option_map_or}
use Rattle.std.specs.declared.option.Option.{Option}
use Rattle.vs_graph.specs.declared.node.Node.{Node}
use Rattle.vs_graph.specs.Good.{links_at, links_of, AreLinksGood}
use Rattle.vs_graph.specs.Bodies.{Bodies}
use Rattle.vs_graph.specs.Table.{Table, is_in}
use Rattle.vs_graph.specs.Good.{layers_at}
use Rattle.vs_graph.proofs.Relinking.{links_there}
use Rattle.vs_graph.proofs.Goods.{table_from}
use Rattle.vs_graph.proofs.NodeLaws.{live_from_layers}
use Rattle.vs_laws.proofs.Lists.{in_at}
use Rattle.std.proofs.lemmas.Bool.{both_ways}
use Rattle.vs_unlink.specs.declared.Orphan.{Orphan}
use Rattle.vs_unlink.specs.Orphans.{AreAlone, at_layer, Lists, next}
use Rattle.vs_unlink.specs.Unlinked.{IsTakenOut}
use Rattle.vs_unlink.proofs.Bare.{layers_bare}

-- the orphans with those of the next layer down
pub lists_more : (bodies : Bodies) (tables : ℕ → Table) (former : ℕ → List ℕ) (count layer : ℕ) (os all : List Orphan) → 0 < layer → Lists bodies tables former count layer os
    → (ids : List ℕ) × AreAlone bodies (tables (layer - 1)) (former (layer - 1)) ids × (all ≡ os ++ at_layer (layer - 1) ids) → Lists bodies tables former count (layer - 1) all
lists_more bodies tables former count layer os all h was step =
    let same : layer ≡ (layer - 1) + 1 = omega arith in
    subst (Lists bodies tables former count (layer - 1)) (sym step.2) (next (layer - 1) os step.0 (subst (λ n. Lists bodies tables former count n os) same was) step.1)

-- former neighbours are live after the removal
pub former_live : (at new : ℕ → Option Node) (x m dim : ℕ) (node : Node) → at x ≡ Some node → AreLinksGood at m dim → IsTakenOut at new x (layers_at at x) → (layer k d : ℕ) → k < length (links_of node layer) → IsSome (new (get_or (links_of node layer) k d))
former_live at new x m dim node was good out layer k d h =
    let table = table_from at m dim layer good in
    let y = get_or (links_of node layer) k d in
    let linked : is_in (links_at at layer) x y ≡ true = subst (λ l. list_any (nat_eq y) l ≡ true) (sym (links_there at layer x node was)) (in_at (links_of node layer) k d h) in
    let other : y ≢ x = λ e. both_ways (is_in (links_at at layer) x x) (table.apart x) (subst (λ z. is_in (links_at at layer) x z ≡ true) e linked) in
    live_from_layers new layer y
    (subst (λ n. layer < n) (sym (sym (layers_bare (new y)) ∙ ap (λ o. option_map_or (λ (n : Node). length n.links) o 0) (out.rest y other) ∙ layers_bare (at y))) (table.stand x y linked))
