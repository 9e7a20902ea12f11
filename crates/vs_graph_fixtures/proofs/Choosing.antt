-- Whom a member may be linked to, one by one.
use Rattle.std.proofs.Common.{◌≡◌, ◌≢◌, ℕ, ◌<◌, true, List, [], ◌∷◌, ◌++◌, length, refl, sym, subst, arith}
use Rattle.std.specs.Prelude.{Some, None, IsSome, IfSome}
use Rattle.std.specs.Option.{option_map_or}
use Rattle.std.specs.declared.option.Option.{Option}
use Rattle.std.proofs.lemmas.Bool.{both_ways}
use Rattle.std.proofs.lemmas.List.{length_push}
use Rattle.std.proofs.lemmas.List.Elements.{All-nil, All-push}
use Rattle.vs_graph.specs.declared.node.Node.{Node}
use Rattle.vs_graph.specs.Good.{IsGoodNode, AreLinksGood, layers_at}
use Rattle.vs_graph.proofs.Goods.{distinct_none}
use Rattle.vs_graph.proofs.Lists.{distinct_push}
use Rattle.vs_link.specs.Linked.{AreChosen}
use Rattle.vs_graph_fixtures.specs.Members.{MayBeChosen}

pub chosen_none : (at : ℕ → Option Node) (m x : ℕ) (xs : List ℕ) → xs ≡ [] → AreChosen (layers_at at) 0 m x xs
chosen_none at m x xs e = subst (λ l. AreChosen (layers_at at) 0 m x l) (sym e) (record { stand = All-nil (λ y. (0 < layers_at at y) × (y ≢ x)); once = distinct_none; few = omega arith })

has_layers : (o : Option Node) (m dim : ℕ) → IsSome o → IfSome o (IsGoodNode m dim) → 0 < option_map_or (λ node. length node.links) o 0
has_layers None m dim h g = absurd (both_ways true (sym h) refl)
has_layers (Some node) m dim h g = omega (arith, g.layers)

pub chosen_more : (at : ℕ → Option Node) (m dim most x id : ℕ) (chosen seen : List ℕ) → AreLinksGood at m dim → AreChosen (layers_at at) 0 most x chosen → seen ≡ chosen → MayBeChosen at seen id x most
    → AreChosen (layers_at at) 0 most x (chosen ++ id ∷ [])
chosen_more at m dim most x id chosen seen good are same may =
    let c : MayBeChosen at chosen id x most = subst (λ l. MayBeChosen at l id x most) same may in
    record {
      stand = All-push (λ y. (0 < layers_at at y) × (y ≢ x)) chosen id are.stand (has_layers (at id) m dim c.live (good.nodes id), c.other);
      once = distinct_push chosen id are.once c.absent;
      few = omega (arith, c.room, length_push chosen id);
    }
