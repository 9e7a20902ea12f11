use Rattle.std.proofs.Common.{◌≡◌, ◌∷◌, [], ◌++◌, length, length-append, ap, ◌∙◌, arith}
use Rattle.vs_graph.specs.Said.{listed}
use Rattle.vs_graph.specs.Edits.{changed}
use Rattle.vs_graph.proofs.Listed.{SaysNow, listed_push, said_listed, says_at, below_now}
use Rattle.vs_graph.proofs.edit.Edit.list.Goals as goal

pub invariant_of-self-2 : goal.invariant_of-self-2
invariant_of-self-2 c =
    let old = c.args.self.now in
    let ids : c.push_reserved.new.self.items ≡ old.ids.items ++ c.args.id ∷ [] = c.push_reserved.ensures.items ∙ ap (λ xs. xs ++ c.args.id ∷ []) c.in_ok-reserve.ensures.items in
    let nodes : c.push_reserved-2.new.self.items ≡ old.nodes.items ++ c.args.node ∷ [] = c.push_reserved-2.ensures.items ∙ ap (λ xs. xs ++ c.args.node ∷ []) c.in_ok-reserve-2.ensures.items in
    let now : SaysNow (listed old.ids.items old.nodes.items) (listed c.push_reserved.new.self.items c.push_reserved-2.new.self.items) c.args.id c.args.node =
    λ q. (λ t. listed (ids t) (nodes t) q) ∙ listed_push old.ids.items old.nodes.items c.args.id c.args.node old.beside q in
    record {
      beside = omega (arith, ap length ids, ap length nodes, length-append old.ids.items (c.args.id ∷ []), length-append old.nodes.items (c.args.node ∷ []), old.beside);
      ends = below_now (changed old) _ c.args.id old.end c.max-self.result c.args.node (said_listed old.ids.items old.nodes.items c.push_reserved-2.new.self.items c.push_reserved.new.self.items old.more c.args.id c.args.node now)
          old.ends (omega (arith, c.max-self.ensures, c.from.ensures)) (omega (arith, c.max-self.ensures));
    }

pub returns-clause-ok : goal.returns-clause-ok
returns-clause-ok c =
    let old = c.args.self.now in
    let ids : c.push_reserved.new.self.items ≡ old.ids.items ++ c.args.id ∷ [] = c.push_reserved.ensures.items ∙ ap (λ xs. xs ++ c.args.id ∷ []) c.in_ok-reserve.ensures.items in
    let nodes : c.push_reserved-2.new.self.items ≡ old.nodes.items ++ c.args.node ∷ [] = c.push_reserved-2.ensures.items ∙ ap (λ xs. xs ++ c.args.node ∷ []) c.in_ok-reserve-2.ensures.items in
    let now : SaysNow (listed old.ids.items old.nodes.items) (listed c.push_reserved.new.self.items c.push_reserved-2.new.self.items) c.args.id c.args.node =
    λ q. (λ t. listed (ids t) (nodes t) q) ∙ listed_push old.ids.items old.nodes.items c.args.id c.args.node old.beside q in
    says_at old _ c.args.id c.args.node (said_listed old.ids.items old.nodes.items c.push_reserved-2.new.self.items c.push_reserved.new.self.items old.more c.args.id c.args.node now)
