use Rattle.std.proofs.Common.{◌≡◌, ◌<◌, ℕ, [], ◌∷◌, sym, ap, ◌∙◌, subst}
use Rattle.std.specs.Prelude.{None, IfSome, unwrap_or, option_map}
use Rattle.vs_graph.specs.NodeMap.{nodes_of}
use Rattle.vs_graph.specs.Edits.{overwritten}
use Rattle.vs_graph.proofs.Firsts.{nobody_good}
use Rattle.vs_link.proofs.tests.Draft.new.Goals as goal

pub invariant_of-result : goal.invariant_of-result
invariant_of-result c =
    let base = nodes_of c.in_ok-new.field-0 in
    let at = overwritten c.new-2.result base in
    let nobody : (id : ℕ) → at id ≡ None = λ id. ap (λ o. unwrap_or o (base id)) (c.new-2.ensures id) ∙ c.in_ok-new.ensures id in
    (nobody_good at nobody 4 64, λ q. subst (λ o. IfSome (option_map (λ node. node.body) o) (λ body. (body.name ≡ q ∷ []) × (q < 0))) (sym (nobody q)) tt)
