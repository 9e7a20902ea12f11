use Rattle.std.proofs.Common.{◌≡◌, map, sym, ap, ◌∙◌, subst}
use Rattle.std.proofs.lemmas.Result.{IfOk-weaker}
use Rattle.vs_graph.specs.Edits.{overwritten}
use Rattle.vs_graph.specs.Good.{body_at}
use Rattle.vs_unlink.specs.Named.{id_of, AreByName}
use Rattle.vs_unlink.proofs.ByName.{are_by_name}
use Rattle.vs_unlink.proofs.named.by_name.Goals as goal

pub returns : goal.returns
returns g c =
    let bodies = body_at (overwritten c.args.edit.now (g.N.Nodes.at c.args.base.now)) in
    IfOk-weaker c.ids_of.result (λ ids. ids ≡ map id_of c.deref.result.now) (AreByName bodies c.args.ids.now)
    (λ ids e.
    subst (AreByName bodies c.args.ids.now) (sym (e ∙ ap (map id_of) c.deref.ensures.value))
    (are_by_name bodies c.args.ids.now c.in_ok-all.all.items c.sort_unstable.new.self.items c.in_ok-all.ensures.ids c.in_ok-all.ensures.named c.sort_unstable.ensures.permutation c.sort_unstable.ensures.sorted))
    c.ids_of.ensures
