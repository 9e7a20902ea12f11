use Rattle.std.proofs.Common.{Some, sym, ap, ◌∙◌, subst, refl, inr, arith}
use Rattle.vs_graph.specs.Edits.{overwritten}
use Rattle.vs_graph.specs.Good.{IsEntry}
use Rattle.vs_insert.specs.Rejoined.{HasAnother}
use Rattle.vs_insert.proofs.Turns.{free_at}
use Rattle.vs_insert.proofs.removing.relink_if_alone.Goals as goal

pub has_another-requires-clause-top : goal.has_another-requires-clause-top
has_another-requires-clause-top g c =
    subst (λ k. IsEntry (overwritten c.args.edit.now (g.N.Nodes.at k)) (Some c.args.entry)) (sym c.nodes-nodes.ensures.nodes) c.requires.top

pub relink-requires-clause-can : goal.relink-requires-clause-can
relink-requires-clause-can g c =
    let now = overwritten c.args.edit.now (g.N.Nodes.at c.args.graph.now.nodes) in
    let same = c.nodes-nodes.ensures.nodes in
    record {
      without = c.requires.without;
      links = c.requires.links;
      top = c.requires.top;
      stands = c.requires.stands;
      free = free_at now c.args.orphan.layer c.args.orphan.id c.live_node.result.now (ap (λ k. overwritten c.args.edit.now (g.N.Nodes.at k) c.args.orphan.id) (sym same) ∙ c.live_node.ensures.value)
          (omega (arith, c.if-degree-gt0.false, c.degree.ensures));
      another = subst (λ k. HasAnother (overwritten c.args.edit.now (g.N.Nodes.at k)) c.args.orphan.layer c.args.orphan.id) same (c.if-not-has_another.ensures.yes refl);
    }

pub returns : goal.returns
returns g c =
    let now = overwritten c.args.edit.now (g.N.Nodes.at c.args.graph.now.nodes) in
    let same = c.nodes-nodes.ensures.nodes in
    inr (record {
      free = free_at now c.args.orphan.layer c.args.orphan.id c.live_node.result.now (ap (λ k. overwritten c.args.edit.now (g.N.Nodes.at k) c.args.orphan.id) (sym same) ∙ c.live_node.ensures.value)
          (omega (arith, c.if-degree-gt0.false, c.degree.ensures));
      another = subst (λ k. HasAnother (overwritten c.args.edit.now (g.N.Nodes.at k)) c.args.orphan.layer c.args.orphan.id) same (c.if-not-has_another.ensures.yes refl);
      rest = c.in_ok-relink.ensures.rest;
      good = c.in_ok-relink.ensures.joined.good;
      kept = c.in_ok-relink.ensures.kept;
      own = c.in_ok-relink.ensures.joined.own;
      named = c.in_ok-relink.ensures.rejoins;
    })
