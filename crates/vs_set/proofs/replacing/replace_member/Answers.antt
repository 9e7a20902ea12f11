use Rattle.std.proofs.Common.{sym, ◌∙◌}
use Rattle.vs_set.proofs.Leaving.{name_free}
use Rattle.vs_set.proofs.replacing.replace_member.Goals as goal

pub grow-requires-clause-dim : goal.grow-requires-clause-dim
grow-requires-clause-dim g c = c.requires.dim ∙ sym c.in_ok-graph.ensures.dim

pub grow-requires-clause-free : goal.grow-requires-clause-free
grow-requires-clause-free g c = c.in_ok-graph.ensures.gone.gone

pub grow-requires-clause-small : goal.grow-requires-clause-small
grow-requires-clause-small g c = c.in_ok-graph.ensures.before.links.small c.args.id c.requires.live

pub grow-requires-clause-name : goal.grow-requires-clause-name
grow-requires-clause-name g c =
    let at = g.N.Nodes.at in
    let s = c.args.graph.now in
    name_free (at s.nodes) (at c.in_ok-graph.graph.nodes) s.m s.dim c.args.id c.args.add.now.name c.in_ok-graph.ensures.before.links c.in_ok-graph.ensures.gone c.requires.name

pub returns : goal.returns
returns g c = record {
  left = c.in_ok-graph.graph;
  attr = c.in_ok-attr.attr;
  was = c.in_ok-attr.ensures;
  had_is = c.is_some-had.ensures;
  out = c.in_ok-graph.ensures;
  grown = c.in_ok-has.ensures.grown;
}
