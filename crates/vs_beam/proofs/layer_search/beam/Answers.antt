use Rattle.std.proofs.Common.{◌≡◌, ◌∙◌}
use Rattle.vs_beam.specs.Beam.{IsBeam}
use Rattle.vs_beam.proofs.Sets.{named_beam}
use Rattle.vs_beam.proofs.Runs.{short_links}
use Rattle.vs_beam.proofs.layer_search.beam.Goals as goal

pub run-requires-clause-stand : goal.run-requires-clause-stand
run-requires-clause-stand g c = rw c.nodes-nodes.ensures.nodes (c.nodes-nodes.ensures.good.links.stand c.args.layer)

pub run-requires-clause-short : goal.run-requires-clause-short
run-requires-clause-short g c = rw c.nodes-nodes.ensures.nodes (λ v. short_links _ _ _ _ c.args.layer v c.nodes-nodes.ensures.good)

pub returns-clause-beam : goal.returns-clause-beam
returns-clause-beam g c = λ passes answers.
    let s = c.in_ok-search.ensures.started in
    let found : c.from_vec.result ≡ c.run.new.self.best.keys = c.from_vec.ensures ∙ c.into_sorted.ensures in
    rw (found, ← s.from, ← s.effort, ← s.most, ← c.nodes-nodes.ensures.nodes) (c.in_ok-spent.ensures.beam passes answers)

pub returns-clause-named : goal.returns-clause-named
returns-clause-named g c = λ passes answers.
    let s = c.in_ok-search.ensures.started in
    let graph = c.args.graph.now in
    let at = g.N.Nodes.at graph.nodes in
    let found : c.from_vec.result ≡ c.run.new.self.best.keys = c.from_vec.ensures ∙ c.into_sorted.ensures in
    let beam : IsBeam at c.args.layer c.args.from c.args.query.now c.args.ef c.args.effort passes c.run.new.self.tried c.run.new.self.expanded c.from_vec.result =
    rw (found, ← s.from, ← s.effort, ← s.most, ← c.nodes-nodes.ensures.nodes) (c.in_ok-spent.ensures.beam passes answers) in
    named_beam at graph.entry graph.m graph.dim c.args.layer c.args.from c.args.query.now c.args.ef c.args.effort passes c.run.new.self.tried c.run.new.self.expanded c.from_vec.result c.nodes-nodes.ensures.good c.requires.fits c.requires.stands beam
