use Rattle.std.proofs.Common.{◌≡◌, ◌∙◌, sym, subst}
use Rattle.std.specs.Prelude.{Some}
use Rattle.vs_graph.specs.Good.{IsGood}
use Rattle.vs_beam.specs.Named.{IsNamedDescent}
use Rattle.vs_beam.proofs.Sets.{named_descent}
use Rattle.vs_beam.proofs.descent.descend.Goals as goal

pub returns-in-Some-clause-named : goal.returns-in-Some-clause-named
returns-in-Some-clause-named g c =
    let s = c.args.graph.now in
    let at = g.N.Nodes.at s.nodes in
    let d = c.descend_from.result in
    let entry : s.entry ≡ Some c.in-Some.entry = sym c.entry.ensures.entry ∙ c.in-Some.is in
    subst (λ e. IsNamedDescent at e s.m s.dim c.args.query.now c.args.to_layer d.start d.top d.at) (sym entry)
    (named_descent at c.in-Some.entry s.m s.dim c.args.query.now c.args.to_layer d.start d.top d.at (subst (λ e. IsGood at e s.m s.dim) entry c.descend_from.ensures.good) c.requires.fits c.requires.low c.descend_from.ensures.descent)
