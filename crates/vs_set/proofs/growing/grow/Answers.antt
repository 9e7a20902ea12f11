use Rattle.std.proofs.Common.{◌≢◌, sym, ap, ◌∙◌, subst}
use Rattle.std.specs.Prelude.{IfSome}
use Rattle.vs_defs.specs.Words.{FitsDimension, bits_of_words}
use Rattle.vs_set.proofs.growing.grow.Goals as goal

pub insert-requires-clause-name : goal.insert-requires-clause-name
insert-requires-clause-name g c q = subst (λ n. IfSome (g.N.Nodes.at c.args.graph.now.nodes q) (λ other. other.body.name ≢ n)) (sym c.in_ok-body.ensures.name) (c.requires.name q)

pub insert-requires-clause-fits : goal.insert-requires-clause-fits
insert-requires-clause-fits g c = subst (λ d. FitsDimension d c.in_ok-body.body.bits) c.requires.dim c.in_ok-body.ensures.fits

pub returns-clause-grown : goal.returns-clause-grown
returns-clause-grown g c = record {
  body = c.in_ok-body.body;
  name = c.in_ok-body.ensures.name;
  bits = ap (λ d. bits_of_words d c.in_ok-body.body.bits) (sym c.requires.dim) ∙ c.in_ok-body.ensures.bits;
  attr = c.in_ok-attr.attr;
  text = c.in_ok-attr.ensures;
  has_is = c.is_some-has.ensures;
  inserted = c.in_ok-insert.ensures.inserted;
}
